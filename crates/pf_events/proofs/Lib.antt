-- The lemmas of this crate.
pub mod Parts
pub mod Cores
pub mod Sessions
pub mod Crews
pub mod Maps
pub mod Horizons
pub mod Calls
pub mod Shown
pub mod Refusals
pub mod Alike
pub mod Repeats
pub mod BothWays
