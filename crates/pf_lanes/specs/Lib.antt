-- What the contracts of this crate cite.
pub mod Lanes
pub mod Doubles
pub mod Shifted
