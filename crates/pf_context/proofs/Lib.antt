-- The lemmas of this crate.
pub mod Buffers
pub mod Called
pub mod Later
pub mod History
pub mod Slots
