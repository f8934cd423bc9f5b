-- What the contracts of this crate cite.
pub mod Levels
pub mod Links
pub mod Order
pub mod Overlap
pub mod SoFar
