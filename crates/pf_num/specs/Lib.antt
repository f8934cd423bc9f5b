-- What the contracts of this crate cite.
pub mod Round
pub mod Root
pub mod Fx
