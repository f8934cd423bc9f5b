-- What the contracts of this crate cite.
pub mod Failure
