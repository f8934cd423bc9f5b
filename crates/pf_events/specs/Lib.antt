-- What the contracts of this crate cite.
pub mod Session
pub mod Answers
pub mod Crews
pub mod Laws
