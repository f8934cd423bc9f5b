-- What the contracts of this crate cite.
pub mod Operation
pub mod Chain
pub mod Tasks
