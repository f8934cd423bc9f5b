-- The lemmas of this crate.
pub mod InOrder
pub mod Insert
pub mod Places
pub mod Steps
