-- The lemmas of this crate.
pub mod Shares
pub mod Answered
pub mod Chunks
