-- The lemmas of this crate.
pub mod Backward
pub mod Counted
