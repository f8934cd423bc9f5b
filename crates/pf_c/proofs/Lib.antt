-- The lemmas of this crate.
pub mod Named
pub mod SameKind
pub mod Steps
pub mod Words
