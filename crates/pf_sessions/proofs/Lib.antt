-- The lemmas of this crate.
pub mod Zips
pub mod Transposes
pub mod Columns
pub mod Faults
pub mod Linked
pub mod Rests
pub mod Played
pub mod Worlds
pub mod Ends
pub mod Results
