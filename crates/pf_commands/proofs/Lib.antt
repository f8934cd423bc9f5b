-- The lemmas of this crate.
-- Frames.
pub mod Digits
pub mod Fields
pub mod Frames
pub mod Encoding
-- Command maps.
pub mod Names
pub mod WeightOrder
pub mod Weights
pub mod Merging
pub mod Ranges
pub mod Lists
pub mod Changes
pub mod Stored
pub mod Spans
pub mod Ticks
pub mod Since
pub mod Lookups
pub mod News
-- Checks.
pub mod Checks
