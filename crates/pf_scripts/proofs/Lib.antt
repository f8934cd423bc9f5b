-- The lemmas of this crate.
pub mod Members
pub mod Maps
pub mod Fresh
pub mod Puts
pub mod Polls
pub mod Moves
pub mod Steps
pub mod Each
pub mod Faults
pub mod Ends
