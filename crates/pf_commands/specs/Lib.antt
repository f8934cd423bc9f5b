-- What the contracts of this crate cite.
pub mod Name
pub mod Coordinate
pub mod Payload
pub mod Frame
pub mod Merge
pub mod Ticks
pub mod News
pub mod Check
