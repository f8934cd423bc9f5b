-- What the contracts of this crate cite.
pub mod Reach
pub mod Group
pub mod Sleep
pub mod Forest
pub mod Marks
pub mod Island
pub mod Rows
pub mod Flags
pub mod Split
pub mod Settled
pub mod Dealing
pub mod Lone
pub mod Splitting
pub mod Join
pub mod Laws
