-- What the contracts of this crate cite.
pub mod Dealing
pub mod Solving
pub mod Colliding
pub mod Crew
pub mod Work
