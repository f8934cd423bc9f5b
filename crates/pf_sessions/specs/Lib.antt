-- What the contracts of this crate cite.
pub mod Table
pub mod Links
pub mod Rest
pub mod Playing
pub mod Ending
pub mod Session
