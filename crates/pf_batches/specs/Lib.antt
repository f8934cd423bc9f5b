-- What the contracts of this crate cite.
pub mod Contact
pub mod Limits
pub mod Unknowns
pub mod Islands
