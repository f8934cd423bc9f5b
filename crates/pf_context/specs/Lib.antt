-- What the contracts of this crate cite.
pub mod Table
pub mod Loan
pub mod Context
pub mod Errors
pub mod Numbers
pub mod Calls
pub mod Plain
pub mod Worlds
pub mod Frames
pub mod Merging
