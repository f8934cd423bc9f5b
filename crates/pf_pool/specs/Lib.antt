-- What the contracts of this crate cite.
pub mod Pool
pub mod Reply
pub mod Known
pub mod Slots
pub mod Asking
