-- The lemmas of this crate.
pub mod Lists
pub mod Replying
pub mod Answered
pub mod Sent
