-- What the contracts of this crate cite.
pub mod Frames
pub mod Peer
pub mod Script
pub mod Play
