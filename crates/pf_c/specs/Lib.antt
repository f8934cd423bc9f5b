-- What the contracts of this crate cite.
pub mod Buffers
pub mod Calls
pub mod Codes
pub mod Commands
pub mod Held
pub mod Kinds
pub mod Names
pub mod Opening
pub mod Scenes
pub mod Ticks
