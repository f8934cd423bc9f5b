-- What the contracts of this crate cite.
pub mod Horizon
pub mod Kept
pub mod Snapshots
pub mod Peer
pub mod Core
pub mod Calls
pub mod Settling
pub mod Sealing
