-- What the contracts of this crate cite.
pub mod Ranked
pub mod Contact
pub mod Same
pub mod SameLaws
pub mod ContactRows
pub mod ContactsChange
pub mod KeySplices
pub mod Meter
pub mod Manifolds
pub mod PlacedBodies
pub mod Slots
pub mod Points
pub mod Live
pub mod Stale
pub mod Laws
