-- What the contracts of this crate cite.
pub mod Limits
pub mod Prepared
pub mod LaneRow
pub mod Bundle
pub mod Unknowns
pub mod Seats
