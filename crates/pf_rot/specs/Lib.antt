-- What the contracts of this crate cite.
pub mod Vector
pub mod Rotation
pub mod Laws
