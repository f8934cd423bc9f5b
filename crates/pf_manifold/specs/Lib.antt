-- What the contracts of this crate cite.
pub mod ContactPoint
pub mod Manifold
pub mod PlacedShape
pub mod Face
pub mod Circles
pub mod BoxCircle
pub mod Separation
pub mod Reference
pub mod Incident
pub mod Clip
pub mod Boxes
pub mod Collide
pub mod Laws
pub mod Touches
pub mod Key
pub mod SameKeys
pub mod GeometryLaws
