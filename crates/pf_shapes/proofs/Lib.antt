-- The lemmas of this crate.
pub mod Reaching
pub mod Sharing
pub mod Staying
pub mod Exact
pub mod Circles
pub mod Covering
pub mod SceneEncoding
pub mod Limits
pub mod Silence
pub mod Inertia
