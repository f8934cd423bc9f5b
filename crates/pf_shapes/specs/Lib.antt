-- What the contracts of this crate cite.
pub mod Fixture
pub mod Cached
pub mod Body
pub mod Scene
pub mod SceneReader
pub mod Fault
pub mod Numbers
pub mod SceneText
pub mod SceneRead
pub mod Reach
pub mod Bounds
pub mod Pair
pub mod Laws
pub mod Same
pub mod SameLaws
pub mod SceneEncoding
