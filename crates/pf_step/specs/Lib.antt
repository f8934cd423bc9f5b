-- What the contracts of this crate cite.
pub mod World
pub mod Work
pub mod WorldLaws
pub mod Commands
pub mod Step
pub mod Changes
pub mod Crew
pub mod Stepping
pub mod Simulation
pub mod Activity
pub mod Laws
pub use Rattle.pf_cache.specs.Meter
pub use Rattle.pf_islands.specs.Split
