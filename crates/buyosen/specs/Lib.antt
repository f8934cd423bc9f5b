-- What the contracts of the calls that this crate gathers cite.
pub mod Error
pub use Rattle.pf_shapes.specs.Scene
pub use Rattle.pf_shapes.specs.Fixture
pub use Rattle.pf_shapes.specs.Body
pub use Rattle.pf_commands.specs.Check
pub use Rattle.pf_commands.specs.Frame
pub use Rattle.pf_commands.specs.Merge
pub use Rattle.pf_commands.specs.News
pub use Rattle.pf_step.specs.World
pub use Rattle.pf_step.specs.Simulation
pub use Rattle.pf_rollback.specs.Calls
pub use Rattle.pf_rollback.specs.Core
pub use Rattle.pf_rollback.specs.Kept
pub use Rattle.pf_rollback.specs.Peer
pub use Rattle.pf_rollback.specs.Settling
pub use Rattle.pf_workers.specs.Crew
