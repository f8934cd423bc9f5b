-- What the contracts of this crate cite.
pub mod Constraint
pub mod Impulse
pub mod FastPath
pub mod Velocities
pub mod Bodies
pub mod Solve
pub mod Laws
pub mod Order
pub mod Alone
pub mod Beside
