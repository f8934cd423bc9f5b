-- The lemmas of this crate.
-- Commands and their numbers.
pub mod Numbers
pub mod Issued
pub mod Allowed
pub mod Late
-- Kept ticks and worlds.
pub mod KeptTicks
pub mod RecentWorlds
pub mod KeptWorlds
pub mod SealedWorlds
pub mod Settling
pub mod Simulation
pub mod Worlds
pub mod Seals
-- Peer cores.
pub mod Cores
pub mod Rising
