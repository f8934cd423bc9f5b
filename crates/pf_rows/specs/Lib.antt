-- What the contracts of this crate cite.
pub mod Impulses
pub mod ImpulsesLaws
pub mod Row
pub mod Small
