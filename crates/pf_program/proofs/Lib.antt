-- The lemmas of this crate.
mod Entered
mod Faults
mod Sizes
mod Crews
