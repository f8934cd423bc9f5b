-- The lemmas of this crate.
pub mod Odd
pub mod Signs
pub mod Shift
pub mod Nearest
pub mod Quotients
pub mod Roots
pub mod Range
pub mod Monotone
pub mod Operations
pub mod AtMostOne
pub mod Fractions
