-- The lemmas of this crate.
pub mod ByLane
pub mod Values
pub mod Sums
pub mod Rounding
pub mod Products
pub mod Shifting
pub mod Limits
pub mod Masks
pub mod Casts
pub mod Holding
pub mod Tests
pub mod Numbers
pub mod ShiftedNumbers
