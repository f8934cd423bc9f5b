pub mod Arms
pub mod Bundles
pub mod Seats
