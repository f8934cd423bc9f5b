-- The lemmas of this crate.
pub mod Parts
pub mod Digits
pub mod Taking
pub mod FirstLine
pub mod FirstByte
pub mod LinesOf
pub mod Progress
pub mod Buffered
pub mod Outputs
pub mod Ascii
pub mod DecimalText
pub mod Joined
pub mod Steps
