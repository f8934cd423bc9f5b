-- What the contracts of this crate cite.
pub mod Fault
pub mod Fields
pub mod Numbers
pub mod Lines
pub mod Driver
pub mod Laws
pub mod Streams
pub mod Buffer
pub mod Words
