-- What the contracts of this crate cite.
pub mod Pairs
pub mod Cell
pub mod CellHasher
pub mod Grid
pub mod Stored
pub mod Partners
pub mod Enlarged
pub mod Laws
