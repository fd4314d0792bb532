pub mod Texts
pub mod Pieces
pub mod Listings
pub mod Columns
