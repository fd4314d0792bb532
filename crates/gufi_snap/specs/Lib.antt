pub mod Pieces
pub mod Snap
pub mod Refreshed
pub mod Kept
pub mod SumsByPlace
pub mod KnownByPlace
