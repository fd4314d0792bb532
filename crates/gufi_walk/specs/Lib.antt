pub mod Answer
pub mod Shown
pub mod Folds
pub mod Walk
pub mod Private
pub mod Chunks
pub mod Refusals
