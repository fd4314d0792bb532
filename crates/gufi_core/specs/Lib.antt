pub mod Steps
pub mod Running
pub mod Forest
pub mod Interleavings
