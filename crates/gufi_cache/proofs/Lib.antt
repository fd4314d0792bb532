pub mod Putting
pub mod Paths
pub mod Present
pub mod Telling
