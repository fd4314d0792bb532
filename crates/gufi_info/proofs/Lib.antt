pub mod Counted
pub mod Versions
pub mod Lines
