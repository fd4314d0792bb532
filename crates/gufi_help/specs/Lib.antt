pub mod Channels
pub mod Inserted
pub mod Runs
pub mod Explaining
