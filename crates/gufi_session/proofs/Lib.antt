pub mod Alike
pub mod Isolation
pub mod Joined
pub mod Loads
pub mod Replies
pub mod Runs
mod Worked
