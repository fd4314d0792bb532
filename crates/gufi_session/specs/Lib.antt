pub mod Session
pub mod Loaded
pub mod Loading
pub mod Run
pub mod Ends
pub mod Hits
