pub mod Accounts
pub mod Jobs
pub mod Members
pub mod Openings
pub mod Forest
