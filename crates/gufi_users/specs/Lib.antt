pub mod Entries
pub mod Users
pub mod Places
pub mod Rows
pub mod Members
