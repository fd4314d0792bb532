pub mod SameRecords
pub mod Least
pub mod Skips
pub mod Firsts
pub mod Passes
