pub mod Joins
pub mod Marks
pub mod Places
pub mod Words
