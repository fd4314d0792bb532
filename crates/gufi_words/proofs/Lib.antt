pub mod Options
pub mod Delimited
pub mod Positionals
mod Worked
