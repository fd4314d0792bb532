pub mod Census
pub mod Info
