pub mod Below
pub mod Within
pub mod Order
pub mod Descents
pub mod Found
