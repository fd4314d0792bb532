pub mod NoMatch
pub mod Normal
pub mod Sides
pub mod Laws
