pub mod Usages
pub mod Laws
pub mod UsageLines
pub mod Near
