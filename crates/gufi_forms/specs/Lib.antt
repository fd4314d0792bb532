pub mod Escapes
pub mod Names
pub mod Cells
pub mod Objects
pub mod ObjectTokens
pub mod Forms
