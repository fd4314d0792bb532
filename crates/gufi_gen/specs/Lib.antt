pub mod Generated
pub mod Lines
pub mod MadeTree
pub mod Laws
