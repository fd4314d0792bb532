pub mod CanRoll
pub mod Below
pub mod Memo
