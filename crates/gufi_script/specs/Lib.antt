pub mod Acts
pub mod Faults
pub mod ScriptText
pub mod ScriptWords
