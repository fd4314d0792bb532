pub mod PatternLemmas
pub mod Sharing
pub mod Sending
pub mod Searching
