mod Worked
pub mod WordLemmas
pub mod PartLemmas
pub mod RowLemmas
pub mod HintLemmas
pub mod DepthLemmas
pub mod TokenLemmas
pub mod ReadLemmas
pub mod LineLemmas
pub mod Sharing
pub mod Sending
pub mod Searching
pub mod ReadBack
