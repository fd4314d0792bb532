pub mod Running
pub mod HintLemmas
pub mod RangeLemmas
pub mod LevelLemmas
pub mod ReadBack
