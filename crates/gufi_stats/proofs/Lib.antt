pub mod Grouped
pub mod Joined
pub mod Stems
pub mod LeafLemmas
