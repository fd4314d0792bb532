pub mod PlanLemmas
pub mod AskLemmas
pub mod BoundLemmas
pub mod Sharing
mod Worked
