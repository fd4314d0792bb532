pub mod Named
pub mod Labels
pub mod Reports
pub mod Numbers
pub mod Grouped
pub mod GroupLaws
pub mod Joined
pub mod Leaves
