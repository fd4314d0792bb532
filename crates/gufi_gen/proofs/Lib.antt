mod Worked
pub mod Lines
pub mod MadeNames
pub mod MadeTrees
pub mod MadeRows
pub mod MadeBack
