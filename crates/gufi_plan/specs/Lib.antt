pub mod Plan
pub mod Asks
pub mod Bounds
pub mod Faults
pub mod Settings
pub mod Phases
pub mod Known
