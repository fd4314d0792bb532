pub mod PathLists
pub mod PathLines
pub mod PathPlaces
pub mod RowLists
pub mod LaidLines
pub mod Runs
