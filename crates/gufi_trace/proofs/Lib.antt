pub mod Streams
pub mod Feeds
pub mod ListTexts
pub mod RowsBack
pub mod TreeBack
pub mod TraceBack
pub mod Checks
pub mod LineTrees
pub mod TreesRead
mod Worked
