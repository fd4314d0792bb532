pub mod Asks
pub mod Ends
pub mod Keys
pub mod Pairs
pub mod SameKeys
