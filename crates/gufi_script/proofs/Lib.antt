pub mod ReadLemmas
mod Sound
mod Worked
