pub mod AskLemmas
mod PrefixLemmas
