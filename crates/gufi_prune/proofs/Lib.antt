pub mod SidesLemmas
pub mod NormalLemmas
