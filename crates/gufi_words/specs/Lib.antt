pub mod WordTexts
pub mod WordNumbers
pub mod WordValues
pub mod CommandNames
pub mod WordOptions
pub mod WordPositionals
pub mod CommandWords
