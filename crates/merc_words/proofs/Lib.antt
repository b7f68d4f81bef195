pub mod Digits
pub mod Options
pub mod Requests
pub mod Reading
pub mod Asked
pub mod Parting
pub mod OptionsExamples
pub mod WordsExamples
