pub mod Adding
pub mod Attaching
pub mod ChangesExamples
pub mod Deciding
pub mod Entries
mod Fixings
pub mod Equating
pub mod JoiningExamples
pub mod Joins
pub mod Meeting
pub mod SolutionsExamples
pub mod Visits
pub mod Weights
