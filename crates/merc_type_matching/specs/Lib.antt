pub mod Weights
pub mod Matched
pub mod Listed
pub mod Matching
pub mod Kept
pub mod Linked
pub mod LinkedExamples
pub mod MatchingExamples
