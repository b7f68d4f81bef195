pub mod Places
pub mod PlacesExamples
pub mod Testing
pub mod Outputs
pub mod Putting
pub mod Writing
pub mod WritingExamples
