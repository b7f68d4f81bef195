pub mod Runs
pub mod Sharing
pub mod KeepsTo
pub mod Plain
pub mod PlainExamples
