pub mod Fitted
pub mod FittedExamples
pub mod Progress
