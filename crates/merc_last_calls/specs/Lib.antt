pub mod LastCalls
pub mod LastCallsExamples
pub mod LeanMeaning
pub mod Standing
