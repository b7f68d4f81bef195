pub mod Results
pub mod ResultsExamples
