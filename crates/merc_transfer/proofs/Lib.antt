pub mod LoadingLemmas
pub mod WritingLemmas
pub mod StatusExamples
pub mod LoadingExamples
pub mod WritingExamples
