pub mod Indexing
pub mod IndexingExamples
pub mod Known
pub mod KnownExamples
