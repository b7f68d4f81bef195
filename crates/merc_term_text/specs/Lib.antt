pub mod Pieces
pub mod Written
pub mod ReadsAs
pub mod Walking
pub mod WrittenExamples
