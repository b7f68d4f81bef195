pub mod CellsLemmas
pub mod HeapLaws
pub mod EqualityLemmas
mod ComparisonLemmas
pub mod MetLemmas
pub mod NumberLemmas
mod FieldsExamples
mod HeapExamples
mod EqualityExamples
mod ComparisonExamples
