mod ValueExamples
mod BlockExamples
mod TextExamples
pub mod BlockLaws
pub mod Values
pub mod WritingLemmas
pub mod SharingLemmas
pub mod WordEquality
mod WritingExamples
mod SharingExamples
