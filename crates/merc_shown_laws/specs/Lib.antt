pub mod Shows
pub mod ShownLaws
pub mod PlainLaws
pub mod ShowsExamples
pub mod ShownLawsExamples
pub mod PlainLawsExamples
