pub mod Steps
pub mod StepsExamples
pub mod ProgramCode
pub mod ProgramCodeExamples
pub mod Meaning
pub mod MeaningExamples
pub mod Weight
pub mod WeightExamples
