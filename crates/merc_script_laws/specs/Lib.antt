pub mod Parallel
pub mod ScriptLaws
pub mod ParallelExamples
pub mod ScriptLawsExamples
