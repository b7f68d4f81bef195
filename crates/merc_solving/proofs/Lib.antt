pub mod LineLemmas
pub mod AloneRuns
pub mod RunLemmas
pub mod RunLinesExamples
pub mod SolvingExamples
