pub mod AtScripts
pub mod AtScriptsExamples
pub mod RunsAtScripts
pub mod RunsAtScriptsExamples
