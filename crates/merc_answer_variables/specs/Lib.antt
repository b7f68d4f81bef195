pub mod AnswerVariables
pub mod AnswerExamples
pub mod Statuses
pub mod Reading
