pub mod AcceptedLaws
pub mod CheckedLaws
pub mod FirstUntyped
pub mod GoalForms
pub mod Growing
pub mod Refusals
pub mod ProcedureTrees
pub mod TextLaws
mod AcceptedExamples
mod CheckedExamples
mod FormsExamples
mod UntypedExamples
