pub mod UnknownTypes
pub mod ModeFaults
pub mod AloneItems
pub mod KnownTypes
pub mod ModeCounts
pub mod ClauseHeads
pub mod DeclaredExamples
