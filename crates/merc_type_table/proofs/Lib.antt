pub mod Closed
pub mod Distinct
pub mod Framed
pub mod FramesExamples
pub mod Indexed
pub mod Made
pub mod NumberingExamples
pub mod TableExamples
