pub mod Cell
pub mod Ends
pub mod Answers
