pub mod Levels
pub mod FlatForm
pub mod Frames
pub mod Steps
pub mod FlatExamples
pub mod Numbering
pub mod Tasks
pub mod HeadTasks
