pub mod Frames
pub mod Numbering
pub mod Table
