pub mod Value
pub mod Block
pub mod Text
pub mod Writing
pub mod Sharing
