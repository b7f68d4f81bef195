pub mod History
pub mod Steals
pub mod Passes
