pub mod Lines
pub mod Runs
pub mod RunLines
pub mod Ready
pub mod Solving
