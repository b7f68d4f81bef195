pub mod GoalFaults
pub mod GoalFaultsExamples
pub mod Flat
pub mod FlatExamples
pub mod SizeFaults
pub mod Counted
pub mod UnknownNames
pub mod ClauseFaults
