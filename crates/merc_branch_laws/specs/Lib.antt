pub mod Dealing
pub mod Facing
pub mod BranchLaws
pub mod DealingExamples
pub mod FacingExamples
pub mod BranchLawsExamples
