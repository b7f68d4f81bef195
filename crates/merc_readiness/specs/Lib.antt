pub mod Asking
pub mod CallModeCode
pub mod CallModeCodeExamples
pub mod Sweeps
pub mod SweepsExamples
pub mod Chains
pub mod ChainsExamples
