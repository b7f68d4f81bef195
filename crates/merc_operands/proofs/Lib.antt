pub mod OperandLaws
pub mod Chains
