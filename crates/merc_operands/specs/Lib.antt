pub mod Operands
pub mod Members
pub mod OperandsExamples
