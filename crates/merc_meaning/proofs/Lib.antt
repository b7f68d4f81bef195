pub mod DepthLaw
pub mod Stages
pub mod ValueLaws
pub mod ArithmeticLaws
pub mod Environments
