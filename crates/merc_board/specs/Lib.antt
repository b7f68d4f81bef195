pub mod Rights
pub mod Going
pub mod Boarding
