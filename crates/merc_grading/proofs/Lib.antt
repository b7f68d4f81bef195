pub mod Folding
pub mod Regrading
pub mod Choosing
