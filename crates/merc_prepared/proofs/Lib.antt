pub mod Compiling
pub mod AloneCode
