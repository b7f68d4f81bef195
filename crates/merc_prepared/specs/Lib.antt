pub mod Compiled
pub mod Alone
