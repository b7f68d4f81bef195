pub mod Left
pub mod Places
pub mod Keeping
pub mod Conjuncts
