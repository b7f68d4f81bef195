pub mod Segments
pub mod Places
