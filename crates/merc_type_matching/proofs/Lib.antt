pub mod Maps
pub mod Parts
pub mod Linking
pub mod Pairings
