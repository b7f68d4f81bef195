pub mod Spots
pub mod Beds
pub mod Lying
pub mod Owning
pub mod Kids
pub mod Sharing
pub mod Picking
