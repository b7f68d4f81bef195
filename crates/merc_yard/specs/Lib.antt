pub mod Slots
pub mod Berths
pub mod Yards
