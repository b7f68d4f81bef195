pub mod Seats
pub mod Stolen
pub mod Taking
pub mod Waiting
pub mod Parents
pub mod Memory
pub mod Forking
pub mod Hands
