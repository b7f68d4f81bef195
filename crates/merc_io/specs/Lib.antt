pub mod Numbers
pub mod Shelves
pub mod Sinks
pub mod Taps
