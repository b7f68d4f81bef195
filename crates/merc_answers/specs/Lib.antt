pub mod Taps
pub mod TapsLaws
