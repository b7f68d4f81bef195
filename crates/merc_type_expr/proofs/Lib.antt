pub mod Replacing
pub mod Lists
pub mod General
pub mod Searching
pub mod Settling
