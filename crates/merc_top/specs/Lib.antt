pub mod Words
pub mod Checking
pub mod Output
pub mod Answer
pub mod Asking
pub mod Truth
pub mod Due
