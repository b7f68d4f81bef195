pub mod Tests
pub mod Outputs
pub mod Putting
pub mod Within
pub mod Firsts
