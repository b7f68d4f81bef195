pub mod Wholes
pub mod Replies
pub mod Alike
pub mod Depths
pub mod Beginnings
