pub mod Cells
pub mod Changes
pub mod Fixing
pub mod Fresh
pub mod Joining
pub mod Solutions
pub mod Visiting
