pub mod Script
pub mod Joining
pub mod ValueCode
pub mod Cells
pub mod Items
pub mod ScriptCode
pub mod Counting
pub mod Places
