pub mod Accepted
pub mod Checked
pub mod Forms
pub mod Untyped
