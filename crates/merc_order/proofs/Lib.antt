pub mod MoveLaws
pub mod SweepLaws
pub mod Sequence
pub mod FromLaws
pub mod Marks
