pub mod EntryLaws
pub mod Cuts
pub mod PartLaws
