pub mod JoinLaws
pub mod EntryLaws
pub mod Cuts
pub mod Reversed
