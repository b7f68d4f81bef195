pub mod RowLaws
pub mod Indexes
pub mod MemberLaws
mod MoveLaws
pub mod GroupLaws
pub mod FlatLaws
pub mod SignalLaws
pub mod SpreadLaws
mod TurnLaws
mod JoinLaws
pub mod FoundLaws
