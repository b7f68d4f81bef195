pub mod EntryLaws
pub mod ModeFaultLaws
pub mod ModeLaws
pub mod TypeLaws
