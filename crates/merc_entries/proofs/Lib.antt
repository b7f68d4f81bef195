pub mod ListSteps
pub mod DeclarationSteps
pub mod EntryOrder
pub mod FirstAgain
pub mod FirstDoubles
pub mod Joined
pub mod KeyLaws
pub mod SameKeys
mod UnitLaws
pub mod UnitReading
pub mod LibraryReads
pub mod ConstantTexts
