pub mod CategoryExamples
pub mod FirstFaultExamples
pub mod FirstFaultLaws
pub mod FirstPlaceLaws
pub mod FixedNames
pub mod GroupLaws
pub mod GroupsExamples
pub mod NameConstants
pub mod NameExamples
pub mod NameLaws
pub mod OutsideExamples
pub mod RefusalExamples
pub mod RefusalTable
pub mod TextTables
mod CharacterExamples
