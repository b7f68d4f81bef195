pub mod ItemLaws
pub mod Indexes
pub mod Words
pub mod PartTests
pub mod FormLaws
pub mod FormWalk
pub mod RepeatedNames
pub mod WrongForms
