pub mod Lists
mod Picking
mod Giving
mod Handing
mod CellLaws
mod BranchExamples
