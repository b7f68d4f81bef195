pub mod Parts
pub mod Listing
pub mod Valid
pub mod ValidExamples
