pub mod Finding
pub mod NumbersExamples
pub mod OpenFiles
pub mod Reading
pub mod ShelvesExamples
pub mod SinksExamples
pub mod TapsExamples
