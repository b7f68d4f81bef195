pub mod ChangedLists
pub mod TapEvents
pub mod TapLists
pub mod TapsExamples
