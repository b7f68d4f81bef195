mod SegmentsExamples
mod PlacesExamples
pub mod ThawLemmas
pub mod PlaceLemmas
pub mod ReachLemmas
pub mod FreezeLemmas
