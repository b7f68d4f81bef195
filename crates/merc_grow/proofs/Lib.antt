pub mod GrownExamples
pub mod GrownLemmas
