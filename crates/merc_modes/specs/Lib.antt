pub mod Told
pub mod ToldExamples
pub mod Bodies
pub mod BodiesExamples
