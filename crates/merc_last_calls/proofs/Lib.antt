pub mod StepParts
pub mod Handing
pub mod Leaning
pub mod Runs
pub mod Pieces
pub mod Weight
