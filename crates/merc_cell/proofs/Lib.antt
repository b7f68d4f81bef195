mod Keeping
mod CellExamples
