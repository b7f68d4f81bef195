pub mod Fields
pub mod Slots
pub mod Functors
pub mod Heap
pub mod Equality
pub mod Comparison
