pub mod Parts
pub mod Meaning
pub mod Edges
pub mod Ranges
pub mod Counters
