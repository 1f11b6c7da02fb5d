pub mod Passing
pub mod Growth
pub mod Soundness
pub mod Heads
pub mod Edges
