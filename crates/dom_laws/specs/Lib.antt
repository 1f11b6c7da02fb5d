pub mod Leaks
pub mod Lattice
pub mod Flow
pub mod Meaning
pub mod Walking
