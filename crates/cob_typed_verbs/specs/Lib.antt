pub mod Arithmetic
pub mod Verbs
pub mod Workings
