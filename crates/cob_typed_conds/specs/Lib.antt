pub mod Conditions
pub mod Operands
pub mod Selections
