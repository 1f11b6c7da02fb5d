pub mod Contents
pub mod Working
pub mod Exact
pub mod Receiving
pub mod Arithmetic
pub mod Comparing
pub mod Operand
