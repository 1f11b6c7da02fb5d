pub mod Readers
pub mod Printing
pub mod Law
pub mod Fronts
pub mod Brackets
pub mod Outcome
