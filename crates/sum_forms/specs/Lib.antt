pub mod Constants
pub mod Literals
pub mod SumForms
pub mod Values
pub mod Working
