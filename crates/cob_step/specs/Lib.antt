pub mod Views
pub mod Settling
pub mod Ready
pub mod Choosing
