pub mod Statements
pub mod Sources
pub mod Control
