pub mod Views
pub mod ProgramWorld
pub mod Becoming
pub mod Needs
pub mod Calling
pub mod Doing
