pub mod Bare
pub mod Reading
pub mod StmtSteps
pub mod Program
pub mod Parsing
pub mod Laws
pub mod Lines
