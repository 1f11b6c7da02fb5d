pub mod Statements
pub mod Lists
pub mod StatementSteps
pub mod Heads
pub mod Typing
pub mod Answer
