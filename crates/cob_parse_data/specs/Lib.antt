pub mod Tokens
pub mod Heads
pub mod Reading
pub mod Takes
pub mod Outcome
pub mod Lines
