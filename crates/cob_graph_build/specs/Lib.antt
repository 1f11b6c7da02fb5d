pub mod Sizes
pub mod Tables
pub mod Growing
pub mod Limits
pub mod MainCopies
pub mod Ways
