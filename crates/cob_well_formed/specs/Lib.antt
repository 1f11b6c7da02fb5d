pub mod Tokens
pub mod Numerals
pub mod Layouts
pub mod Typed
pub mod Doing
pub mod Sources
