mod Joined
pub mod Numbers
pub mod Facts
pub mod Examples
mod Targets
pub mod Control
