pub mod Counts
pub mod Sent
pub mod Places
pub mod Sources
pub mod Doing
pub mod Flows
pub mod Following
pub mod Clearing
