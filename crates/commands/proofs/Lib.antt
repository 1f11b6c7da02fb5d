pub mod AnalysisLines
pub mod Telling
pub mod Trials
pub mod Tasks
pub mod Asked
pub mod RunEnds
pub mod Clashes
pub mod Certificates
pub mod OneCheck
pub mod Lines
pub mod Found
pub mod Control
pub mod Limits
pub mod Sources
pub mod Statuses
pub mod Refusals
mod Profile
