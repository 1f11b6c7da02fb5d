pub mod Listing
pub mod Plan
pub mod Fitting
pub mod Nodes
pub mod Doing
pub mod Leading
pub mod Stepping
