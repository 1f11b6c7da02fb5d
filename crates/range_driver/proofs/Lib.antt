pub mod Bounded
pub mod Fitting
