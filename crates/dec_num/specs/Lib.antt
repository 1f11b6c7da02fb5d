pub mod Exact
pub mod Scaled
pub mod Quot
pub mod Fit
