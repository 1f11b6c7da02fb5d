pub mod Bounds
pub mod Results
pub mod Corners
pub mod Thresholds
pub mod Known
pub mod Elements
pub mod Rows
pub mod Classes
