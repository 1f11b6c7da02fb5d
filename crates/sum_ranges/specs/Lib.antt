pub mod Ranged
pub mod Results
pub mod SumRanges
pub mod Vanishing
pub mod Sizes
pub mod Working
pub mod Taking
