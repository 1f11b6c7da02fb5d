mod Sizes
mod Whole
