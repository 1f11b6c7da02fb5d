pub mod Claims
pub mod CellSizes
pub mod Sources
