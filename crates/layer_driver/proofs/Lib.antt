pub mod Claims
pub mod Numbers
pub mod RowLemmas
pub mod LayerRows
pub mod ReachedRows
