pub mod Stored
pub mod Solving
pub mod RowsHeld
pub mod Slots
pub mod NodeRows
pub mod RowLends
