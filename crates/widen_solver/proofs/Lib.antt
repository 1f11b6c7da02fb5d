pub mod Lists
pub mod RowAt
pub mod ShownRows
pub mod SlotLemmas
pub mod HeadRanks
pub mod OneEdge
pub mod Starting
pub mod StepsLeft
