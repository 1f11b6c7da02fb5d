pub mod Crosses
pub mod Memory
pub mod Places
pub mod Sharing
pub mod SlotsLemmas
pub mod Border
pub mod RowLemmas
pub mod Chains
