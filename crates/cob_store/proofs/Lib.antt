pub mod ReadBound
pub mod Parts
pub mod TextLemmas
pub mod SenderLemmas
pub mod MoveLemmas
