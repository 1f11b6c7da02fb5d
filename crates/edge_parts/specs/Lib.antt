pub mod PartView
pub mod Handing
pub mod Pieces
