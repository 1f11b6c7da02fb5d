pub mod Packs
pub mod Layer
pub mod Laws
pub mod Agreeing
pub mod Showing
pub mod Rising
pub mod EdgeLaws
pub mod Orders
