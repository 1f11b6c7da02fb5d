pub mod AsLaid
pub mod Ways
pub mod Told
pub mod Kept
