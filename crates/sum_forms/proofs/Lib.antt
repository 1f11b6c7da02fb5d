pub mod Multiples
pub mod Floors
pub mod Shows
pub mod Sound
pub mod Narrower
pub mod Working
pub mod Loops
pub mod Within
