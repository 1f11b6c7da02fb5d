pub mod ValueLemmas
pub mod Walks
