pub mod FileLemmas
pub mod WorkLemmas
