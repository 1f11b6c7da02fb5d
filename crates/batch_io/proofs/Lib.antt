pub mod GivesLemmas
pub mod KnownLemmas
pub mod WholeLemmas
pub mod EntriesLemmas
pub mod PutLemmas
pub mod MemoryLemmas
pub mod SlotLemmas
pub mod RecordLemmas
