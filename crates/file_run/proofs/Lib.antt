pub mod EndLemmas
pub mod RunLemmas
pub mod EntryLemmas
pub mod WholeLemmas
