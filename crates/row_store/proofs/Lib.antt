pub mod PageLemmas
pub mod MemLemmas
