pub mod DistinctLemmas
pub mod IndexLemmas
