pub mod BlankLemmas
pub mod CauseLemmas
pub mod InputLemmas
pub mod OutputLemmas
