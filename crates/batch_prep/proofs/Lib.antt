pub mod PlaceLemmas
pub mod FoundLemmas
pub mod WrittenLemmas
pub mod RowLemmas
