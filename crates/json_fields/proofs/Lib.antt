pub mod AnswerLemmas
pub mod FieldLemmas
pub mod KeepsLemmas
pub mod Keys
pub mod ListedLemmas
pub mod OnlyLemmas
pub mod PartLemmas
pub mod PlaceLemmas
