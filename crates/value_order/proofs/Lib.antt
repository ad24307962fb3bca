pub mod DecimalLemmas
pub mod OrderLemmas
pub mod SizeLemmas
pub mod SignLemmas
pub mod TieLemmas
pub mod TextLemmas
pub mod ReadLemmas
