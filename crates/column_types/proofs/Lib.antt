pub mod KindLemmas
pub mod ValueLemmas
pub mod WholeLemmas
pub mod NumberLemmas
pub mod ColumnLemmas
