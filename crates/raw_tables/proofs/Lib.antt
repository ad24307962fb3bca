pub mod TableLemmas
pub mod PageLemmas
pub mod TableLaws
pub mod StoreLaws
pub mod PageLaws
pub mod BehindLemmas
