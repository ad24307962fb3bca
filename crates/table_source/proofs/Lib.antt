mod CompareLemmas
mod KeyLemmas
mod ListLemmas
mod RowLemmas
mod SaidLemmas
