mod ConfigLemmas
mod TableLemmas
