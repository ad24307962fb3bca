mod LineLemmas
mod PartLemmas
