mod SheetLemmas
mod FitLemmas
mod CellLemmas
mod ReadLemmas
