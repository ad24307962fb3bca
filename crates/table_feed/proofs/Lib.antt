mod SortLemmas
mod StartLemmas
mod BlobLemmas
mod ReplayLemmas
mod SourceLemmas
