mod ResumeLemmas
mod ReplayLemmas
mod BlobLemmas
mod ObjectLemmas
mod RowLemmas
mod FileLemmas
mod SaidLemmas
