mod TraceLemmas
mod CallLemmas
