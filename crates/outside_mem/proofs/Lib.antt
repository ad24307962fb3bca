pub mod TraceLemmas
pub mod StoreLemmas
pub mod DockLemmas
pub mod PollLemmas
pub mod MoveLemmas
