pub mod StartedLemmas
pub mod AwaitLemmas
pub mod FrontLemmas
pub mod FileLemmas
pub mod ReplayLemmas
pub mod LaneLemmas
pub mod RestLemmas
