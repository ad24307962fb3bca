pub mod CutLemmas
mod TurnLemmas
mod HeadLemmas
mod LineLemmas
mod GivingLemmas
mod ResumeLemmas
mod BeginLemmas
mod RoundLemmas
mod FeedLemmas
