pub mod FeedLemmas
