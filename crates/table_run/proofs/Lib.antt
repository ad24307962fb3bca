mod EndLemmas
mod RunLemmas
mod WholeLemmas
