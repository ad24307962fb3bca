mod ConfigLemmas
mod LimitLemmas
