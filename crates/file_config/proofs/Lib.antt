mod ConfigLemmas
