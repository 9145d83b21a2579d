mod ParseLemmas
