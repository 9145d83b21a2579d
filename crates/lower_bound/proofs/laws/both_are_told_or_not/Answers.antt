use Rattle.std.proofs.Common.{◌<◌, ◌≤◌, inl, inr, ⊎_elim, arith}
use Rattle.std.proofs.lemmas.Bool.{cases_lt}
use Rattle.pattern_index.specs.Sparse.{sparse_size_of}
use Rattle.database_build.specs.Entries.{most_places}
use Rattle.pattern_search.specs.declared.finding.TheConstants.{NO_VALUE}
use Rattle.lower_bound.specs.Folded.{value_by}
use Rattle.lower_bound.proofs.laws.both_are_told_or_not.Goals as goal

pub returns : goal.returns
returns c = λ before after fold. (
  ⊎_elim
      (λ (was : value_by before fold < NO_VALUE).
      ⊎_elim
      (λ (is : value_by after fold < NO_VALUE).
      ⊎_elim
      (λ (many : most_places fold.selection < sparse_size_of fold.selection). inl (inr (inr many)))
      (λ (few : sparse_size_of fold.selection ≤ most_places fold.selection). inr (was, is, few))
      (cases_lt (most_places fold.selection) (sparse_size_of fold.selection)))
      (λ (none : NO_VALUE ≤ value_by after fold). inl (inr (inl none)))
      (cases_lt (value_by after fold) NO_VALUE))
      (λ (none : NO_VALUE ≤ value_by before fold). inl (inl none))
      (cases_lt (value_by before fold) NO_VALUE),
  λ both untold.
      ⊎_elim
      (λ (was : NO_VALUE ≤ value_by before fold). omega (arith, was, both.0))
      (⊎_elim
      (λ (is : NO_VALUE ≤ value_by after fold). omega (arith, is, both.1))
      (λ (many : most_places fold.selection < sparse_size_of fold.selection). omega (arith, many, both.2)))
      untold,
)
