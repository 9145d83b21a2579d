use Rattle.std.proofs.Common.{ℕ, ◌≤◌, List, subst}
use Rattle.std.specs.Prelude.{slice_index}
use Rattle.pattern_search.specs.declared.finding.TheConstants.{NO_VALUE}
use Rattle.database_build.proofs.FoldLemmas.{bytes_high, words_high}
use Rattle.database_build.proofs.folding.Folded.tell_values.Goals as goal

pub returns-in-Bytes : goal.returns-in-Bytes
returns-in-Bytes c =
    bytes_high c.args.self.now c.self.inside.group c.self.inside.entries c.self.view_is c.self.invariant.1 c.in-Bytes.bytes c.in-Bytes.is
    (subst (λ (xs : List ℕ). (place : ℕ) → slice_index xs place ≤ NO_VALUE) c.deref-in-Bytes.ensures.value c.tell_bytes.ensures)

pub returns-in-Words : goal.returns-in-Words
returns-in-Words c =
    words_high c.args.self.now c.self.inside.group c.self.inside.entries c.self.view_is c.self.invariant.1 c.in-Words.words c.in-Words.is
    (subst (λ (xs : List ℕ). (place : ℕ) → slice_index xs place ≤ NO_VALUE) c.deref-in-Words.ensures.value c.tell_words-in-Words.ensures)
