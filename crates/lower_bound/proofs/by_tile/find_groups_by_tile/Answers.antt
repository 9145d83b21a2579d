use Rattle.std.proofs.Common.{ℕ, ◌≡◌, ◌∙◌, ◌<◌, ◌+◌, List, length, set, sym, subst, ⊎_elim, arith}
use Rattle.std.specs.Prelude.{slice_index}
use Rattle.std.proofs.lemmas.List.{length-set, get_or-set_same, get_or-set_other}
use Rattle.std.proofs.Math.Nat.{eq-or-lt_of_le}
use Rattle.pattern_index.specs.Groups.{GroupModel}
use Rattle.lower_bound.specs.ByTile.{IsGroupWith}
use Rattle.lower_bound.proofs.by_tile.find_groups_by_tile.Goals as goal

-- one number more has its group
one_more : (groups : List GroupModel) (places : List ℕ) (number place : ℕ) → number < length places → IsGroupWith groups number place → ((tile : ℕ) → tile < number → IsGroupWith groups tile (slice_index places tile)) → (tile : ℕ) → tile < number + 1 → IsGroupWith groups tile (slice_index (set places number place) tile)
one_more groups places number place within here before tile lt =
    ⊎_elim
    (λ (e : tile ≡ number). subst (λ (k : ℕ). IsGroupWith groups k (slice_index (set places number place) k)) (sym e) (subst (λ (p : ℕ). IsGroupWith groups number p) (sym (get_or-set_same places number place 0 within)) here))
    (λ (low : tile < number). subst (λ (p : ℕ). IsGroupWith groups tile p) (sym (get_or-set_other places number tile place 0 (λ (e : tile ≡ number). omega (arith, e, low)))) (before tile low))
    (eq-or-lt_of_le (omega (arith, lt)))

pub numbers-preserved : goal.numbers-preserved
numbers-preserved c = record {
  all = length-set c.numbers.by_tile c.numbers.number c.find_group_with.result ∙ c.numbers.invariant.all;
  are = one_more c.args.groups.now c.numbers.by_tile c.numbers.number c.find_group_with.result (omega (arith, c.numbers-test.true, c.numbers.invariant.all)) c.find_group_with.ensures c.numbers.invariant.are;
}
