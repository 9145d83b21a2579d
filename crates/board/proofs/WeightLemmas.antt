-- Lists of weights: their first fault, and that they are cost rules where they have none.
use Rattle.std.proofs.Common.{◌≡◌, ◌⊎◌, ℕ, zero, suc, ◌-◌, ◌<◌, ◌≤◌, eqb, List, Some, None, length, get_or, take, refl, ap, ⊎_elim, arith, length-take}
use Rattle.std.specs.Prelude.{All, position}
use Rattle.std.specs.List.{position_or_len}
use Rattle.std.proofs.lemmas.Bool.{cases_order, eqb-true}
use Rattle.std.proofs.lemmas.Bool.Decides.{nat_tests}
use Rattle.std.proofs.lemmas.List.{get_or-take}
use Rattle.std.proofs.lemmas.List.Elements.{All-get_or, All-from_get_or}
use Rattle.std.proofs.lemmas.List.Sums.{fails_before_first}
use Rattle.std.proofs.lemmas.Grind.{common_steps}
use Rattle.std.proofs.lemmas.List.Quantifiers.{position-Some}
use Rattle.board.specs.Shapes.{ShapeModel, IsShape, cell_count}
use Rattle.board.specs.Weights.{AreWeights, weight_of, listed_rule}
use Rattle.board.specs.Faults.{IsFirstZero, IsFirstWeightsFault}
use Rattle.board.specs.declared.faults.WeightsFault.{WeightsFault}
use Rattle.board.specs.declared.faults.WeightsFault.TheVariants.{WrongCount, WeightOutOfRange}
use Rattle.board.proofs.NeighbourLemmas.{cells_above}

-- the first 0 that a search finds is the first fault
pub zero_found : (grid : ShapeModel) (listed : List ℕ) (place : ℕ) → length listed ≡ cell_count grid - 1 → position (λ number. eqb number 0) listed ≡ Some place → IsFirstZero grid listed place
zero_found grid listed place one_each found =
    let first = position-Some (λ number. eqb number 0) listed place 0 found in
    record {
      one_each = one_each;
      within = first.0;
      before = All-from_get_or (λ weight. 1 ≤ weight) (take place listed) 0
          (λ k inside.
          let early : k < place = omega (arith, inside, length-take place listed) in
          let same = get_or-take place listed k 0 early in
          let differs = first.2 k early in
          grind (arith, nat_tests));
      zero = eqb-true (get_or listed place 0) 0 first.1;
    }

-- and where it finds none, no weight is 0
pub no_zero : (listed : List ℕ) → position (λ number. eqb number 0) listed ≡ None → All (λ weight. 1 ≤ weight) listed
no_zero listed none =
    let past : length listed ≤ position_or_len (λ number. eqb number 0) listed = grind (arith, common_steps) in
    All-from_get_or (λ weight. 1 ≤ weight) listed 0
    (λ k inside.
    let differs = fails_before_first (λ number. eqb number 0) listed k 0 (omega arith) in
    grind (arith, nat_tests))

-- a weight from 1 to 255 for each tile is a cost rule
pub listed_is_rule : (grid : ShapeModel) (listed : List ℕ) → IsShape grid → length listed ≡ cell_count grid - 1 → All (λ weight. 1 ≤ weight) listed → All (λ weight. weight < 256) listed → AreWeights (listed_rule grid listed)
listed_is_rule grid listed sides one_each low high =
    let some = cells_above grid sides in
    record {
      sides = sides;
      one_each = omega (arith, one_each, some);
      blank = refl;
      low = lows;
      high = highs;
    }
  where
    lows : (tile : ℕ) → 0 < tile → tile < cell_count grid → 1 ≤ weight_of (listed_rule grid listed) tile
    lows zero above below = absurd (omega arith)
    lows (suc tile) above below = All-get_or (λ weight. 1 ≤ weight) listed tile 0 (omega (arith, one_each)) low

    highs : (tile : ℕ) → tile < cell_count grid → weight_of (listed_rule grid listed) tile ≤ 255
    highs zero below = omega arith
    highs (suc tile) below = omega (arith, All-get_or (λ weight. weight < 256) listed tile 0 (omega (arith, one_each)) high)

-- a cost rule has no fault
pub rule_has_no_fault : (grid : ShapeModel) (listed : List ℕ) → AreWeights (listed_rule grid listed) → (fault : WeightsFault) → IsFirstWeightsFault grid listed fault → ⊥
rule_has_no_fault grid listed rule WrongCount first = first (omega (arith, rule.one_each))
rule_has_no_fault grid listed rule (WeightOutOfRange place) first =
    let low = rule.low (suc place) (omega arith) (omega (arith, first.within, first.one_each)) in
    omega (arith, low, first.zero)

-- where a list is 0 at one place, that of no later one is the first 0
zero_is_not_before : (grid : ShapeModel) (listed : List ℕ) (p q : ℕ) → IsFirstZero grid listed p → IsFirstZero grid listed q → p < q → ⊥
zero_is_not_before grid listed p q first second before =
    let inside : p < length (take q listed) = omega (arith, second.within, length-take q listed) in
    let low = All-get_or (λ weight. 1 ≤ weight) (take q listed) p 0 inside second.before in
    omega (arith, low, first.zero, get_or-take q listed p 0 before)

-- there is one first fault
pub one_fault : (grid : ShapeModel) (listed : List ℕ) (fault fault' : WeightsFault) → IsFirstWeightsFault grid listed fault → IsFirstWeightsFault grid listed fault' → fault' ≡ fault
one_fault grid listed WrongCount WrongCount first second = refl
one_fault grid listed WrongCount (WeightOutOfRange q) first second = absurd (first second.one_each)
one_fault grid listed (WeightOutOfRange p) WrongCount first second = absurd (second first.one_each)
one_fault grid listed (WeightOutOfRange p) (WeightOutOfRange q) first second =
    let not_before = zero_is_not_before grid listed p q first second in
    let not_after = zero_is_not_before grid listed q p second first in
    ap WeightOutOfRange (⊎_elim (λ (e : q ≡ p). e) (λ (h : (q < p) ⊎ (p < q)). ⊎_elim (λ (l : q < p). absurd (not_after l)) (λ (l : p < q). absurd (not_before l)) h) (cases_order q p))
