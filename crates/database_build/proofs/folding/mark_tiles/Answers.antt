use Rattle.std.proofs.Common.{⊎_elim, ℕ, ◌≡◌, ◌<◌, ◌≤◌, Bool, false, List, get_or, refl, sym, ◌∙◌, subst, arith}
use Rattle.std.specs.Prelude.{◌↔◌, IsTrue, Contains, slice_set}
use Rattle.std.proofs.Math.Nat.{eq-or-lt_of_le}
use Rattle.std.proofs.lemmas.Bool.{cases_lt, false≢true}
use Rattle.std.proofs.lemmas.List.{get_or-set_same, get_or-set_other, get_or_past, length-set}
use Rattle.pattern_index.proofs.GroupLemmas.{cells_high}
use Rattle.database_build.proofs.folding.mark_tiles.Goals as goal

pub numbers-init : goal.numbers-init
numbers-init c = record { all = refl; are = λ n lt. absurd (omega (arith, lt)) }

pub numbers-preserved : goal.numbers-preserved
numbers-preserved c =
    let marks = c.numbers.marks in
    let here = c.numbers.number in
    let found = c.is_among.result in
    let all = c.numbers.invariant.all in
    let low = c.numbers-test.true in
    let tiles = c.args.group.now.tiles in
    let same = get_or-set_same marks here found false (omega (arith, all, low)) in
    let is = subst (λ (ts : List ℕ). IsTrue found ↔ Contains ts here) c.tiles-tiles.ensures.value c.is_among.ensures in
    let at = subst (λ (b : Bool). IsTrue b ↔ Contains tiles here) (sym same) is in
    record {
      all = length-set marks here found ∙ all;
      are = λ n lt.
          ⊎_elim
          (λ (e : n ≡ here). subst (λ (k : ℕ). IsTrue (get_or (slice_set marks here found) k false) ↔ Contains tiles k) (sym e) at)
          (λ (before : n < here). subst (λ (b : Bool). IsTrue b ↔ Contains tiles n) (sym (get_or-set_other marks here n found false (λ e. absurd (omega (arith, e, before))))) (c.numbers.invariant.are n before))
          (eq-or-lt_of_le (omega (arith, lt)));
    }

pub returns-clause-marks : goal.returns-clause-marks
returns-clause-marks c = λ number.
    let all = c.numbers.invariant.all in
    let end = c.numbers-test.false in
    let selection = c.tiles-tiles.ensures.group in
    let few = cells_high c.args.group.now.grid selection.sides in
    ⊎_elim
    (λ (low : number < 25). c.numbers.invariant.are number (omega (arith, low, end)))
    (λ (high : 25 ≤ number).
    let none = get_or_past c.numbers.marks number false (omega (arith, all, high)) in (
      λ marked. absurd (false≢true (sym none ∙ marked)),
      λ within. let tile = selection.group.tiles within.0 number within.1 in let is = within.2 in let below = tile.1 in absurd (omega (arith, is, below, few, high)),
    ))
    (cases_lt number 25)
