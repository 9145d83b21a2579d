-- Costs by their kind, and boards: what spells them, and how they are read.
use Rattle.std.proofs.Common.{◌≡◌, ◌≢◌, ℕ, suc, ◌<◌, Bool, true, false, cond, eqb, ltb, List, [], ◌∷◌, ◌≤◌, length, take, replicate, length-take, Some, None, refl, sym, ap, subst, arith, zero, ◌*◌, ◌-◌, get_or, drop, ◌∙◌}
use Rattle.std.specs.Prelude.{All, AllPairs, ◌&&◌, not}
use Rattle.std.specs.Bool.{Decides}
use Rattle.std.specs.List.{list_all}
use Rattle.std.proofs.lemmas.Bool.Decides.{Decides-by_and, Decides-and, Decides-not, Decides-eqb, Decides-ltb, Decides-like}
use Rattle.std.proofs.lemmas.List.Kept.{AllPairs-cons}
use Rattle.std.proofs.lemmas.Bool.{eqb-true}
use Rattle.std.proofs.lemmas.List.{get_or-replicate, length-replicate}
use Rattle.std.proofs.lemmas.List.FromFn.{get_or-range_with_len}
use Rattle.std.proofs.lemmas.List.Elements.{All-from_get_or}
use Rattle.std.proofs.lemmas.Nat.{mul-le}
use Rattle.std.proofs.Math.Bool.{and-false}
use Rattle.board.specs.Shapes.{ShapeModel, IsShape, cell_count}
use Rattle.board.specs.Boards.{BoardModel, IsBoard}
use Rattle.board.specs.Equality.{rule_eq, rules_Decide}
use Rattle.board.specs.Weights.{WeightsModel, AreWeights, listed_rule, unit_rule, face_rule}
use Rattle.board.proofs.GoalLemmas.{face_is_rule}
use Rattle.board.proofs.WeightLemmas.{listed_is_rule}
use Rattle.certificate.specs.Readings.{all_differ, board_from, give, costs_of, weights_in}
use Rattle.certificate.specs.declared.faults.FormatFault.TheVariants.{OutOfRange}
use Rattle.certificate.specs.Fields.{SpellsCosts}
use Rattle.certificate.specs.Laws.{AreBytes}
use Rattle.certificate.specs.Spellings.{cost_kind_of}
use Rattle.certificate.proofs.ReaderLemmas.{Law, Opens, Law-iff, Opens-iff, Known, Law-give, Opens-give, Law-field, Opens-field}

-- ---- the test of a board is what a board is

head_differs : (x : ℕ) (xs : List ℕ) → AllPairs (λ x y. x ≢ y) (x ∷ xs) → All (λ y. x ≢ y) xs
head_differs x xs all k d below = all 0 (suc k) d (omega arith) (omega arith)

others_differ : (x : ℕ) (xs : List ℕ) → AllPairs (λ x y. x ≢ y) (x ∷ xs) → AllPairs (λ x y. x ≢ y) xs
others_differ x xs all i j d lt below = all (suc i) (suc j) d (omega arith) (omega arith)

all_differ-Decides : (xs : List ℕ) → Decides (all_differ xs) (AllPairs (λ x y. x ≢ y) xs)
all_differ-Decides [] = (λ e i j d lt below. absurd (omega (arith, below)), λ all. refl)
all_differ-Decides (x ∷ xs) = Decides-like _ (λ p. AllPairs-cons (λ x y. x ≢ y) x xs p.0 p.1) (λ all. (head_differs x xs all, others_differ x xs all))
    (Decides-and _ _ (Decides-by_and (λ y. not (eqb x y)) (λ y. x ≢ y) (list_all (λ y. not (eqb x y))) (λ y. Decides-not _ (Decides-eqb x y)) refl (λ _ _. refl) xs) (all_differ-Decides xs))

in_range-Decides : (n : ℕ) (xs : List ℕ) → Decides (list_all (λ tile. ltb tile n) xs) (All (λ tile. tile < n) xs)
in_range-Decides n xs = Decides-by_and (λ tile. ltb tile n) (λ tile. tile < n) (list_all (λ tile. ltb tile n)) (λ tile. Decides-ltb tile n) refl (λ _ _. refl) xs

abbrev tests : ShapeModel → List ℕ → Bool
tests grid text = list_all (λ tile. ltb tile (cell_count grid)) text && all_differ text

tests-Decide : (grid : ShapeModel) (text : List ℕ) → IsShape grid → length text ≡ cell_count grid → Decides (tests grid text) (IsBoard (record { grid = grid; tiles = text }))
tests-Decide grid text sides one_each =
    Decides-like _ (λ p. record { sides = sides; one_each = one_each; in_range = p.0; different = p.1 }) (λ b. (b.in_range, b.different)) (Decides-and _ _ (in_range-Decides (cell_count grid) text) (all_differ-Decides text))

pub not_true : (r : Bool) → (r ≡ true → ⊥) → r ≡ false
not_true true h = absurd (h refl)
not_true false h = refl

some_is : (a b : BoardModel) → Some a ≡ Some b → a ≡ b
some_is a b e = cc

-- what is no board has no value
pub no_board : (grid : ShapeModel) (text : List ℕ) → IsShape grid → length text ≡ cell_count grid → ¬ IsBoard (record { grid = grid; tiles = text }) → board_from grid text ≡ None
unfolding board_from
no_board grid text sides one_each not_one =
    let fails : tests grid text ≡ false = not_true (tests grid text) (λ e. not_one ((tests-Decide grid text sides one_each).0 e)) in
    rw fails refl

-- a board has its value
pub board_back : (grid : ShapeModel) (b : BoardModel) → IsBoard b → b.grid ≡ grid → board_from grid b.tiles ≡ Some b
unfolding board_from
board_back grid b board sides =
    let at : BoardModel = record { grid = grid; tiles = b.tiles } in
    let same : at ≡ b = λ i. record { grid = sym sides i; tiles = b.tiles } in
    let is : IsBoard at = subst (λ (p : BoardModel). IsBoard p) (sym same) board in
    let passes : tests grid b.tiles ≡ true = (tests-Decide grid b.tiles is.sides is.one_each).1 is in
    rw passes (ap (λ (p : BoardModel). Some p) same)

-- what has a value is a board
pub board_found : (grid : ShapeModel) (text : List ℕ) (b : BoardModel) → IsShape grid → length text ≡ cell_count grid → board_from grid text ≡ Some b → IsBoard b × (b.grid ≡ grid) × (b.tiles ≡ text)
unfolding board_from
board_found grid text b sides one_each found = found_by (tests grid text) refl found
  where
    found_by : (r : Bool) → tests grid text ≡ r → cond r (Some (record { grid = grid; tiles = text })) None ≡ Some b → IsBoard b × (b.grid ≡ grid) × (b.tiles ≡ text)
    found_by true is e =
        let at : BoardModel = record { grid = grid; tiles = text } in
        let same : at ≡ b = some_is at b e in
        subst (λ (p : BoardModel). IsBoard p × (p.grid ≡ grid) × (p.tiles ≡ text)) same ((tests-Decide grid text sides one_each).0 is, refl, refl)
    found_by false is e = absurd cc

-- 25 places have room for the cells
pub room : (n : ℕ) → n ≤ 25 → length {A = ℕ} (take n (replicate 25 0)) ≡ n
room n few = omega (arith, length-take {A = ℕ} n (replicate 25 0))

-- ---- costs by their kind: kinds

-- what a kind says of the costs
IsKind : WeightsModel → ℕ → Type 0
IsKind costs zero = costs ≡ unit_rule costs.grid
IsKind costs (suc zero) = costs ≡ face_rule costs.grid
IsKind costs (suc (suc kind)) = kind ≡ 0

kind_says : (costs : WeightsModel) → IsKind costs (cost_kind_of costs)
unfolding IsKind
kind_says costs = by_unit (rule_eq costs (unit_rule costs.grid)) refl (rule_eq costs (face_rule costs.grid)) refl
  where
    by_unit : (u : Bool) → rule_eq costs (unit_rule costs.grid) ≡ u → (f : Bool) → rule_eq costs (face_rule costs.grid) ≡ f → IsKind costs (cond u 0 (cond f 1 2))
    by_unit true is f _ = (rules_Decide costs (unit_rule costs.grid)).0 is
    by_unit false _ true is = (rules_Decide costs (face_rule costs.grid)).0 is
    by_unit false _ false _ = refl

kind_low : (costs : WeightsModel) (kind : ℕ) → IsKind costs kind → kind ≤ 2
unfolding IsKind
kind_low costs zero is = omega arith
kind_low costs (suc zero) is = omega arith
kind_low costs (suc (suc kind)) is = omega (arith, is)

pub kind_high : (costs : WeightsModel) → cost_kind_of costs ≤ 2
kind_high costs = kind_low costs (cost_kind_of costs) (kind_says costs)

-- costs of kind 0 are unit costs, and of kind 1 face costs
unit_of : (costs : WeightsModel) → cost_kind_of costs ≡ 0 → costs ≡ unit_rule costs.grid
unfolding IsKind
unit_of costs is = subst (IsKind costs) is (kind_says costs)

face_of : (costs : WeightsModel) → cost_kind_of costs ≡ 1 → costs ≡ face_rule costs.grid
unfolding IsKind
face_of costs is = subst (IsKind costs) is (kind_says costs)

pub unit_kind : (grid : ShapeModel) → cost_kind_of (unit_rule grid) ≡ 0
unit_kind grid = let same : rule_eq (unit_rule grid) (unit_rule grid) ≡ true = (rules_Decide (unit_rule grid) (unit_rule grid)).1 refl in rw same refl

-- costs that are neither are of kind 2
other_kind : (costs : WeightsModel) → (costs ≡ unit_rule costs.grid → ⊥) → (costs ≡ face_rule costs.grid → ⊥) → cost_kind_of costs ≡ 2
other_kind costs no_unit no_face =
    let unit : rule_eq costs (unit_rule costs.grid) ≡ false = not_true _ (λ e. no_unit ((rules_Decide costs (unit_rule costs.grid)).0 e)) in
    let face : rule_eq costs (face_rule costs.grid) ≡ false = not_true _ (λ e. no_face ((rules_Decide costs (face_rule costs.grid)).0 e)) in
    rw (unit, face) refl

many_cells : (grid : ShapeModel) → IsShape grid → 4 ≤ cell_count grid
many_cells grid sides = let many : 2 * 2 ≤ cell_count grid = mul-le _ _ _ _ sides.rows_low sides.cols_low in omega (arith, many)

weight_at : (tile : ℕ) (a b : WeightsModel) → a ≡ b → get_or a.weights tile 0 ≡ get_or b.weights tile 0
weight_at tile a b same = ap (λ (rule : WeightsModel). get_or rule.weights tile 0) same

face_weighs : (grid : ShapeModel) (tile : ℕ) → tile < cell_count grid → get_or (face_rule grid).weights tile 0 ≡ tile
face_weighs grid tile below = get_or-range_with_len 0 (cell_count grid) tile 0 below ∙ omega arith

unit_weighs : (grid : ShapeModel) (tile : ℕ) → suc tile < cell_count grid → get_or (unit_rule grid).weights (suc tile) 0 ≡ 1
unit_weighs grid tile below = get_or-replicate (cell_count grid - 1) tile 1 0 (omega (arith, below))

face_is_other : (grid : ShapeModel) → IsShape grid → face_rule grid ≡ unit_rule grid → ⊥
face_is_other grid sides same =
    let many = many_cells grid sides in
    omega (arith, weight_at 2 (face_rule grid) (unit_rule grid) same, face_weighs grid 2 (omega (arith, many)), unit_weighs grid 1 (omega (arith, many)))

pub face_kind : (grid : ShapeModel) → IsShape grid → cost_kind_of (face_rule grid) ≡ 1
face_kind grid sides =
    let unit : rule_eq (face_rule grid) (unit_rule grid) ≡ false = not_true _ (λ e. face_is_other grid sides ((rules_Decide (face_rule grid) (unit_rule grid)).0 e)) in
    let face : rule_eq (face_rule grid) (face_rule grid) ≡ true = (rules_Decide (face_rule grid) (face_rule grid)).1 refl in
    rw (unit, face) refl

-- ---- weights

-- the weights of a cost rule, and before them the blank's entry
pub rule_listed : (costs : WeightsModel) → AreWeights costs → (listed_rule costs.grid (drop 1 costs.weights) ≡ costs) × (length (drop 1 costs.weights) ≡ cell_count costs.grid - 1)
rule_listed costs rule = by_list costs.weights rule.one_each rule.blank refl
  where
    by_list : (ws : List ℕ) → length costs.weights ≡ cell_count costs.grid → get_or costs.weights 0 0 ≡ 0 → costs.weights ≡ ws → (listed_rule costs.grid (drop 1 costs.weights) ≡ costs) × (length (drop 1 costs.weights) ≡ cell_count costs.grid - 1)
    by_list [] counted blank is = let many = many_cells costs.grid rule.sides in let none = ap (λ (l : List ℕ). length l) is in absurd (omega (arith, many, none, counted))
    by_list (w ∷ ws) counted blank is =
        let first : w ≡ 0 = sym (ap (λ (l : List ℕ). get_or l 0 0) is) ∙ blank in
        let rest : drop 1 costs.weights ≡ ws = ap (drop 1) is in
        let size = ap (λ (l : List ℕ). length l) is in
        let whole : 0 ∷ drop 1 costs.weights ≡ costs.weights = (λ i. sym first i ∷ rest i) ∙ sym is in
        ((λ i. record { grid = costs.grid; weights = whole i }), ap (λ (l : List ℕ). length l) rest ∙ omega (arith, size, counted))

above_Decides : (xs : List ℕ) → Decides (list_all (λ weight. ltb 0 weight) xs) (All (λ weight. 0 < weight) xs)
above_Decides xs = Decides-by_and (λ weight. ltb 0 weight) (λ weight. 0 < weight) (list_all (λ weight. ltb 0 weight)) (λ weight. Decides-ltb 0 weight) refl (λ _ _. refl) xs

-- each weight of a cost rule is above 0
weights_above : (grid : ShapeModel) (text : List ℕ) → AreWeights (listed_rule grid text) → All (λ weight. 0 < weight) text
weights_above grid text rule = All-from_get_or (λ weight. 0 < weight) text 0 (λ k inside. let low = rule.low (suc k) (omega arith) (omega (arith, rule.one_each)) in omega (arith, low))

bytes_below : (text : List ℕ) → AreBytes text → (i : ℕ) → i < length text → get_or text i 0 < 256
bytes_below [] all i inside = absurd (omega (arith, inside))
bytes_below (b ∷ text) all zero inside = all.0
bytes_below (b ∷ text) all (suc i) inside = bytes_below text all.1 i (omega (arith, inside))

-- bytes are a cost rule where none of them is 0
above_is_rule : (grid : ShapeModel) (text : List ℕ) → IsShape grid → length text ≡ cell_count grid - 1 → All (λ weight. weight < 256) text → All (λ weight. 0 < weight) text → AreWeights (listed_rule grid text)
above_is_rule grid text sides counted small above = listed_is_rule grid text sides counted above small

-- what spells costs of kind 2 has their value
pub weights_there : (grid : ShapeModel) (c : WeightsModel) (text : List ℕ) → SpellsCosts grid 2 c text → (length text ≡ cell_count grid - 1) × (weights_in grid text ≡ Some c)
unfolding weights_in
weights_there grid c text t =
    let listed = rule_listed c t.costs.rule in
    let same : listed_rule grid text ≡ c = (λ i. record { grid = sym t.costs.sides i; weights = 0 ∷ t.is i }) ∙ listed.0 in
    let above : list_all (λ weight. ltb 0 weight) text ≡ true = (above_Decides text).1 (weights_above grid text (subst AreWeights (sym same) t.costs.rule)) in
    let kind : eqb (cost_kind_of (listed_rule grid text)) 2 ≡ true = ap (λ (rule : WeightsModel). eqb (cost_kind_of rule) 2) same ∙ ap (λ (k : ℕ). eqb k 2) t.kind in (
      ap (λ (l : List ℕ). length l) t.is ∙ listed.1 ∙ ap (λ (g : ShapeModel). cell_count g - 1) t.costs.sides,
      rw (above, kind) (ap (λ (rule : WeightsModel). Some rule) same),
    )

some_costs : (a b : WeightsModel) → Some a ≡ Some b → a ≡ b
some_costs a b e = cc

both_true : (a b : Bool) → (a && b) ≡ true → (a ≡ true) × (b ≡ true)
both_true true b e = (refl, e)
both_true false b e = absurd cc

-- and what has a value spells it
weights_back : (grid : ShapeModel) → IsShape grid → (c : WeightsModel) (text : List ℕ) → AreBytes text → length text ≡ cell_count grid - 1 → weights_in grid text ≡ Some c → SpellsCosts grid 2 c text
unfolding weights_in
weights_back grid sides c text all counted e = by_test (list_all (λ weight. ltb 0 weight) text && eqb (cost_kind_of (listed_rule grid text)) 2) refl e
  where
    by_test : (r : Bool) → (list_all (λ weight. ltb 0 weight) text && eqb (cost_kind_of (listed_rule grid text)) 2) ≡ r → cond r (Some (listed_rule grid text)) None ≡ Some c → SpellsCosts grid 2 c text
    by_test false is e = absurd cc
    by_test true is e =
        let p = both_true _ _ is in
        let rule = above_is_rule grid text sides counted (All-from_get_or (λ weight. weight < 256) text 0 (bytes_below text all)) ((above_Decides text).0 p.0) in
        let same = some_costs (listed_rule grid text) c e in
        subst (λ (rule : WeightsModel). SpellsCosts grid 2 rule text) same (record { costs = record { rule = rule; sides = refl }; kind = eqb-true _ _ p.1; is = refl })

-- a list that is no cost rule, or one of another kind, has no value
pub no_weights : (grid : ShapeModel) (text : List ℕ) → IsShape grid → length text ≡ cell_count grid - 1 → All (λ weight. weight < 256) text → ¬ AreWeights (listed_rule grid text) → weights_in grid text ≡ None
unfolding weights_in
no_weights grid text sides counted small not_one =
    let fails : list_all (λ weight. ltb 0 weight) text ≡ false = not_true _ (λ e. not_one (above_is_rule grid text sides counted small ((above_Decides text).0 e))) in
    rw fails refl

-- so has one of another kind
pub other_weights : (grid : ShapeModel) (text : List ℕ) (c : WeightsModel) → c ≡ listed_rule grid text → (cost_kind_of c ≡ 2 → ⊥) → weights_in grid text ≡ None
unfolding weights_in
other_weights grid text c is other =
    let fails : eqb (cost_kind_of (listed_rule grid text)) 2 ≡ false = not_true _ (λ e. other (ap cost_kind_of is ∙ eqb-true _ _ e)) in
    rw (fails, and-false (list_all (λ weight. ltb 0 weight) text)) refl

-- and one of kind 2 has its costs
pub listed_value : (grid : ShapeModel) (text : List ℕ) (c : WeightsModel) → AreWeights (listed_rule grid text) → c ≡ listed_rule grid text → cost_kind_of c ≡ 2 → weights_in grid text ≡ Some c
listed_value grid text c rule is kind =
    (weights_there grid c text (record { costs = record { rule = subst AreWeights (sym is) rule; sides = ap (λ (r : WeightsModel). r.grid) is }; kind = kind; is = ap (λ (r : WeightsModel). drop 1 r.weights) (sym is) })).1

-- ---- costs

-- weights that are all the same are a cost rule
alike_is_rule : (grid : ShapeModel) → IsShape grid → (weight : ℕ) → 1 ≤ weight → weight < 256 → AreWeights (listed_rule grid (replicate (cell_count grid - 1) weight))
alike_is_rule grid sides weight low high =
    let n = cell_count grid - 1 in
    let weighs : (k : ℕ) → k < n → get_or (replicate n weight) k 0 ≡ weight = λ k inside. get_or-replicate n k weight 0 inside in
    let size = length-replicate {A = ℕ} n weight in
    listed_is_rule grid (replicate n weight) sides size
    (All-from_get_or (λ w. 1 ≤ w) (replicate n weight) 0 (λ k inside. omega (arith, low, weighs k (omega (arith, size, inside)))))
    (All-from_get_or (λ w. w < 256) (replicate n weight) 0 (λ k inside. omega (arith, high, weighs k (omega (arith, size, inside)))))

unit_there : (grid : ShapeModel) → IsShape grid → (c : WeightsModel) (text : List ℕ) → Known (unit_rule grid) c text → SpellsCosts grid 0 c text
unit_there grid sides c text (is, nil) = subst (λ (rule : WeightsModel). SpellsCosts grid 0 rule text) (sym is) (record { costs = record { rule = alike_is_rule grid sides 1 (omega arith) (omega arith); sides = refl }; kind = unit_kind grid; is = nil })

unit_back : (grid : ShapeModel) (c : WeightsModel) (text : List ℕ) → SpellsCosts grid 0 c text → Known (unit_rule grid) c text
unit_back grid c text t = (unit_of c t.kind ∙ ap unit_rule t.costs.sides, t.is)

pub face_there : (grid : ShapeModel) → IsShape grid → (c : WeightsModel) (text : List ℕ) → Known (face_rule grid) c text → SpellsCosts grid 1 c text
face_there grid sides c text (is, nil) = subst (λ (rule : WeightsModel). SpellsCosts grid 1 rule text) (sym is) (record { costs = record { rule = face_is_rule grid sides (few_cells grid sides); sides = refl }; kind = face_kind grid sides; is = nil })
  where
    few_cells : (grid : ShapeModel) → IsShape grid → cell_count grid ≤ 25
    few_cells grid sides = let few : cell_count grid ≤ 5 * 5 = mul-le _ _ _ _ sides.rows_high sides.cols_high in omega (arith, few)

face_back : (grid : ShapeModel) (c : WeightsModel) (text : List ℕ) → SpellsCosts grid 1 c text → Known (face_rule grid) c text
face_back grid c text t = (face_of c t.kind ∙ ap face_rule t.costs.sides, t.is)

pub costs_law : (grid : ShapeModel) (kind : ℕ) → IsShape grid → kind ≤ 2 → Law (costs_of grid kind) (SpellsCosts grid kind)
costs_law grid zero sides low = Law-iff (give (unit_rule grid)) (Known (unit_rule grid)) (SpellsCosts grid 0) (unit_there grid sides) (unit_back grid) (Law-give (unit_rule grid))
costs_law grid (suc zero) sides low = Law-iff (give (face_rule grid)) (Known (face_rule grid)) (SpellsCosts grid 1) (face_there grid sides) (face_back grid) (Law-give (face_rule grid))
costs_law grid (suc (suc zero)) sides low = Law-field OutOfRange (cell_count grid - 1) (weights_in grid) (SpellsCosts grid 2) (weights_there grid) (weights_back grid sides)
costs_law grid (suc (suc (suc kind))) sides low = absurd (omega (arith, low))

-- some costs have kind 2: each weight is 2
twos : (grid : ShapeModel) → IsShape grid → SpellsCosts grid 2 (listed_rule grid (replicate (cell_count grid - 1) 2)) (replicate (cell_count grid - 1) 2)
twos grid sides =
    let n = cell_count grid - 1 in
    let rule = listed_rule grid (replicate n 2) in
    let many = many_cells grid sides in
    let weights : List ℕ = replicate n 2 in
    let first : get_or weights 0 0 ≡ 2 = get_or-replicate n 0 2 0 (omega (arith, many)) in
    record {
      costs = record { rule = alike_is_rule grid sides 2 (omega arith) (omega arith); sides = refl };
      kind = other_kind rule
          (λ e. omega (arith, first, weight_at 1 rule (unit_rule grid) e, unit_weighs grid 0 (omega (arith, many))))
          (λ e. omega (arith, first, weight_at 1 rule (face_rule grid) e, face_weighs grid 1 (omega (arith, many))));
      is = refl;
    }

pub costs_open : (grid : ShapeModel) (kind : ℕ) → IsShape grid → kind ≤ 2 → Opens (costs_of grid kind) (SpellsCosts grid kind)
costs_open grid zero sides low = Opens-iff (give (unit_rule grid)) (Known (unit_rule grid)) (SpellsCosts grid 0) (unit_there grid sides) (Opens-give (unit_rule grid))
costs_open grid (suc zero) sides low = Opens-iff (give (face_rule grid)) (Known (face_rule grid)) (SpellsCosts grid 1) (face_there grid sides) (Opens-give (face_rule grid))
costs_open grid (suc (suc zero)) sides low = Opens-field OutOfRange (cell_count grid - 1) (weights_in grid) (SpellsCosts grid 2) (listed_rule grid (replicate (cell_count grid - 1) 2)) (replicate (cell_count grid - 1) 2) (twos grid sides)
costs_open grid (suc (suc (suc kind))) sides low = absurd (omega (arith, low))
