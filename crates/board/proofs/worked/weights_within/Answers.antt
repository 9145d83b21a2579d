use Rattle.std.proofs.Common.{ℕ, zero, suc, ◌<◌, ◌≤◌, [], ◌∷◌, refl, arith, lit≤}
use Rattle.board.specs.Weights.{AreWeights, listed_rule, weight_of}
use Rattle.board.specs.Worked.{grid_of}
use Rattle.board.proofs.worked.weights_within.Goals as goal

low : (tile : ℕ) → 0 < tile → tile < 4 → 1 ≤ weight_of (listed_rule (grid_of 2 2) (255 ∷ 1 ∷ 1 ∷ [])) tile
low zero some few = absurd (omega (arith, some))
low (suc zero) some few = lit≤ tt
low (suc (suc zero)) some few = lit≤ tt
low (suc (suc (suc zero))) some few = lit≤ tt
low (suc (suc (suc (suc tile)))) some few = absurd (omega (arith, few))

high : (tile : ℕ) → tile < 4 → weight_of (listed_rule (grid_of 2 2) (255 ∷ 1 ∷ 1 ∷ [])) tile ≤ 255
high zero few = lit≤ tt
high (suc zero) few = lit≤ tt
high (suc (suc zero)) few = lit≤ tt
high (suc (suc (suc zero))) few = lit≤ tt
high (suc (suc (suc (suc tile)))) few = absurd (omega (arith, few))

within : AreWeights (listed_rule (grid_of 2 2) (255 ∷ 1 ∷ 1 ∷ []))
within = record {
  sides = record { rows_low = lit≤ tt; rows_high = lit≤ tt; cols_low = lit≤ tt; cols_high = lit≤ tt };
  one_each = refl;
  blank = refl;
  low = low;
  high = high;
}

pub returns : goal.returns
returns c = (within, λ rule. let past = rule.high 1 (omega arith) in omega (arith, past), λ rule. let least = rule.low 1 (omega arith) (omega arith) in omega (arith, least))
