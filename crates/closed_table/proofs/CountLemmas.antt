-- How many chains there are.
use Rattle.std.proofs.Common.{◌≡◌, ◌≢◌, ℕ, ◌+◌, ◌/◌, ◌<◌, ◌≤◌, zero, suc, arith, zero-le}
use Rattle.std.specs.Prelude.{max}
use Rattle.closed_table.specs.Chains.{chain_count}

-- the count, where there is a slot
pub count_some : (len : ℕ) → len ≢ 0 → chain_count len ≡ max 127 ((len + 3) / 4)
count_some len some = grind arith

-- with a slot there is a chain
pub count_pos : (len : ℕ) → len ≢ 0 → 0 < chain_count len
count_pos len some = let e : chain_count len ≡ max 127 ((len + 3) / 4) = count_some len some in omega arith

-- more slots have as many chains or more
pub count_le : (few many : ℕ) → few ≤ many → chain_count few ≤ chain_count many
count_le zero many le = zero-le
count_le (suc few) many le =
    let e : chain_count (suc few) ≡ max 127 ((suc few + 3) / 4) = count_some (suc few) (omega arith) in
    let f : chain_count many ≡ max 127 ((many + 3) / 4) = count_some many (omega arith) in
    omega arith

-- from 508 slots on there is a chain for four slots
pub count_many : (len : ℕ) → 508 ≤ len → chain_count len ≡ (len + 3) / 4
count_many len many = let e : chain_count len ≡ max 127 ((len + 3) / 4) = count_some len (omega arith) in omega arith
