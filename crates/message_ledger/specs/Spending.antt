-- What contracts see of an allowance, and of tickets that come back.
use Rattle.std.specs.Prelude.{ℕ, ◌-◌}

-- how many expansions were granted, and how many of these are left
pub record AllowanceModel : Type 0 where
  pub granted : ℕ
  pub left : ℕ

-- how many were made
abbrev pub spent : AllowanceModel → ℕ
spent it = it.granted - it.left

-- how many tickets came back, and how many expansions were granted by them
pub record GatheredModel : Type 0 where
  pub tickets : ℕ
  pub amount : ℕ
