-- What a list in pages ends as, once a `&mut` into it has ended.
use Rattle.std.specs.Prelude.{ℕ, List, slice_set}
use Rattle.std.specs.Borrow.{Lends, Fml, RattleType, MutBor}
use Rattle.memory.specs.contracts.pages.Pages.{the_row}

-- the place has the last value written through r
abbrev pub lends_item : (T : RattleType) → MutBor (List T.Denot) → ℕ → MutBor T.Denot → Fml
lends_item T pages place r = Lends (the_row T) T pages r (λ x. slice_set pages.now place x)
