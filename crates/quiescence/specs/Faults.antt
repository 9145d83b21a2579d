-- The codes of refused calls.
use Rattle.std.specs.Prelude.{ℕ, ◌≡◌, List, codes}
use Rattle.world_model.specs.declared.steps.BookFault.{BookFault}
use Rattle.world_model.specs.declared.steps.BookFault.TheVariants.{RunStopped, NoPurse, CreditFull, NotLower, NothingLeft, FloorBelowLimit, AllowanceRemains}

-- the code that a refused call is reported by
abbrev pub book_code : BookFault → List ℕ
book_code RunStopped = codes "Q1"
book_code NoPurse = codes "Q2"
book_code CreditFull = codes "Q3"
book_code NotLower = codes "Q4"
book_code NothingLeft = codes "Q5"
book_code FloorBelowLimit = codes "Q6"
book_code AllowanceRemains = codes "Q7"

-- no two faults have the same code
abbrev pub CodesDiffer : Type 0
CodesDiffer = (fault other : BookFault) → book_code fault ≡ book_code other → fault ≡ other
