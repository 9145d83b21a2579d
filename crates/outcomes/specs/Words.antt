-- The words that reasons and causes are reported by.
use Rattle.std.specs.Prelude.{ℕ, List, codes}
use Rattle.outcomes.specs.declared.outcome.Why.{Why}
use Rattle.outcomes.specs.declared.outcome.Why.TheVariants.{Parity, Exhausted}
use Rattle.outcomes.specs.declared.outcome.Cause.{Cause}
use Rattle.outcomes.specs.declared.outcome.Cause.TheVariants.{Limit, Memory, Start, Cost, Cut}

-- the words of reasons
abbrev pub why_word : Why → List ℕ
why_word Parity = codes "parity"
why_word Exhausted = codes "exhausted"

-- and those of causes
abbrev pub cause_word : Cause → List ℕ
cause_word Limit = codes "limit"
cause_word (Memory want) = codes "memory"
cause_word Start = codes "start"
cause_word Cost = codes "cost"
cause_word Cut = codes "cut"
