-- What a report says to whoever reads it as JSON.
use Rattle.std.specs.Prelude.{ℕ, ◌≡◌, ◌<◌, ◌^◌, List, Vec, Option, None, Some, ⊤, codes}
use Rattle.serde_json.specs.Data.{Data, number, unsigned, string}
use Rattle.serde_json.specs.Find.{get}
use Rattle.serde_json.specs.Read.{read}
use Rattle.std.specs.declared.alloc.Global.{Global}
use Rattle.board.specs.declared.moves.Move.{Move}
use Rattle.outcomes.specs.Outcomes.{best_of}
use Rattle.outcomes.specs.Words.{cause_word}
use Rattle.outcomes.specs.declared.outcome.Why.{Why}
use Rattle.outcomes.specs.declared.outcome.Cause.{Cause}
use Rattle.outcomes.specs.declared.outcome.Ending.{Ending}
use Rattle.outcomes.specs.declared.outcome.Ending.TheVariants.{Optimal, Unsolvable, Bounded}
use Rattle.batch_runs.specs.Reports.{outcome_data, refused_data, accepted_data, accepted_bound_data, refused_certificate_data}

-- ---- the values that are reports

-- a number that is read back: JSON has greater ones, but a reader keeps 64 bits
abbrev pub IsSmall : ℕ → Type 0
IsSmall n = n < 2 ^ 64

-- the cost of the best plan is such a number
abbrev pub IsSmallBest : Option (ℕ × List Move) → Type 0
IsSmallBest None = ⊤
IsSmallBest (Some best) = IsSmall best.0

-- the numbers of an outcome's report are such numbers
abbrev pub HasSmallNumbers : Ending → Type 0
HasSmallNumbers (Optimal cost plan) = IsSmall cost
HasSmallNumbers (Unsolvable why) = ⊤
HasSmallNumbers (Bounded bound best cause) = IsSmall bound × IsSmallBest (best_of best)

-- the value of a report: of an outcome, of a refused line, of a certificate that is accepted or refused
pub data IsReport : Data → Type 0 where
  of_outcome : (id : List ℕ) (outcome : Ending) → HasSmallNumbers outcome → IsReport (outcome_data id outcome)
  of_line : (code : List ℕ) (line : ℕ) → IsSmall line → IsReport (refused_data code line)
  of_cost : (cost : ℕ) → IsSmall cost → IsReport (accepted_data cost)
  of_bound : (bound : ℕ) → IsSmall bound → IsReport (accepted_bound_data bound)
  of_certificate : (code : List ℕ) → IsReport (refused_certificate_data code)

-- ---- what a value says

-- a line is read as JSON, and is this value
abbrev pub Reads : List ℕ → Data → Type 0
Reads line d = read line ≡ Some d

-- the value has this member under this key
abbrev pub Says : Data → List ℕ → Data → Type 0
Says d key e = get key d ≡ Some e

-- a text
abbrev pub SaysText : Data → List ℕ → List ℕ → Type 0
SaysText d key text = Says d key (string text)

-- a number
abbrev pub SaysNumber : Data → List ℕ → ℕ → Type 0
SaysNumber d key n = Says d key (number (unsigned n))

-- the status of the value is this word
abbrev pub HasStatus : Data → List ℕ → Type 0
HasStatus d word = SaysText d (codes "status") word

-- two outcomes have one report: they are the same, except how memory ran out
pub data SaySame : Ending → Ending → Type 0 where
  optimal : (cost : ℕ) (plan plan' : Vec Move Global) → plan.items ≡ plan'.items → SaySame (Optimal cost plan) (Optimal cost plan')
  unsolvable : (why : Why) → SaySame (Unsolvable why) (Unsolvable why)
  bounded : (bound : ℕ) (best best' : Option (ℕ × Vec Move Global)) (cause cause' : Cause) → best_of best ≡ best_of best' → cause_word cause ≡ cause_word cause' → SaySame (Bounded bound best cause) (Bounded bound best' cause')
