-- The text of a report: one compact JSON object on a line, its keys in the order of their bytes.
use Rattle.std.specs.Prelude.{ℕ, List, [], ◌∷◌, ◌++◌, map, Option, None, Some, codes}
use Rattle.serde_json.specs.Data.{Data, number, unsigned, string, object, member, no_members, null}
use Rattle.serde_json.specs.Written.{compact_text}
use Rattle.board.specs.declared.moves.Move.{Move}
use Rattle.board.specs.Letters.{letter_of}
use Rattle.outcomes.specs.Outcomes.{best_of}
use Rattle.outcomes.specs.Words.{why_word, cause_word}
use Rattle.outcomes.specs.declared.outcome.Ending.{Ending}
use Rattle.outcomes.specs.declared.outcome.Ending.TheVariants.{Optimal, Unsolvable, Bounded}

-- the letters of a plan
abbrev pub letters_of : List Move → List ℕ
letters_of plan = map letter_of plan

-- the best plan, or null
abbrev pub best_data : Option (ℕ × List Move) → Data
best_data None = null
best_data (Some best) = object (member (codes "cost") (number (unsigned best.0)) (member (codes "plan") (string (letters_of best.1)) no_members))

-- the report of an outcome, without its rows, for the line with this id
abbrev pub outcome_data : List ℕ → Ending → Data
outcome_data id (Optimal cost plan) =
    object
    (member (codes "cost") (number (unsigned cost)) (member (codes "id") (string id) (member (codes "plan") (string (letters_of plan.items)) (member (codes "status") (string (codes "optimal")) no_members))))
outcome_data id (Unsolvable why) = object (member (codes "id") (string id) (member (codes "status") (string (codes "unsolvable")) (member (codes "why") (string (why_word why)) no_members)))
outcome_data id (Bounded bound best cause) =
    object
    (member (codes "best") (best_data (best_of best))
    (member (codes "bound") (number (unsigned bound))
    (member (codes "cause") (string (cause_word cause)) (member (codes "id") (string id) (member (codes "status") (string (codes "bounded")) no_members)))))

-- the report of a line that is refused by a fault with this code
abbrev pub refused_data : List ℕ → ℕ → Data
refused_data code line =
    object (member (codes "fault") (string code) (member (codes "line") (number (unsigned line)) (member (codes "status") (string (codes "refused")) no_members)))

-- the report of a certificate that is accepted: the cost that it proves
abbrev pub accepted_data : ℕ → Data
accepted_data cost = object (member (codes "cost") (number (unsigned cost)) (member (codes "status") (string (codes "accepted")) no_members))

-- the report of a certificate of a bound that is accepted
abbrev pub accepted_bound_data : ℕ → Data
accepted_bound_data bound = object (member (codes "bound") (number (unsigned bound)) (member (codes "status") (string (codes "accepted")) no_members))

-- the report of a certificate that is refused by a fault with this code
abbrev pub refused_certificate_data : List ℕ → Data
refused_certificate_data code = object (member (codes "fault") (string code) (member (codes "status") (string (codes "refused")) no_members))

-- an object on a line of its own
abbrev pub report_text : Data → List ℕ
report_text data_value = compact_text data_value ++ 10 ∷ []
