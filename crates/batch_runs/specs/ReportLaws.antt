-- The laws of reports: what a reader may take from their texts. Each is the contract of a function that does nothing.
use Rattle.std.specs.Prelude.{ℕ, ◌≡◌, ◌≢◌, List, [], ◌∷◌, ◌++◌}
use Rattle.std.specs.List.{AllByRecursion}
use Rattle.serde_json.specs.Data.{Data}
use Rattle.serde_json.specs.Written.{compact_text}
use Rattle.outcomes.specs.declared.outcome.Ending.{Ending}
use Rattle.batch_runs.specs.Reports.{outcome_data, refused_data, accepted_data, accepted_bound_data, refused_certificate_data, report_text}
use Rattle.batch_runs.specs.ReportReadings.{IsSmall, HasSmallNumbers, IsReport, Reads, SaySame}

-- a report has one line feed (10), its last byte
abbrev pub ReportsAreLines : Type 0
ReportsAreLines = (d : Data) → (report_text d ≡ compact_text d ++ 10 ∷ []) × AllByRecursion (λ b. b ≢ 10) (compact_text d)

-- the line of a report is read as the value that it was made of
abbrev pub ReportsAreRead : Type 0
ReportsAreRead = (d : Data) → IsReport d → Reads (compact_text d) d

-- equal texts are reports of equal values
abbrev pub ReportsSayOneThing : Type 0
ReportsSayOneThing = (d e : Data) → IsReport d → IsReport e → report_text d ≡ report_text e → d ≡ e

-- from the report of an outcome its id, status, cost, plan, bound, reason and word of a cause are read back
abbrev pub OutcomesAreTold : Type 0
OutcomesAreTold =
    (id id' : List ℕ) (outcome outcome' : Ending)
    → HasSmallNumbers outcome
    → HasSmallNumbers outcome'
    → report_text (outcome_data id outcome) ≡ report_text (outcome_data id' outcome')
    → (id ≡ id') × SaySame outcome outcome'

-- and outcomes that say the same have one report
abbrev pub OutcomesAreToldAlike : Type 0
OutcomesAreToldAlike = (id : List ℕ) (outcome outcome' : Ending) → SaySame outcome outcome' → outcome_data id outcome ≡ outcome_data id outcome'

-- from the report of a refused line its code and number are read back
abbrev pub RefusalsAreTold : Type 0
RefusalsAreTold =
    (code code' : List ℕ) (line line' : ℕ)
    → IsSmall line
    → IsSmall line'
    → report_text (refused_data code line) ≡ report_text (refused_data code' line')
    → (code ≡ code') × (line ≡ line')

-- from the report of an accepted certificate its cost is read back
abbrev pub CostsAreTold : Type 0
CostsAreTold = (cost cost' : ℕ) → IsSmall cost → IsSmall cost' → report_text (accepted_data cost) ≡ report_text (accepted_data cost') → cost ≡ cost'

-- from that of an accepted bound the bound
abbrev pub BoundsAreTold : Type 0
BoundsAreTold = (bound bound' : ℕ) → IsSmall bound → IsSmall bound' → report_text (accepted_bound_data bound) ≡ report_text (accepted_bound_data bound') → bound ≡ bound'

-- and from that of a refused one its code
abbrev pub CodesAreTold : Type 0
CodesAreTold = (code code' : List ℕ) → report_text (refused_certificate_data code) ≡ report_text (refused_certificate_data code') → code ≡ code'
