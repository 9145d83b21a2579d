-- The laws of what options say. Each is the contract of a function that does nothing.
use Rattle.std.specs.Prelude.{ℕ, ◌≡◌, ◌≢◌, ◌≤◌, ◌⊎◌, ◌↔◌, ⊤, List, [], ◌∷◌, Option, None, Some, IsTrue, String, false, codes, map}
use Rattle.std.specs.declared.alloc.Global.{Global}
use Rattle.clap.specs.Words.{Text, Row, Kinds, IsAmong, first_of, one_of, kind_of}
use Rattle.clap.specs.declared.error.kind.ErrorKind.{ErrorKind}
use Rattle.clap.specs.declared.error.kind.ErrorKind.TheVariants.{DisplayHelp, DisplayVersion, OutOfMemory}
use Rattle.clap.specs.declared.error.Error.{Error}
use Rattle.board.specs.Shapes.{ShapeModel}
use Rattle.board.specs.Boards.{BoardModel}
use Rattle.board.specs.Weights.{WeightsModel}
use Rattle.board.specs.declared.faults.TilesFault.{TilesFault}
use Rattle.board.specs.declared.faults.WeightsFault.{WeightsFault}
use Rattle.drawings.specs.declared.drawing.Style.{Style}
use Rattle.pattern_index.specs.Partitions.{IsPartition}
use Rattle.batch_lines.specs.OptionLaws.{IsMemoryRefusal}
use Rattle.batch_lines.specs.declared.group_faults.GroupsFault.{GroupsFault}
use Rattle.command_line.specs.declared.requests.Options.{Options}
use Rattle.command_line.specs.declared.requests.Listing.{Listing}
use Rattle.command_line.specs.declared.requests.Request.{Request}
use Rattle.command_line.specs.declared.requests.Request.TheVariants.{Solve, Certify, Check, Draw, Upgrade, Replay, Boards, Help, Version}
use Rattle.command_line.specs.declared.faults.NoRequest.{NoRequest}
use Rattle.command_line.specs.declared.faults.ListFault.{ListFault}
use Rattle.command_line.specs.declared.faults.NoRequest.TheVariants.{Usage, Goal, Costs, Groups, NoListing, Memory, NoMatch}
use Rattle.command_line.specs.Requests.{HasNumber, HasShape, IsGoalSaid, IsGoalFault, AreCostsSaid, IsCostsFault, IsSet, IsStyle, AreOptions, AreDefaults, OptionsFail, SaysListing, ListingFails, AsksRun, RunFails, AsksText, TextFails, StyleFails, spread_text}
use Rattle.command_line.specs.Commands.{Choices, AreChoices}

-- the rows and columns say one shape
abbrev pub ShapesAreDetermined : Type 0
ShapesAreDetermined = (rows : List Row) (grid grid' : ShapeModel) → HasShape rows grid → HasShape rows grid' → grid' ≡ grid

-- one goal is said, and where one is said its text has no fault
abbrev pub SaidGoalsAreDetermined : Type 0
SaidGoalsAreDetermined = (grid : ShapeModel) (text : Option Text) (goal goal' : BoardModel) → IsGoalSaid grid text goal → IsGoalSaid grid text goal' → goal' ≡ goal

abbrev pub SaidGoalsHaveNoFault : Type 0
SaidGoalsHaveNoFault = (grid : ShapeModel) (text : Option Text) (goal : BoardModel) (fault : TilesFault) → IsGoalSaid grid text goal → ¬ IsGoalFault grid text fault

-- one rule of costs is said, and where one is said its text has no fault
abbrev pub SaidCostsAreDetermined : Type 0
SaidCostsAreDetermined = (grid : ShapeModel) (text : Option Text) (rule rule' : WeightsModel) → AreCostsSaid grid text rule → AreCostsSaid grid text rule' → rule' ≡ rule

abbrev pub SaidCostsHaveNoFault : Type 0
SaidCostsHaveNoFault = (grid : ShapeModel) (text : Option Text) (rule : WeightsModel) (fault : WeightsFault) → AreCostsSaid grid text rule → ¬ IsCostsFault grid text fault

-- memory is refused for the groups, which the options don't decide
abbrev pub IsWant : NoRequest → Type 0
IsWant (Usage text) = ⊥
IsWant (Goal fault) = ⊥
IsWant (Costs fault) = ⊥
IsWant (Groups fault) = IsMemoryRefusal fault
IsWant (NoListing fault) = ⊥
IsWant (Memory error) = ⊥
IsWant NoMatch = ⊥

-- options that are said have no fault, except that memory may be refused for their groups
abbrev pub OptionsHaveNoFault : Type 0
OptionsHaveNoFault = (rows : List Row) (o : Options) (refusal : NoRequest) → IsPartition o.groups → AreOptions rows o → OptionsFail rows refusal → IsWant refusal

-- and so it is with boards that are said
abbrev pub ListingsHaveNoFault : Type 0
ListingsHaveNoFault = (rows : List Row) (l : Listing) (refusal : NoRequest) → SaysListing rows l → ListingFails rows refusal → IsWant refusal

-- the goal is judged before the costs, and these before the groups
abbrev pub GoalsAreJudgedBeforeCosts : Type 0
GoalsAreJudgedBeforeCosts = (rows : List Row) (fault : TilesFault) (later : WeightsFault) → OptionsFail rows (Goal fault) → ¬ OptionsFail rows (Costs later)

abbrev pub GoalsAreJudgedBeforeGroups : Type 0
GoalsAreJudgedBeforeGroups = (rows : List Row) (fault : TilesFault) (later : GroupsFault) → OptionsFail rows (Goal fault) → ¬ OptionsFail rows (Groups later)

abbrev pub CostsAreJudgedBeforeGroups : Type 0
CostsAreJudgedBeforeGroups = (rows : List Row) (fault : WeightsFault) (later : GroupsFault) → OptionsFail rows (Costs fault) → ¬ OptionsFail rows (Groups later)

-- tables are folded, and progress and figures printed, exactly where the option is there
abbrev pub FlagsAreSaid : Type 0
FlagsAreSaid =
    (rows : List Row) (o : Options)
    → AreOptions rows o
    → (IsTrue o.fold ↔ IsSet rows (codes "fold")) × (IsTrue o.progress ↔ IsSet rows (codes "progress")) × (IsTrue o.stats ↔ IsSet rows (codes "stats"))

-- none of this is done where there are no arguments
abbrev pub FlagsAreOff : Type 0
FlagsAreOff = (o : Options) → AreDefaults o → (o.fold ≡ false) × (o.progress ≡ false) × (o.stats ≡ false)

-- the limit, the workers, from 1 to 16, and their spread are those that the options of these names say
abbrev pub SearchesAreSaid : Type 0
SearchesAreSaid =
    (rows : List Row) (o : Options)
    → AreOptions rows o
    → HasNumber rows (codes "limit") o.limit × HasNumber rows (codes "workers") o.workers × (1 ≤ o.workers) × (o.workers ≤ 16) × (first_of (codes "spread") rows ≡ Some (spread_text o.spread))

-- options say one goal, rule of costs, limit, count of workers and spread
abbrev pub OptionsAreDetermined : Type 0
OptionsAreDetermined =
    (rows : List Row) (o o' : Options)
    → AreOptions rows o
    → AreOptions rows o'
    → (o'.goal ≡ o.goal) × (o'.costs ≡ o.costs) × (o'.limit ≡ o.limit) × (o'.workers ≡ o.workers) × (o'.spread ≡ o.spread)

-- options say one list of boards
abbrev pub ListingsAreDetermined : Type 0
ListingsAreDetermined = (rows : List Row) (l l' : Listing) → SaysListing rows l → SaysListing rows l' → l' ≡ l

-- and one style of drawing
abbrev pub StylesAreDetermined : Type 0
StylesAreDetermined = (rows : List Row) (look look' : Style) → IsStyle rows look → IsStyle rows look' → look' ≡ look

-- `solve` writes a certificate exactly where the option `cert` is there
abbrev pub CertIsSaid : Type 0
CertIsSaid =
    (name : Text) (rows : List Row) (o : Options) → (AsksRun (Some (name, rows)) (Certify o) → IsSet rows (codes "cert")) × (AsksRun (Some (name, rows)) (Solve o) → ¬ IsSet rows (codes "cert"))

-- faults ask for a text of help or of the version, where that is among them, and for nothing else
abbrev pub TextsAreOfFaults : Type 0
TextsAreOfFaults =
    (faults : Kinds) (request : Request)
    → AsksText faults request
    → (text : String Global) × (((request ≡ Help text) × IsAmong DisplayHelp faults) ⊎ ((request ≡ Version text) × IsAmong DisplayVersion faults))

-- where a parse with faults asks for nothing, one of them is neither and usage is shown, or the parser's error says that memory was refused
abbrev pub UsageIsOfFaults : Type 0
UsageIsOfFaults =
    (faults : Kinds) (refusal : NoRequest)
    → TextFails faults refusal
    → ((error : Error) × (refusal ≡ Memory error) × (kind_of error ≡ OutOfMemory)) ⊎ ((text : String Global) × (refusal ≡ Usage text) × ((kind : ErrorKind) × IsAmong kind faults × (kind ≢ DisplayHelp) × (kind ≢ DisplayVersion)))

-- the subcommand that asks for a run; help and the version are no runs
abbrev pub command_of : Request → Option Text
command_of (Solve o) = Some (codes "solve")
command_of (Certify o) = Some (codes "solve")
command_of Check = Some (codes "check")
command_of (Draw look) = Some (codes "show")
command_of Upgrade = Some (codes "upgrade")
command_of (Replay o) = Some (codes "replay")
command_of (Boards l) = Some (codes "boards")
command_of (Help text) = None
command_of (Version text) = None

-- each subcommand asks only for its own runs
abbrev pub RequestsAreOfTheirCommands : Type 0
RequestsAreOfTheirCommands = (name : Text) (rows : List Row) (request : Request) → AsksRun (Some (name, rows)) request → command_of request ≡ Some name

-- a run has the options, the style or the boards that the options of its subcommand say
abbrev pub RunsAreSaid : Type 0
RunsAreSaid =
    (name : Text) (rows : List Row) (o : Options) (look : Style) (l : Listing)
    → (AsksRun (Some (name, rows)) (Solve o) → AreOptions rows o)
    × (AsksRun (Some (name, rows)) (Certify o) → AreOptions rows o)
    × (AsksRun (Some (name, rows)) (Replay o) → AreOptions rows o)
    × (AsksRun (Some (name, rows)) (Draw look) → IsStyle rows look)
    × (AsksRun (Some (name, rows)) (Boards l) → SaysListing rows l)

-- `check` and `upgrade` are never refused, and `show` only where its options say no drawing
abbrev pub RunsWithoutBoardsAreAsked : Type 0
RunsWithoutBoardsAreAsked =
    (rows : List Row) (refusal : NoRequest)
    → (¬ RunFails (Some (codes "check", rows)) refusal) × (¬ RunFails (Some (codes "upgrade", rows)) refusal) × (RunFails (Some (codes "show", rows)) refusal → StyleFails rows refusal)

-- `boards` is refused only for the boards that its options say, and `solve` and `replay` only for their options
abbrev pub RefusalsAreOfOptions : Type 0
RefusalsAreOfOptions =
    (name : Text) (rows : List Row) (refusal : NoRequest)
    → RunFails (Some (name, rows)) refusal
    → (name ≡ codes "boards" → ListingFails rows refusal) × (name ≡ codes "solve" → OptionsFail rows refusal) × (name ≡ codes "replay" → OptionsFail rows refusal)

-- the groups of a request that has options
abbrev pub HasPartition : Request → Type 0
HasPartition (Solve o) = IsPartition o.groups
HasPartition (Certify o) = IsPartition o.groups
HasPartition (Replay o) = IsPartition o.groups
HasPartition _ = ⊤

-- a subcommand whose options ask for a run is refused only where memory is, for the groups
abbrev pub RunsHaveNoFault : Type 0
RunsHaveNoFault = (subcommand : Option (Text × List Row)) (request : Request) (refusal : NoRequest) → HasPartition request → AsksRun subcommand request → RunFails subcommand refusal → IsWant refusal

-- without a subcommand, or with one of another name, the parser's matches alone are refused
abbrev pub OthersAreNoMatch : Type 0
OthersAreNoMatch =
    (name : Text) (rows : List Row) (refusal : NoRequest)
    → (RunFails None refusal → refusal ≡ NoMatch)
    × (name ≢ codes "solve" → name ≢ codes "replay" → name ≢ codes "show" → name ≢ codes "boards" → RunFails (Some (name, rows)) refusal → refusal ≡ NoMatch)

-- a number is said by decimal digits: `1x` and the empty text say none, and `+07` says 7
abbrev pub NumbersAreDecimal : Type 0
NumbersAreDecimal =
    (rows : List Row) (id : Text) (n : ℕ)
    → HasNumber rows id n
    → (one_of id rows ≢ Some (codes "1x")) × (one_of id rows ≢ Some []) × (one_of id rows ≡ Some (codes "+07") → n ≡ 7)

-- which boards are listed is judged before the goal
abbrev pub ListingsAreJudgedBeforeGoals : Type 0
ListingsAreJudgedBeforeGoals = (rows : List Row) (fault : ListFault) (later : TilesFault) → ListingFails rows (NoListing fault) → ¬ ListingFails rows (Goal later)

-- `--spread` may have these three values
abbrev pub ChoicesAreThree : Type 0
ChoicesAreThree = (spreads : Choices) → AreChoices spreads → map (λ t. t.now) spreads.now ≡ codes "zobrist" ∷ codes "blank" ∷ codes "abstract" ∷ []
