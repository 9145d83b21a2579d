-- What the arguments of a command line ask for.
use Rattle.std.specs.Prelude.{ℕ, ◌≡◌, ◌≢◌, ◌≤◌, ◌⊎◌, ◌↔◌, ◌-◌, ◌^◌, ◌<◌, false, IsTrue, List, [], ◌∷◌, Option, Some, None, codes, option_map, map}
use Rattle.std.specs.Str.Parse.{IsNumeral, digits_value, without_leading_plus}
use Rattle.clap.specs.Words.{Text, Row, App, Kinds, IsAmong, kind_of, first_of, one_of, fault_of, subcommand_of}
use Rattle.clap.specs.declared.error.kind.ErrorKind.{ErrorKind}
use Rattle.clap.specs.declared.error.kind.ErrorKind.TheVariants.{DisplayHelp, DisplayVersion, OutOfMemory}
use Rattle.board.specs.Shapes.{ShapeModel, IsShape}
use Rattle.board.specs.Boards.{BoardModel, goal_of}
use Rattle.board.specs.Weights.{WeightsModel, unit_rule}
use Rattle.pattern_index.specs.Partitions.{PartitionModel}
use Rattle.batch_lines.specs.Words.{IsFirstWordFault}
use Rattle.batch_runs.specs.declared.setup.SpreadKind.{SpreadKind}
use Rattle.batch_runs.specs.declared.setup.SpreadKind.TheVariants.{Zobrist, Blank, Abstract}
use Rattle.batch_lines.specs.Texts.{comma_words, IsGoalOf, SaysCosts, group_texts, AreGroupsOf}
use Rattle.batch_lines.specs.GroupFaults.{IsFirstCostsFault, IsFirstGroupsFault}
use Rattle.batch_lines.specs.Defaults.{default_groups}
use Rattle.batch_lines.specs.OptionLaws.{IsMemoryRefusal}
use Rattle.batch_lines.specs.declared.group_faults.GroupsFault.{GroupsFault}
use Rattle.board.specs.declared.faults.TilesFault.{TilesFault}
use Rattle.board.specs.declared.faults.WeightsFault.{WeightsFault}
use Rattle.command_line.specs.declared.requests.Options.{Options}
use Rattle.command_line.specs.declared.requests.Request.{Request}
use Rattle.command_line.specs.declared.requests.Request.TheVariants.{Solve, Certify, Check, Draw, Upgrade, Replay, Boards, Help, Version}
use Rattle.drawings.specs.declared.drawing.Style.{Style}
use Rattle.drawings.specs.declared.drawing.Style.TheVariants as style
use Rattle.board_lists.specs.Lists.{MayBeListed}
use Rattle.board_lists.specs.declared.choices.Choice.{Choice}
use Rattle.board_lists.specs.declared.choices.Choice.TheVariants.{Drawn, Walked, Whole}
use Rattle.command_line.specs.declared.requests.Listing.{Listing}
use Rattle.command_line.specs.declared.faults.ListFault.{ListFault}
use Rattle.command_line.specs.declared.faults.ListFault.TheVariants.{NotAlone, TooManyCells}
use Rattle.command_line.specs.declared.values.Values.{Values}
use Rattle.command_line.specs.declared.faults.NoRequest.{NoRequest}
use Rattle.command_line.specs.declared.faults.NoRequest.TheVariants.{Usage, Goal, Costs, Groups, NoListing, Memory, NoMatch}
use Rattle.command_line.specs.Commands.{IsProgram}

-- ---- values of options

-- the option has a value: decimal digits, with or without a plus, that say this number of at most 64 bits
pub record HasNumber (rows : List Row) (id : Text) (n : ℕ) : Type 0 where
  pub text : Text
  pub given : one_of id rows ≡ Some text
  pub numeral : IsNumeral 10 (without_leading_plus text)
  pub value : n ≡ digits_value 10 (without_leading_plus text)
  pub few : n < 2 ^ 64

abbrev pub spread_text : SpreadKind → Text
spread_text Zobrist = codes "zobrist"
spread_text Blank = codes "blank"
spread_text Abstract = codes "abstract"

-- an option without a value is there
abbrev pub IsSet : List Row → Text → Type 0
IsSet rows id = first_of id rows ≡ Some (codes "true")

-- the shape that the rows and columns say, each from 2 to 5
pub record HasShape (rows : List Row) (grid : ShapeModel) : Type 0 where
  pub tall : HasNumber rows (codes "rows") grid.rows
  pub wide : HasNumber rows (codes "cols") grid.cols
  pub small : IsShape grid

-- how many workers are said, from 1 to 16
pub record HasWorkers (rows : List Row) (n : ℕ) : Type 0 where
  pub count : HasNumber rows (codes "workers") n
  pub some : 1 ≤ n
  pub few : n ≤ 16

-- what the values of a subcommand's options say; the texts of the goal, of the costs and of the groups are not yet read
pub record AreValues (rows : List Row) (v : Values) : Type 0 where
  pub shape : HasShape rows v.shape
  pub goal : first_of (codes "goal") rows ≡ option_map (λ t. t.now) v.goal
  pub costs : first_of (codes "cost") rows ≡ option_map (λ t. t.now) v.costs
  pub groups : first_of (codes "groups") rows ≡ option_map (λ t. t.now) v.groups
  pub fold : IsTrue v.fold ↔ IsSet rows (codes "fold")
  pub workers : HasWorkers rows v.workers
  pub spread : first_of (codes "spread") rows ≡ Some (spread_text v.spread)
  pub limit : HasNumber rows (codes "limit") v.limit
  pub progress : IsTrue v.progress ↔ IsSet rows (codes "progress")
  pub stats : IsTrue v.stats ↔ IsSet rows (codes "stats")

-- the options of a search have values that they may have
pub record HaveValues (rows : List Row) (grid : ShapeModel) (workers limit : ℕ) (spread : SpreadKind) : Type 0 where
  pub shape : HasShape rows grid
  pub count : HasWorkers rows workers
  pub word : first_of (codes "spread") rows ≡ Some (spread_text spread)
  pub most : HasNumber rows (codes "limit") limit

-- one of them has none
abbrev pub LackValues : List Row → Type 0
LackValues rows = (grid : ShapeModel) (workers limit : ℕ) (spread : SpreadKind) → ¬ HaveValues rows grid workers limit spread

-- the goal that a text says, and where there is no text Korf's
abbrev pub IsGoalSaid : ShapeModel → Option Text → BoardModel → Type 0
IsGoalSaid grid None goal = goal ≡ goal_of grid
IsGoalSaid grid (Some text) goal = IsGoalOf grid text goal

-- the first fault of that text
abbrev pub IsGoalFault : ShapeModel → Option Text → TilesFault → Type 0
IsGoalFault grid None fault = ⊥
IsGoalFault grid (Some text) fault = IsFirstWordFault grid (comma_words text) fault

-- the costs that a text says, and where there is no text unit cost
abbrev pub AreCostsSaid : ShapeModel → Option Text → WeightsModel → Type 0
AreCostsSaid grid None rule = rule ≡ unit_rule grid
AreCostsSaid grid (Some text) rule = SaysCosts grid text rule

-- the first fault of that text
abbrev pub IsCostsFault : ShapeModel → Option Text → WeightsFault → Type 0
IsCostsFault grid None fault = ⊥
IsCostsFault grid (Some text) fault = IsFirstCostsFault grid text fault

-- the groups that a text says, and where there is no text the default groups
abbrev pub AreGroupsSaid : ShapeModel → Option Text → PartitionModel → Type 0
AreGroupsSaid grid None split = (split.grid ≡ grid) × (map (λ g. g.tiles) split.groups ≡ default_groups grid)
AreGroupsSaid grid (Some text) split = (split.grid ≡ grid) × AreGroupsOf grid (group_texts text) split.groups

-- the first fault of that text; without a text only that memory is refused
abbrev pub IsGroupsFault : ShapeModel → Option Text → GroupsFault → Type 0
IsGroupsFault grid None fault = IsMemoryRefusal fault
IsGroupsFault grid (Some text) fault = IsFirstGroupsFault grid (group_texts text) fault

-- what the values of a subcommand's options say
pub record AreOptions (rows : List Row) (o : Options) : Type 0 where
  pub shape : HasShape rows o.goal.grid
  pub goal : IsGoalSaid o.goal.grid (first_of (codes "goal") rows) o.goal
  pub costs : AreCostsSaid o.goal.grid (first_of (codes "cost") rows) o.costs
  pub groups : AreGroupsSaid o.goal.grid (first_of (codes "groups") rows) o.groups
  pub fold : IsTrue o.fold ↔ IsSet rows (codes "fold")
  pub workers : HasWorkers rows o.workers
  pub spread : first_of (codes "spread") rows ≡ Some (spread_text o.spread)
  pub limit : HasNumber rows (codes "limit") o.limit
  pub progress : IsTrue o.progress ↔ IsSet rows (codes "progress")
  pub stats : IsTrue o.stats ↔ IsSet rows (codes "stats")

-- Why they say nothing: the fault of the goal's text; or where that has none, the fault of the costs' text; or where that has none either, the
-- fault of the groups' text, or that memory is refused for them. Or an option lacks a value that it may have.
abbrev pub OptionsFail : List Row → NoRequest → Type 0
OptionsFail rows (Usage text) = ⊥
OptionsFail rows (Goal fault) = (grid : ShapeModel) × HasShape rows grid × IsGoalFault grid (first_of (codes "goal") rows) fault
OptionsFail rows (Costs fault) =
    (grid : ShapeModel) × HasShape rows grid × (goal : BoardModel) × IsGoalSaid grid (first_of (codes "goal") rows) goal × IsCostsFault grid (first_of (codes "cost") rows) fault
OptionsFail rows (Groups fault) =
    (grid : ShapeModel) × HasShape rows grid × (goal : BoardModel) × IsGoalSaid grid (first_of (codes "goal") rows) goal × (rule : WeightsModel)
    × AreCostsSaid grid (first_of (codes "cost") rows) rule × IsGroupsFault grid (first_of (codes "groups") rows) fault
OptionsFail rows (NoListing fault) = ⊥
OptionsFail rows (Memory error) = ⊥
OptionsFail rows NoMatch = LackValues rows

-- how the values of the options of `show` say that a certificate is drawn: a width has 16 bits, and seconds have 8
abbrev pub IsStyle : List Row → Style → Type 0
IsStyle rows (style.Text width) = HasNumber rows (codes "width") width × (width < 65536) × (first_of (codes "svg") rows ≢ Some (codes "true"))
IsStyle rows (style.Svg seconds) = HasNumber rows (codes "seconds") seconds × (seconds < 256) × IsSet rows (codes "svg")

-- why they say no drawing: they have no such value
abbrev pub StyleFails : List Row → NoRequest → Type 0
StyleFails rows refusal = (refusal ≡ NoMatch) × ((look : Style) → ¬ IsStyle rows look)

-- the option is left out
abbrev pub IsLeftOut : List Row → Text → Type 0
IsLeftOut rows id = first_of id rows ≡ None

-- how many boards are said, and 10 where nothing is said of that
abbrev pub HasCount : List Row → ℕ → Type 0
HasCount rows n = (IsLeftOut rows (codes "count") × (n ≡ 10)) ⊎ HasNumber rows (codes "count") n

-- which boards the values of the options of `boards` say
abbrev pub IsChoice : List Row → Choice → Type 0
IsChoice rows (Drawn count seed) = (¬ IsSet rows (codes "all")) × IsLeftOut rows (codes "moves") × HasCount rows count × HasNumber rows (codes "seed") seed
IsChoice rows (Walked moves count seed) = (¬ IsSet rows (codes "all")) × HasNumber rows (codes "moves") moves × HasCount rows count × HasNumber rows (codes "seed") seed
IsChoice rows Whole = IsSet rows (codes "all") × IsLeftOut rows (codes "count") × IsLeftOut rows (codes "moves")

-- what the values of the options of `boards` say; a whole class has a small shape
pub record SaysListing (rows : List Row) (l : Listing) : Type 0 where
  pub shape : HasShape rows l.goal.grid
  pub goal : IsGoalSaid l.goal.grid (first_of (codes "goal") rows) l.goal
  pub choice : IsChoice rows l.choice
  pub small : MayBeListed l.goal.grid l.choice

-- why they say no boards: `--all` isn't alone; or it is, and the shape has too many cells
abbrev pub IsListFault : List Row → ListFault → Type 0
IsListFault rows NotAlone = IsSet rows (codes "all") × ((¬ IsLeftOut rows (codes "count")) ⊎ (¬ IsLeftOut rows (codes "moves")))
IsListFault rows TooManyCells = IsChoice rows Whole × (grid : ShapeModel) × HasShape rows grid × (¬ MayBeListed grid Whole)

-- why they say nothing: that, or, where they say which boards, the fault of the goal's text; or an option lacks a value that it may have
abbrev pub ListingFails : List Row → NoRequest → Type 0
ListingFails rows (Usage text) = ⊥
ListingFails rows (Goal fault) = (grid : ShapeModel) × (choice : Choice) × HasShape rows grid × IsChoice rows choice × MayBeListed grid choice × IsGoalFault grid (first_of (codes "goal") rows) fault
ListingFails rows (Costs fault) = ⊥
ListingFails rows (Groups fault) = ⊥
ListingFails rows (NoListing fault) = IsListFault rows fault
ListingFails rows (Memory error) = ⊥
ListingFails rows NoMatch = (grid : ShapeModel) (choice : Choice) → HasShape rows grid → ¬ IsChoice rows choice

-- ---- what arguments ask for

-- the run that a subcommand and the values of its options ask for
abbrev pub AsksRun : Option (Text × List Row) → Request → Type 0
AsksRun None request = ⊥
AsksRun (Some p) (Solve o) = (p.0 ≡ codes "solve") × AreOptions p.1 o × (first_of (codes "cert") p.1 ≢ Some (codes "true"))
AsksRun (Some p) (Certify o) = (p.0 ≡ codes "solve") × AreOptions p.1 o × (first_of (codes "cert") p.1 ≡ Some (codes "true"))
AsksRun (Some p) Check = p.0 ≡ codes "check"
AsksRun (Some p) (Draw look) = (p.0 ≡ codes "show") × IsStyle p.1 look
AsksRun (Some p) Upgrade = p.0 ≡ codes "upgrade"
AsksRun (Some p) (Replay o) = (p.0 ≡ codes "replay") × AreOptions p.1 o
AsksRun (Some p) (Boards l) = (p.0 ≡ codes "boards") × SaysListing p.1 l
AsksRun (Some p) (Help text) = ⊥
AsksRun (Some p) (Version text) = ⊥

-- the name of none of the subcommands that have options
abbrev pub IsOther : Text → Type 0
IsOther name = (name ≢ codes "solve") × (name ≢ codes "replay") × (name ≢ codes "show") × (name ≢ codes "boards")

-- Why the values of a subcommand's options ask for no run. `check` and `upgrade`, which have no options, always ask for their own. `show` and
-- `boards` have options of their own.
abbrev pub RunFails : Option (Text × List Row) → NoRequest → Type 0
RunFails None refusal = refusal ≡ NoMatch
RunFails (Some p) refusal =
    (p.0 ≢ codes "check") × (p.0 ≢ codes "upgrade") × (p.0 ≡ codes "show" → StyleFails p.1 refusal) × (p.0 ≡ codes "boards" → ListingFails p.1 refusal)
    × (p.0 ≡ codes "solve" → OptionsFail p.1 refusal) × (p.0 ≡ codes "replay" → OptionsFail p.1 refusal) × (IsOther p.0 → refusal ≡ NoMatch)

-- a text that a parse with these faults asks for
abbrev pub AsksText : Kinds → Request → Type 0
AsksText faults (Help text) = IsAmong DisplayHelp faults
AsksText faults (Version text) = IsAmong DisplayVersion faults
AsksText faults _ = ⊥

-- why a parse with these faults asks for nothing: one of them, or that the parser's error says that memory was refused
abbrev pub TextFails : Kinds → NoRequest → Type 0
TextFails faults (Usage text) = (kind : ErrorKind) × IsAmong kind faults × (kind ≢ DisplayHelp) × (kind ≢ DisplayVersion)
TextFails faults (Goal fault) = ⊥
TextFails faults (Costs fault) = ⊥
TextFails faults (Groups fault) = ⊥
TextFails faults (NoListing fault) = ⊥
TextFails faults (Memory error) = kind_of error ≡ OutOfMemory
TextFails faults NoMatch = ⊥

-- Without arguments: boards of 3 by 3 at unit cost with Korf's goal and the default groups, whose tables are not folded, by one worker without a
-- limit. Neither progress nor figures are printed.
pub record AreDefaults (o : Options) : Type 0 where
  pub goal : o.goal ≡ goal_of (record { rows = 3; cols = 3 })
  pub costs : o.costs ≡ unit_rule (record { rows = 3; cols = 3 })
  pub groups : AreGroupsSaid o.goal.grid None o.groups
  pub fold : o.fold ≡ false
  pub workers : o.workers ≡ 1
  pub spread : o.spread ≡ Zobrist
  pub limit : o.limit ≡ 2 ^ 64 - 1
  pub progress : o.progress ≡ false
  pub stats : o.stats ≡ false

abbrev pub AsksDefaults : Request → Type 0
AsksDefaults (Solve o) = AreDefaults o
AsksDefaults _ = ⊥

abbrev pub DefaultsFail : NoRequest → Type 0
DefaultsFail (Groups fault) = IsMemoryRefusal fault
DefaultsFail _ = ⊥

-- what arguments ask for: a text, or, where a parse by the program finds no fault, a run
abbrev pub WordsAsk : List Text → Request → Type 0
WordsAsk [] request = AsksDefaults request
WordsAsk (word ∷ words) request =
    (program : App) × IsProgram program
    × (AsksText (fault_of program (word ∷ words)) request ⊎ ((fault_of program (word ∷ words) ≡ []) × AsksRun (subcommand_of program (word ∷ words)) request))

-- why they ask for nothing
abbrev pub WordsFail : List Text → NoRequest → Type 0
WordsFail [] refusal = DefaultsFail refusal
WordsFail (word ∷ words) refusal =
    (program : App) × IsProgram program
    × (TextFails (fault_of program (word ∷ words)) refusal ⊎ ((fault_of program (word ∷ words) ≡ []) × RunFails (subcommand_of program (word ∷ words)) refusal))
