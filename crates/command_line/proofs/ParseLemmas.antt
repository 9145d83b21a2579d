-- What a parse of arguments says of a command, its matches, and what they ask for.
use Rattle.std.proofs.Common.{◌≡◌, ℕ, List, Option, None, Some, sym, ap, subst, ◌∙◌, codes, true, refl, Bool, false, ap₂, [], Result, Ok, Err, IfOk, IfErr, inl, option_map, ◌≢◌, ◌==◌, ◌⊎◌, ◌∷◌, inr, map, length, get_or, arith, slice_get, option_and_then}
use Rattle.std.specs.Prelude.{◌<◌, ◌≤◌, ◌^◌, ◌||◌, IfSome, IfNone, IsTrue, ◌↔◌, is_some, not, unwrap_or, Box, find}
use Rattle.std.specs.Result.{IsErrAnd}
use Rattle.std.proofs.lemmas.Bool.{true≢false}
use Rattle.std.specs.Str.{bytes_eq}
use Rattle.std.proofs.lemmas.Slice.Eq.{bytes_eq-Decides}
use Rattle.std.specs.Borrow.{Bor}
use Rattle.std.specs.Str.Parse.{IsNumeral, digits_value, without_leading_plus}
use Rattle.std.specs.Result.{OkIff}
use Rattle.std.specs.Box.{box_value}
use Rattle.std.proofs.lemmas.Result.{IfOk-weaker, IfErr-weaker}
use Rattle.clap.specs.Words.{Text, Row, first_of, one_of, is_simple, is_simple_and_free, App, Rule, AddsArg, AddsSubcommand, app_of, rule_of, with_rule, with_subcommand, FailsBy, HasKind, HasMatchesOf, fault_of, kind_of, read_as as value_read, subcommand_of, subcommand_rows_of, ReadsOne, one_text, first_value, rows_of, subcommand_name_of, Kinds}
use Rattle.clap.proofs.OnLiterals.{clap_on_literals}
use Rattle.clap.specs.declared.builder.arg.Arg.{Arg}
use Rattle.clap.specs.declared.builder.command.Command.{Command}
use Rattle.clap.specs.declared.builder.command.Command.TheViews.{out-Command}
use Rattle.clap.specs.declared.error.Error.{Error}
use Rattle.clap.specs.declared.error.kind.ErrorKind.TheVariants.{OutOfMemory}
use Rattle.clap.specs.declared.parser.matches.ArgMatches.{ArgMatches}
use Rattle.clap.specs.declared.parser.matches.Found.{Found}
use Rattle.clap.proofs.WalkLemmas.{one_text-rows, first_value-rows}
use Rattle.clap.specs.Simple.{subcommand_rows}
use Rattle.clap.specs.declared.parser.matches.ArgMatches.TheViews.{out-ArgMatches, out-SubCommand}
use Rattle.clap.specs.declared.parser.matches.SubCommand.{SubCommand}
use Rattle.clap.specs.declared.builder.value_parser.ValueParser.{ValueParser}
use Rattle.command_line.specs.Commands.{Choices, program_app, parsed_rule, AreChoices, IsProgram, IsReadAs}
use Rattle.command_line.specs.Requests.{HasNumber, HasCount, HasWorkers, HaveValues, LackValues, IsLeftOut, IsStyle, HasShape, spread_text, IsGoalSaid, IsGoalFault, AreCostsSaid, IsCostsFault, AreGroupsSaid, IsGroupsFault, AreOptions, OptionsFail, RunFails, AsksRun, AsksText, TextFails, WordsAsk, WordsFail}
use Rattle.command_line.specs.declared.faults.NoRequest.TheVariants.{Usage, Goal, Costs, Groups, NoListing, Memory, NoMatch}
use Rattle.command_line.specs.declared.requests.Request.{Request}
use Rattle.command_line.specs.declared.requests.Request.TheVariants.{Solve, Certify, Check, Draw, Upgrade, Replay, Boards, Help, Version}
use Rattle.batch_runs.specs.declared.setup.SpreadKind.{SpreadKind}
use Rattle.batch_runs.specs.declared.setup.SpreadKind.TheVariants.{Zobrist, Blank, Abstract}
use Rattle.drawings.specs.declared.drawing.Style.{Style}
use Rattle.drawings.specs.declared.drawing.Style.TheVariants as style
use Rattle.command_line.specs.declared.faults.NoRequest.{NoRequest}
use Rattle.board.specs.Shapes.{ShapeModel, IsShape}
use Rattle.board.specs.Boards.{BoardModel}
use Rattle.board.specs.Weights.{WeightsModel, unit_rule}
use Rattle.board.specs.declared.faults.TilesFault.{TilesFault}
use Rattle.board.specs.declared.faults.WeightsFault.{WeightsFault}
use Rattle.pattern_index.specs.Partitions.{PartitionModel, IsPartition}
use Rattle.batch_lines.specs.Texts.{group_texts, AreGroupsOf}
use Rattle.batch_lines.specs.GroupFaults.{IsFirstGroupsFault}
use Rattle.batch_lines.specs.OptionLaws.{IsMemoryRefusal}
use Rattle.batch_lines.specs.declared.group_faults.GroupsFault.{GroupsFault}
use Rattle.batch_lines.proofs.TextLemmas.{one_goal, no_goal_fault}
use Rattle.batch_lines.proofs.CostLemmas.{one_rule, no_costs_fault}
use Rattle.batch_lines.proofs.OptionLawLemmas.{no_groups_fault}
use Rattle.command_line.specs.declared.requests.Options.{Options}
use Rattle.command_line.specs.Laws.{IsWant, SearchesAreSaid, OptionsAreDetermined, ListingsAreDetermined, StylesAreDetermined, CertIsSaid, TextsAreOfFaults, UsageIsOfFaults, command_of, RequestsAreOfTheirCommands, RunsAreSaid, RunsWithoutBoardsAreAsked, RefusalsAreOfOptions, ListingsAreJudgedBeforeGoals, ChoicesAreThree, RunsHaveNoFault, OthersAreNoMatch, NumbersAreDecimal}
use Rattle.command_line.specs.Worked.{IsOutOfMemory, IsPlainSearch, WordsAskOneThing, WordsAreNotRefused}
use Rattle.command_line.specs.Requests.{IsChoice, SaysListing, IsListFault, ListingFails}
use Rattle.command_line.specs.declared.requests.Listing.{Listing}
use Rattle.command_line.specs.declared.faults.ListFault.TheVariants.{NotAlone, TooManyCells}
use Rattle.board_lists.specs.Lists.{MayBeListed}
use Rattle.board_lists.specs.declared.choices.Choice.{Choice}
use Rattle.board_lists.specs.declared.choices.Choice.TheVariants.{Drawn, Walked, Whole}

-- ---- the command is one of those whose parse clap's contracts give as a function of the arguments

pub program_is_simple : (spreads : Choices) → is_simple (program_app spreads) ≡ true
unfolding clap_on_literals
program_is_simple spreads = refl

pub program_is_free : (spreads : Choices) → is_simple_and_free (program_app spreads) ≡ true
unfolding clap_on_literals
program_is_free spreads = refl

-- ---- how a command is read after an argument or a subcommand was added

pub read_as : {command : Command} {app : App} → app_of command ≡ app → (out-Command command).has_globals ≡ false → IsReadAs app command
read_as parse local = record { parse = parse; local = local }

-- the argument's rule comes last
pub adds_rule : (old new : Command) (arg : Arg) → AddsArg old arg new → arg.global ≡ false → {rule : Rule} → rule_of arg ≡ rule → {app : App} → IsReadAs app old → IsReadAs (with_rule app rule) new
adds_rule old new arg added local is before = record {
  parse = added.shape local ∙ ap₂ with_rule before.parse is;
  local = added.globals ∙ ap₂ (λ (x y : Bool). x || y) before.local local;
}

-- the subcommand comes last
pub adds_subcommand : (old below new : Command) → AddsSubcommand old below new → {app' : App} → IsReadAs app' below → {app : App} → IsReadAs app old → IsReadAs (with_subcommand app app'.top) new
adds_subcommand old below new added is before = record {
  parse = added.shape is.local ∙ ap₂ with_subcommand before.parse (ap (λ (a : App). a.top) is.parse);
  local = added.globals ∙ ap₂ (λ (x y : Bool). x || y) before.local is.local;
}

-- an option whose values are parsed so
pub parses : (option arg : Rule) (parser : ValueParser) (given : Text) → arg ≡ parsed_rule option parser given → {rule : Rule} → option ≡ rule → arg ≡ parsed_rule rule parser given
parses option arg parser given made is = made ∙ ap (λ (r : Rule). parsed_rule r parser given) is

-- ---- what a parse of arguments by the program says of them

-- matches say that there is no fault, and what the subcommand has
pub matches_say : (spreads : Choices) → AreChoices spreads → (program : App) → program ≡ program_app spreads → (words : List Text) → (result : Result ArgMatches Error) → IfOk result (HasMatchesOf program words) → (is_simple_and_free program ≡ true → FailsBy (fault_of program words) result) → IfOk result (λ matches. (program : App) × IsProgram program × (fault_of program words ≡ []) × (subcommand_rows_of matches ≡ subcommand_of program words))
matches_say spreads choices program is words (Ok matches) has fails = (
  program,
  (spreads, choices, is),
  fails (ap is_simple_and_free is ∙ program_is_free spreads),
  (has (ap is_simple is ∙ program_is_simple spreads)).1,
)
matches_say spreads choices program is words (Err error) has fails = tt

-- an error has a kind of fault that the arguments have, or memory was refused
pub error_says : (spreads : Choices) → AreChoices spreads → (program : App) → program ≡ program_app spreads → (words : List Text) → (result : Result ArgMatches Error) → (is_simple_and_free program ≡ true → FailsBy (fault_of program words) result) → IfErr result (λ error. (program : App) × IsProgram program × HasKind (fault_of program words) error)
error_says spreads choices program is words (Ok matches) fails = tt
error_says spreads choices program is words (Err error) fails = (program, (spreads, choices, is), fails (ap is_simple_and_free is ∙ program_is_free spreads))

-- so has an error that the program was not made by
pub refused_says : (spreads : Choices) → AreChoices spreads → (words : List Text) → (refused : Error) → kind_of refused ≡ OutOfMemory → (result : Result ArgMatches Error) → IsErrAnd result (λ error. error ≡ refused) → IfErr result (λ error. (program : App) × IsProgram program × HasKind (fault_of program words) error)
refused_says spreads choices words refused kind (Ok matches) told = tt
refused_says spreads choices words refused kind (Err error) told = (program_app spreads, (spreads, choices, refl), inl (ap kind_of told ∙ kind))

-- ---- what a value that was read says of the matches

some_text : (text text' : Text) → Some text ≡ Some text' → text ≡ text'
some_text text text' e = cc

-- texts that are numbers below `over`, and no others, are read
abbrev pub ReadsBelow : (E : Type 0) → ℕ → (List ℕ → Result ℕ E → Type 0) → Type 0
ReadsBelow E over gives = (t : Text) (r : Result ℕ E) → gives t r → OkIff r (IsNumeral 10 (without_leading_plus t) × (digits_value 10 (without_leading_plus t) < over)) (digits_value 10 (without_leading_plus t))

-- a getter that read a number read it from the option's value
pub number_read : (E : Type 0) (over : ℕ) (gives : List ℕ → Result ℕ E → Type 0) → over ≤ 2 ^ 64 → ReadsBelow E over gives → (f : Found) (id : Text) (given : Option Text) → one_text f id ≡ given → (read : Option ℕ) → (given ≡ None → read ≡ None) → ((t : Text) → given ≡ Some t → ReadsOne gives t read) → IfSome read (HasNumber (rows_of f) id)
number_read E over gives most exact f id None is read none value = rw (none refl) tt
number_read E over gives most exact f id (Some t) is None none value = tt
number_read E over gives most exact f id (Some t) is (Some n) none value =
    let got = exact t (Ok n) (value t refl) in
    record {
      text = t;
      given = sym (one_text-rows f id) ∙ is;
      numeral = got.0.0;
      value = got.1;
      few = omega (arith, most, got.0.1, got.1);
    }

-- one that read none has no value that says a number below `over`
pub number_lacks : (E : Type 0) (over : ℕ) (gives : List ℕ → Result ℕ E → Type 0) → ReadsBelow E over gives → (f : Found) (id : Text) (given : Option Text) → one_text f id ≡ given → (read : Option ℕ) → (given ≡ None → read ≡ None) → ((t : Text) → given ≡ Some t → ReadsOne gives t read) → IfNone read ((n : ℕ) → n < over → HasNumber (rows_of f) id n → ⊥)
number_lacks E over gives exact f id None is read none value = rw (none refl) (λ n small has. let never : ◌≡◌ {A = Option Text} None (Some has.text) = sym is ∙ one_text-rows f id ∙ has.given in absurd (cc))
number_lacks E over gives exact f id (Some t) is None none value = λ n small has.
    let got = value t refl in
    let same : has.text ≡ t = some_text has.text t (sym has.given ∙ sym (one_text-rows f id) ∙ is) in
    let below : digits_value 10 (without_leading_plus has.text) < over = subst (λ (m : ℕ). m < over) has.value small in
    exact t (Err got.0) got.1 (subst (λ (x : Text). IsNumeral 10 (without_leading_plus x)) same has.numeral, subst (λ (x : Text). digits_value 10 (without_leading_plus x) < over) same below)
number_lacks E over gives exact f id (Some t) is (Some n) none value = tt

lacks_any : (rows : List Row) (id : Text) (read : Option ℕ) → IfNone read ((n : ℕ) → n < 2 ^ 64 → HasNumber rows id n → ⊥) → IfNone read ((n : ℕ) → HasNumber rows id n → ⊥)
lacks_any rows id None lacks = λ n has. lacks n has.few has
lacks_any rows id (Some n) lacks = tt

-- one that reads numbers of 64 bits, and read none, has no value that says a number
pub any_lacks : (E : Type 0) (gives : List ℕ → Result ℕ E → Type 0) → ReadsBelow E (2 ^ 64) gives → (f : Found) (id : Text) (given : Option Text) → one_text f id ≡ given → (read : Option ℕ) → (given ≡ None → read ≡ None) → ((t : Text) → given ≡ Some t → ReadsOne gives t read) → IfNone read ((n : ℕ) → HasNumber (rows_of f) id n → ⊥)
any_lacks E gives exact f id given is read none value = lacks_any (rows_of f) id read (number_lacks E (2 ^ 64) gives exact f id given is read none value)

-- a getter that gave a text gave the option's value
pub text_read : (f : Found) (id : Text) (read : Option (Bor Text)) (text : Bor Text) (word : Text) → option_map (λ t. t.now) read ≡ first_value f id → read ≡ Some text → text.now ≡ word → first_of id (rows_of f) ≡ Some word
text_read f id read text word value is same = sym (first_value-rows f id) ∙ sym value ∙ ap (option_map (λ (t : Bor Text). t.now)) is ∙ ap Some same

-- a getter gave a text that is this word
pub word_read : (f : Found) (id text word : Text) (same : Bool) → Some text ≡ first_value f id → same ≡ bytes_eq text word → same ≡ true → first_of id (rows_of f) ≡ Some word
word_read f id text word same given test is = sym (first_value-rows f id) ∙ sym given ∙ ap Some ((bytes_eq-Decides text word).0 (sym test ∙ is))

-- a getter gave a text, or none, and a test tells whether it is this word
pub word_told : (f : Found) (id text word : Text) (same : Bool) → Some text ≡ first_value f id → same ≡ bytes_eq text word → IsTrue same ↔ (first_of id (rows_of f) ≡ Some word)
word_told f id text word same given test = (
  λ is. word_read f id text word same given test is,
  λ is.
      let one : Some text ≡ Some word = given ∙ first_value-rows f id ∙ is in
      test ∙ (bytes_eq-Decides text word).1 (ap (λ (o : Option Text). unwrap_or o text) one),
)

pub none_told : (f : Found) (id word : Text) → ◌≡◌ {A = Option Text} None (first_value f id) → IsTrue false ↔ (first_of id (rows_of f) ≡ Some word)
none_told f id word given = (λ never. absurd (true≢false (sym never)), λ is. absurd (true≢false (ap (λ (o : Option Text). is_some o) (sym is ∙ sym (first_value-rows f id) ∙ sym given))))

-- a getter gives no text exactly where the option is left out
pub left_out : (f : Found) (id : Text) (read : Option (Bor Text)) (none : Bool) → option_map (λ t. t.now) read ≡ first_value f id → is_some read ≡ not none → IsTrue none ↔ (first_of id (rows_of f) ≡ None)
left_out f id None true value is = (λ yes. sym (first_value-rows f id) ∙ sym value, λ out. refl)
left_out f id None false value is = absurd (true≢false (sym is))
left_out f id (Some text) true value is = absurd (true≢false is)
left_out f id (Some text) false value is = (
  λ yes. absurd (true≢false (sym yes)),
  λ out. absurd (true≢false (ap (λ (o : Option Text). is_some o) (value ∙ first_value-rows f id ∙ out))),
)

-- ---- why a subcommand asks for no run, by what the matches say of its name

-- the name of a subcommand is that beside its rows
name_beside : {Z : Type 0} → (met : Option (Box SubCommand Z)) → option_map (λ p. p.0) (subcommand_rows met) ≡ option_map (λ b. (out-SubCommand (box_value b)).name.now) met
name_beside None = refl
name_beside (Some b) = refl

pub names_agree : (m : ArgMatches) → option_map (λ p. p.0) (subcommand_rows_of m) ≡ subcommand_name_of m
names_agree m = name_beside (out-ArgMatches m).subcommand

-- where it is none of the program's subcommands
pub others_fail : (subcommand : Option (Text × List Row)) → (option_map (λ p. p.0) subcommand ≢ Some (codes "solve")) → (option_map (λ p. p.0) subcommand ≢ Some (codes "replay")) → (option_map (λ p. p.0) subcommand ≢ Some (codes "show")) → (option_map (λ p. p.0) subcommand ≢ Some (codes "boards")) → (option_map (λ p. p.0) subcommand ≢ Some (codes "check")) → (option_map (λ p. p.0) subcommand ≢ Some (codes "upgrade")) → RunFails subcommand NoMatch
others_fail None solve replay show boards check upgrade = refl
others_fail (Some p) solve replay show boards check upgrade =
    ((λ is. check (ap Some is)), (λ is. upgrade (ap Some is)), (λ is. absurd (show (ap Some is))), (λ is. absurd (boards (ap Some is))), (λ is. absurd (solve (ap Some is))), (λ is. absurd (replay (ap Some is))), (λ is. refl))

-- ---- what arguments ask for, or why they ask for nothing, by what a parse of them says

-- arguments ask for what a parse of them says
words_ask : {A : Type 0} → (f : A → Text) → (given : List A) → false ≡ (length given == 0) → (program : App) → IsProgram program → (request : Request) → AsksText (fault_of program (map f given)) request ⊎ ((fault_of program (map f given) ≡ []) × AsksRun (subcommand_of program (map f given)) request) → WordsAsk (map f given) request
words_ask f [] some program is request asks = absurd (true≢false (sym some))
words_ask f (word ∷ words) some program is request asks = (program, is, asks)

-- or fail as it says
words_fail : {A : Type 0} → (f : A → Text) → (given : List A) → false ≡ (length given == 0) → (program : App) → IsProgram program → (refusal : NoRequest) → TextFails (fault_of program (map f given)) refusal ⊎ ((fault_of program (map f given) ≡ []) × RunFails (subcommand_of program (map f given)) refusal) → WordsFail (map f given) refusal
words_fail f [] some program is refusal fails = absurd (true≢false (sym some))
words_fail f (word ∷ words) some program is refusal fails = (program, is, fails)

-- where there are no matches a text is asked for
pub text_asks : {A : Type 0} → (f : A → Text) → (given : List A) → false ≡ (length given == 0) → (error : Error) → (parse : (program : App) × IsProgram program × HasKind (fault_of program (map f given)) error) → (result : Result Request NoRequest) → ((faults : Kinds) → HasKind faults error → IfOk result (AsksText faults)) → IfOk result (WordsAsk (map f given))
text_asks f given some error parse result told =
    IfOk-weaker result _ _ (λ request asks. words_ask f given some parse.0 parse.1 request (inl asks)) (told (fault_of parse.0 (map f given)) parse.2)

pub text_fails : {A : Type 0} → (f : A → Text) → (given : List A) → false ≡ (length given == 0) → (error : Error) → (parse : (program : App) × IsProgram program × HasKind (fault_of program (map f given)) error) → (result : Result Request NoRequest) → ((faults : Kinds) → HasKind faults error → IfErr result (TextFails faults)) → IfErr result (WordsFail (map f given))
text_fails f given some error parse result told =
    IfErr-weaker result _ _ (λ refusal fails. words_fail f given some parse.0 parse.1 refusal (inl fails)) (told (fault_of parse.0 (map f given)) parse.2)

-- and where there are a run
pub run_asks : {A : Type 0} → (f : A → Text) → (given : List A) → false ≡ (length given == 0) → (subcommand : Option (Text × List Row)) → (parse : (program : App) × IsProgram program × (fault_of program (map f given) ≡ []) × (subcommand ≡ subcommand_of program (map f given))) → (result : Result Request NoRequest) → IfOk result (AsksRun subcommand) → IfOk result (WordsAsk (map f given))
run_asks f given some subcommand parse result asks =
    IfOk-weaker result _ _ (λ request run. words_ask f given some parse.0 parse.1 request (inr (parse.2, subst (λ (s : Option (Text × List Row)). AsksRun s request) parse.3 run))) asks

pub run_fails : {A : Type 0} → (f : A → Text) → (given : List A) → false ≡ (length given == 0) → (subcommand : Option (Text × List Row)) → (parse : (program : App) × IsProgram program × (fault_of program (map f given) ≡ []) × (subcommand ≡ subcommand_of program (map f given))) → (result : Result Request NoRequest) → IfErr result (RunFails subcommand) → IfErr result (WordsFail (map f given))
run_fails f given some subcommand parse result fails =
    IfErr-weaker result _ _ (λ refusal run. words_fail f given some parse.0 parse.1 refusal (inr (parse.2, subst (λ (s : Option (Text × List Row)). RunFails s refusal) parse.3 run))) fails

-- ---- What options say is one thing, and has no fault.

one_number : (rows : List Row) (id : Text) (n m : ℕ) → HasNumber rows id n → HasNumber rows id m → m ≡ n
one_number rows id n m first second =
    let same : first.text ≡ second.text = some_text first.text second.text (sym first.given ∙ second.given) in
    second.value ∙ ap (λ (t : Text). digits_value 10 (without_leading_plus t)) (sym same) ∙ sym first.value

pub one_shape : (rows : List Row) (grid grid' : ShapeModel) → HasShape rows grid → HasShape rows grid' → grid' ≡ grid
one_shape rows grid grid' first second =
    let tall : grid'.rows ≡ grid.rows = one_number rows (codes "rows") grid.rows grid'.rows first.tall second.tall in
    let wide : grid'.cols ≡ grid.cols = one_number rows (codes "cols") grid.cols grid'.cols first.wide second.wide in
    λ i. record { rows = tall i; cols = wide i }

-- ---- where an option lacks a value that it may have

pub if_none : {T : Type 0} → (r : Option T) (P : Type 0) → P → IfNone r P
if_none None P holds = holds
if_none (Some x) P holds = tt

pub no_rows : (rows : List Row) → ((n : ℕ) → n < 256 → HasNumber rows (codes "rows") n → ⊥) → (grid : ShapeModel) → HasShape rows grid → ⊥
no_rows rows lacks grid has = lacks grid.rows (omega (arith, has.small.rows_high)) has.tall

pub no_cols : (rows : List Row) → ((n : ℕ) → n < 256 → HasNumber rows (codes "cols") n → ⊥) → (grid : ShapeModel) → HasShape rows grid → ⊥
no_cols rows lacks grid has = lacks grid.cols (omega (arith, has.small.cols_high)) has.wide

pub no_shape : (rows : List Row) (tall wide : ℕ) → HasNumber rows (codes "rows") tall → HasNumber rows (codes "cols") wide → (IsShape (record { rows = tall; cols = wide }) → ⊥) → (grid : ShapeModel) → HasShape rows grid → ⊥
no_shape rows tall wide first second large grid has =
    let down : grid.rows ≡ tall = one_number rows (codes "rows") tall grid.rows first has.tall in
    let over : grid.cols ≡ wide = one_number rows (codes "cols") wide grid.cols second has.wide in
    large (subst IsShape (λ i. record { rows = down i; cols = over i }) has.small)

pub lack_shape : (rows : List Row) → ((grid : ShapeModel) → HasShape rows grid → ⊥) → LackValues rows
lack_shape rows lacks grid workers limit spread have = lacks grid have.shape

pub lack_workers : (rows : List Row) → ((n : ℕ) → HasWorkers rows n → ⊥) → LackValues rows
lack_workers rows lacks grid workers limit spread have = lacks workers have.count

pub lack_spread : (rows : List Row) → ((spread : SpreadKind) → first_of (codes "spread") rows ≡ Some (spread_text spread) → ⊥) → LackValues rows
lack_spread rows lacks grid workers limit spread have = lacks spread have.word

pub lack_limit : (rows : List Row) → ((n : ℕ) → HasNumber rows (codes "limit") n → ⊥) → LackValues rows
lack_limit rows lacks grid workers limit spread have = lacks limit have.most

pub no_workers : (rows : List Row) → ((n : ℕ) → n < 256 → HasNumber rows (codes "workers") n → ⊥) → (n : ℕ) → HasWorkers rows n → ⊥
no_workers rows lacks n has = lacks n (omega (arith, has.few)) has.count

pub none_or_many : (rows : List Row) (workers : ℕ) → HasNumber rows (codes "workers") workers → (1 ≤ workers → workers ≤ 16 → ⊥) → (n : ℕ) → HasWorkers rows n → ⊥
none_or_many rows workers count wrong n has =
    let same : n ≡ workers = one_number rows (codes "workers") workers n count has.count in
    wrong (omega (arith, has.some, same)) (omega (arith, has.few, same))

pub no_spread : (f : Found) → ◌≡◌ {A = Option Text} None (first_value f (codes "spread")) → (spread : SpreadKind) → first_of (codes "spread") (rows_of f) ≡ Some (spread_text spread) → ⊥
no_spread f given spread is =
    let never : ◌≡◌ {A = Option Text} None (Some (spread_text spread)) = given ∙ first_value-rows f (codes "spread") ∙ is in
    absurd (cc)

other_word : (f : Found) (text word : Text) → Some text ≡ first_value f (codes "spread") → false ≡ bytes_eq text word → first_of (codes "spread") (rows_of f) ≡ Some word → ⊥
other_word f text word given test is = true≢false (sym ((word_told f (codes "spread") text word false given test).1 is))

pub other_spread : (f : Found) (text : Text) → Some text ≡ first_value f (codes "spread") → false ≡ bytes_eq text (codes "zobrist") → false ≡ bytes_eq text (codes "blank") → false ≡ bytes_eq text (codes "abstract") → (spread : SpreadKind) → first_of (codes "spread") (rows_of f) ≡ Some (spread_text spread) → ⊥
other_spread f text given first second third Zobrist is = other_word f text (codes "zobrist") given first is
other_spread f text given first second third Blank is = other_word f text (codes "blank") given second is
other_spread f text given first second third Abstract is = other_word f text (codes "abstract") given third is

pub no_seconds : (rows : List Row) → IsTrue true ↔ (first_of (codes "svg") rows ≡ Some (codes "true")) → ((n : ℕ) → n < 256 → HasNumber rows (codes "seconds") n → ⊥) → (look : Style) → IsStyle rows look → ⊥
no_seconds rows svg lacks (style.Text width) is = is.2 (svg.0 refl)
no_seconds rows svg lacks (style.Svg seconds) is = lacks seconds is.1 is.0

pub no_width : (rows : List Row) → IsTrue false ↔ (first_of (codes "svg") rows ≡ Some (codes "true")) → ((n : ℕ) → n < 65536 → HasNumber rows (codes "width") n → ⊥) → (look : Style) → IsStyle rows look → ⊥
no_width rows text lacks (style.Text width) is = lacks width is.1 is.0
no_width rows text lacks (style.Svg seconds) is = true≢false (sym (text.1 is.2))

pub no_count : (rows : List Row) (read : Option ℕ) → IsTrue false ↔ IsLeftOut rows (codes "count") → IfNone read ((n : ℕ) → HasNumber rows (codes "count") n → ⊥) → IfNone read ((n : ℕ) → HasCount rows n → ⊥)
no_count rows None given lacks = λ n has. elim has [
  | inl out ↦ true≢false (sym (given.1 out.0))
  | inr number ↦ lacks n number
]
no_count rows (Some n) given lacks = tt

pub no_draws : (rows : List Row) → ((first_of (codes "all") rows ≡ Some (codes "true")) → ⊥) → ((n : ℕ) → HasCount rows n → ⊥) → (choice : Choice) → IsChoice rows choice → ⊥
no_draws rows some lacks (Drawn count seed) is = lacks count is.2
no_draws rows some lacks (Walked moves count seed) is = lacks count is.2
no_draws rows some lacks Whole is = some is.0

pub no_seed : (rows : List Row) → ((first_of (codes "all") rows ≡ Some (codes "true")) → ⊥) → ((n : ℕ) → HasNumber rows (codes "seed") n → ⊥) → (choice : Choice) → IsChoice rows choice → ⊥
no_seed rows some lacks (Drawn count seed) is = lacks seed is.3
no_seed rows some lacks (Walked moves count seed) is = lacks seed is.3
no_seed rows some lacks Whole is = some is.0

pub no_moves : (rows : List Row) → ((first_of (codes "all") rows ≡ Some (codes "true")) → ⊥) → IsTrue false ↔ IsLeftOut rows (codes "moves") → ((n : ℕ) → HasNumber rows (codes "moves") n → ⊥) → (choice : Choice) → IsChoice rows choice → ⊥
no_moves rows some given lacks (Drawn count seed) is = true≢false (sym (given.1 is.1))
no_moves rows some given lacks (Walked moves count seed) is = lacks moves is.1
no_moves rows some given lacks Whole is = some is.0

pub one_goal_said : (grid : ShapeModel) (text : Option Text) (goal goal' : BoardModel) → IsGoalSaid grid text goal → IsGoalSaid grid text goal' → goal' ≡ goal
one_goal_said grid None goal goal' first second = second ∙ sym first
one_goal_said grid (Some text) goal goal' first second = one_goal grid text goal goal' first second

pub goal_no_fault : (grid : ShapeModel) (text : Option Text) (goal : BoardModel) (fault : TilesFault) → IsGoalSaid grid text goal → IsGoalFault grid text fault → ⊥
goal_no_fault grid None goal fault said never = never
goal_no_fault grid (Some text) goal fault said first = no_goal_fault grid text goal fault said first

pub one_rule_said : (grid : ShapeModel) (text : Option Text) (rule rule' : WeightsModel) → AreCostsSaid grid text rule → AreCostsSaid grid text rule' → rule' ≡ rule
one_rule_said grid None rule rule' first second = second ∙ sym first
one_rule_said grid (Some text) rule rule' first second = one_rule grid text rule rule' first second

pub costs_no_fault : (grid : ShapeModel) (text : Option Text) (rule : WeightsModel) (fault : WeightsFault) → AreCostsSaid grid text rule → IsCostsFault grid text fault → ⊥
costs_no_fault grid None rule fault said never = never
costs_no_fault grid (Some text) rule fault said first = no_costs_fault grid text rule fault said first

groups_no_fault : (grid : ShapeModel) (text : Option Text) (split : PartitionModel) (fault : GroupsFault) → IsPartition split → AreGroupsSaid grid text split → IsGroupsFault grid text fault → IsMemoryRefusal fault
groups_no_fault grid None split fault sound said refused = refused
groups_no_fault grid (Some text) split fault sound said first =
    let is : AreGroupsOf split.grid (group_texts text) split.groups = subst (λ (g : ShapeModel). AreGroupsOf g (group_texts text) split.groups) (sym said.0) said.1 in
    no_groups_fault split (group_texts text) fault sound is (subst (λ (g : ShapeModel). IsFirstGroupsFault g (group_texts text) fault) (sym said.0) first)

pub options_no_fault : (rows : List Row) (o : Options) (refusal : NoRequest) → IsPartition o.groups → AreOptions rows o → OptionsFail rows refusal → IsWant refusal
options_no_fault rows o (Usage text) sound said never = never
options_no_fault rows o (Goal fault) sound said (grid, shape, first) =
    let same = one_shape rows grid o.goal.grid shape said.shape in
    goal_no_fault o.goal.grid (first_of (codes "goal") rows) o.goal fault said.goal (subst (λ (g : ShapeModel). IsGoalFault g (first_of (codes "goal") rows) fault) (sym same) first)
options_no_fault rows o (Costs fault) sound said (grid, shape, goal, goal_said, first) =
    let same = one_shape rows grid o.goal.grid shape said.shape in
    costs_no_fault o.goal.grid (first_of (codes "cost") rows) o.costs fault said.costs (subst (λ (g : ShapeModel). IsCostsFault g (first_of (codes "cost") rows) fault) (sym same) first)
options_no_fault rows o (Groups fault) sound said (grid, shape, goal, goal_said, rule, costs_said, first) =
    let same = one_shape rows grid o.goal.grid shape said.shape in
    groups_no_fault o.goal.grid (first_of (codes "groups") rows) o.groups fault sound said.groups (subst (λ (g : ShapeModel). IsGroupsFault g (first_of (codes "groups") rows) fault) (sym same) first)
options_no_fault rows o (NoListing fault) sound said never = never
options_no_fault rows o (Memory error) sound said never = never
options_no_fault rows o NoMatch sound said lack = lack o.goal.grid o.workers o.limit o.spread (record { shape = said.shape; count = said.workers; word = said.spread; most = said.limit })

-- ---- Boards that are said have no fault.

alone : (rows : List Row) (choice : Choice) → IsChoice rows choice → IsListFault rows NotAlone → ⊥
alone rows (Drawn count seed) said (all, others) = said.0 all
alone rows (Walked moves count seed) said (all, others) = said.0 all
alone rows Whole said (all, inl count) = count said.1
alone rows Whole said (all, inr moves) = moves said.2

few_cells : (rows : List Row) (l : Listing) (choice : Choice) → choice ≡ l.choice → SaysListing rows l → IsListFault rows TooManyCells → ⊥
few_cells rows l (Drawn count seed) is said (whole, grid, shape, many) = (subst (IsChoice rows) (sym is) said.choice).0 whole.0
few_cells rows l (Walked moves count seed) is said (whole, grid, shape, many) = (subst (IsChoice rows) (sym is) said.choice).0 whole.0
few_cells rows l Whole is said (whole, grid, shape, many) =
    let same = one_shape rows grid l.goal.grid shape said.shape in
    many (subst (λ (g : ShapeModel). MayBeListed g Whole) same (subst (MayBeListed l.goal.grid) (sym is) said.small))

pub listing_no_fault : (rows : List Row) (l : Listing) (refusal : NoRequest) → SaysListing rows l → ListingFails rows refusal → IsWant refusal
listing_no_fault rows l (Usage text) said never = never
listing_no_fault rows l (Goal fault) said (grid, choice, shape, chosen, small, first) =
    let same = one_shape rows grid l.goal.grid shape said.shape in
    goal_no_fault l.goal.grid (first_of (codes "goal") rows) l.goal fault said.goal (subst (λ (g : ShapeModel). IsGoalFault g (first_of (codes "goal") rows) fault) (sym same) first)
listing_no_fault rows l (Costs fault) said never = never
listing_no_fault rows l (Groups fault) said never = absurd never
listing_no_fault rows l (NoListing NotAlone) said fails = alone rows l.choice said.choice fails
listing_no_fault rows l (NoListing TooManyCells) said fails = few_cells rows l l.choice refl said fails
listing_no_fault rows l (Memory error) said never = never
listing_no_fault rows l NoMatch said lack = lack l.goal.grid l.choice said.shape said.choice

-- ---- one after the other

goal_first : (rows : List Row) (grid grid' : ShapeModel) (goal : BoardModel) (fault : TilesFault) → HasShape rows grid → HasShape rows grid' → IsGoalFault grid (first_of (codes "goal") rows) fault → IsGoalSaid grid' (first_of (codes "goal") rows) goal → ⊥
goal_first rows grid grid' goal fault shape shape' first said =
    goal_no_fault grid (first_of (codes "goal") rows) goal fault (subst (λ (g : ShapeModel). IsGoalSaid g (first_of (codes "goal") rows) goal) (one_shape rows grid grid' shape shape') said) first

pub goal_before_costs : (rows : List Row) (fault : TilesFault) (later : WeightsFault) → OptionsFail rows (Goal fault) → OptionsFail rows (Costs later) → ⊥
goal_before_costs rows fault later (grid, shape, first) (grid', shape', goal, said, fails) = goal_first rows grid grid' goal fault shape shape' first said

pub goal_before_groups : (rows : List Row) (fault : TilesFault) (later : GroupsFault) → OptionsFail rows (Goal fault) → OptionsFail rows (Groups later) → ⊥
goal_before_groups rows fault later (grid, shape, first) (grid', shape', goal, said, rule, costs, fails) = goal_first rows grid grid' goal fault shape shape' first said

pub costs_before_groups : (rows : List Row) (fault : WeightsFault) (later : GroupsFault) → OptionsFail rows (Costs fault) → OptionsFail rows (Groups later) → ⊥
costs_before_groups rows fault later (grid, shape, goal, said, first) (grid', shape', goal', said', rule, costs, fails) =
    costs_no_fault grid (first_of (codes "cost") rows) rule fault (subst (λ (g : ShapeModel). AreCostsSaid g (first_of (codes "cost") rows) rule) (one_shape rows grid grid' shape shape') costs) first

-- ---- what options say of a search, a list of boards and a drawing

pub search_said : SearchesAreSaid
search_said rows o are = (are.limit, are.workers.count, are.workers.some, are.workers.few, are.spread)

abbrev some_letter : Option Text → ℕ
some_letter None = 0
some_letter (Some text) = get_or text 0 0

one_spread : (spread spread' : SpreadKind) → ◌≡◌ {A = Option Text} (Some (spread_text spread)) (Some (spread_text spread')) → spread' ≡ spread
one_spread Zobrist Zobrist same = refl
one_spread Zobrist Blank same = let z = ap some_letter same in absurd (omega arith)
one_spread Blank Zobrist same = let z = ap some_letter same in absurd (omega arith)
one_spread Blank Blank same = refl
one_spread Abstract Abstract same = refl
one_spread Abstract Zobrist same = let z = ap some_letter same in absurd (omega arith)
one_spread Abstract Blank same = let z = ap some_letter same in absurd (omega arith)
one_spread Zobrist Abstract same = let z = ap some_letter same in absurd (omega arith)
one_spread Blank Abstract same = let z = ap some_letter same in absurd (omega arith)

pub one_search : OptionsAreDetermined
one_search rows o o' are are' =
    let sides : o'.goal.grid ≡ o.goal.grid = one_shape rows o.goal.grid o'.goal.grid are.shape are'.shape in
    let goal = subst (λ (g : ShapeModel). IsGoalSaid g (first_of (codes "goal") rows) o'.goal) sides are'.goal in
    let costs = subst (λ (g : ShapeModel). AreCostsSaid g (first_of (codes "cost") rows) o'.costs) sides are'.costs in (
      one_goal_said o.goal.grid (first_of (codes "goal") rows) o.goal o'.goal are.goal goal,
      one_rule_said o.goal.grid (first_of (codes "cost") rows) o.costs o'.costs are.costs costs,
      one_number rows (codes "limit") o.limit o'.limit are.limit are'.limit,
      one_number rows (codes "workers") o.workers o'.workers are.workers.count are'.workers.count,
      one_spread o.spread o'.spread (sym are.spread ∙ are'.spread),
    )

-- an option that is left out says no number
no_text : (r : Row) (text : Text) → slice_get r.values 0 ≡ None → option_map (value_read r.reading) (slice_get r.values 0) ≡ Some text → ⊥
no_text r text out given =
    let none : ◌≡◌ {A = Option Text} None (Some text) = sym (ap (option_map (value_read r.reading)) out) ∙ given in
    absurd (cc)

out_or_number : (found : Option Row) (text : Text) → option_and_then (λ r. slice_get r.values 0) found ≡ None → option_and_then (λ r. option_map (value_read r.reading) (slice_get r.values 0)) found ≡ Some text → ⊥
out_or_number None text out given = absurd (cc)
out_or_number (Some r) text out given = no_text r text out given

out_no_number : (rows : List Row) (id : Text) (n : ℕ) → IsLeftOut rows id → HasNumber rows id n → ⊥
out_no_number rows id n out has = out_or_number (find (λ r. bytes_eq r.id id) rows) has.text out has.given

one_count : (rows : List Row) (n m : ℕ) → HasCount rows n → HasCount rows m → m ≡ n
one_count rows n m (inl first) (inl second) = second.1 ∙ sym first.1
one_count rows n m (inl first) (inr second) = absurd (out_no_number rows (codes "count") m first.0 second)
one_count rows n m (inr first) (inl second) = absurd (out_no_number rows (codes "count") n second.0 first)
one_count rows n m (inr first) (inr second) = one_number rows (codes "count") n m first second

one_choice : (rows : List Row) (choice choice' : Choice) → IsChoice rows choice → IsChoice rows choice' → choice' ≡ choice
one_choice rows (Drawn count seed) (Drawn count' seed') first second =
    let counts : count' ≡ count = one_count rows count count' first.2 second.2 in
    let seeds : seed' ≡ seed = one_number rows (codes "seed") seed seed' first.3 second.3 in
    λ i. Drawn (counts i) (seeds i)
one_choice rows (Drawn count seed) (Walked moves' count' seed') first second = absurd (out_no_number rows (codes "moves") moves' first.1 second.1)
one_choice rows (Drawn count seed) Whole first second = absurd (first.0 second.0)
one_choice rows (Walked moves count seed) (Drawn count' seed') first second = absurd (out_no_number rows (codes "moves") moves second.1 first.1)
one_choice rows (Walked moves count seed) (Walked moves' count' seed') first second =
    let steps : moves' ≡ moves = one_number rows (codes "moves") moves moves' first.1 second.1 in
    let counts : count' ≡ count = one_count rows count count' first.2 second.2 in
    let seeds : seed' ≡ seed = one_number rows (codes "seed") seed seed' first.3 second.3 in
    λ i. Walked (steps i) (counts i) (seeds i)
one_choice rows (Walked moves count seed) Whole first second = absurd (first.0 second.0)
one_choice rows Whole (Drawn count' seed') first second = absurd (second.0 first.0)
one_choice rows Whole (Walked moves' count' seed') first second = absurd (second.0 first.0)
one_choice rows Whole Whole first second = refl

pub one_listing : ListingsAreDetermined
one_listing rows l l' says says' =
    let sides : l'.goal.grid ≡ l.goal.grid = one_shape rows l.goal.grid l'.goal.grid says.shape says'.shape in
    let said = subst (λ (g : ShapeModel). IsGoalSaid g (first_of (codes "goal") rows) l'.goal) sides says'.goal in
    let goals : l'.goal ≡ l.goal = one_goal_said l.goal.grid (first_of (codes "goal") rows) l.goal l'.goal says.goal said in
    let choices : l'.choice ≡ l.choice = one_choice rows l.choice l'.choice says.choice says'.choice in
    λ i. record { goal = goals i; choice = choices i }

pub one_style : StylesAreDetermined
one_style rows (style.Text width) (style.Text width') first second = ap (λ (n : ℕ). style.Text n) (one_number rows (codes "width") width width' first.0 second.0)
one_style rows (style.Text width) (style.Svg seconds) first second = absurd (first.2 second.2)
one_style rows (style.Svg seconds) (style.Text width) first second = absurd (second.2 first.2)
one_style rows (style.Svg seconds) (style.Svg seconds') first second = ap (λ (n : ℕ). style.Svg n) (one_number rows (codes "seconds") seconds seconds' first.0 second.0)

-- ---- what asks for a certificate, and for texts

pub cert_said : CertIsSaid
cert_said name rows o = ((λ asks. asks.2), (λ asks. asks.2))

pub text_of_fault : TextsAreOfFaults
text_of_fault faults (Solve o) asks = absurd asks
text_of_fault faults (Certify o) asks = absurd asks
text_of_fault faults Check asks = absurd asks
text_of_fault faults (Draw look) asks = absurd asks
text_of_fault faults Upgrade asks = absurd asks
text_of_fault faults (Replay o) asks = absurd asks
text_of_fault faults (Boards l) asks = absurd asks
text_of_fault faults (Help text) asks = (text, inl (refl, asks))
text_of_fault faults (Version text) asks = (text, inr (refl, asks))

pub usage_of_fault : UsageIsOfFaults
usage_of_fault faults (Usage text) fails = inr (text, refl, fails)
usage_of_fault faults (Goal fault) fails = absurd fails
usage_of_fault faults (Costs fault) fails = absurd fails
usage_of_fault faults (Groups fault) fails = absurd fails
usage_of_fault faults (NoListing fault) fails = absurd fails
usage_of_fault faults (Memory error) fails = inl (error, refl, fails)
usage_of_fault faults NoMatch fails = absurd fails

-- ---- which subcommand asks for a run, and why it asks for none

pub one_command : RequestsAreOfTheirCommands
one_command name rows (Solve o) asks = ap Some (sym asks.0)
one_command name rows (Certify o) asks = ap Some (sym asks.0)
one_command name rows Check asks = ap Some (sym asks)
one_command name rows (Draw look) asks = ap Some (sym asks.0)
one_command name rows Upgrade asks = ap Some (sym asks)
one_command name rows (Replay o) asks = ap Some (sym asks.0)
one_command name rows (Boards l) asks = ap Some (sym asks.0)
one_command name rows (Help text) asks = absurd asks
one_command name rows (Version text) asks = absurd asks

pub run_said : RunsAreSaid
run_said name rows o look l = ((λ asks. asks.1), (λ asks. asks.1), (λ asks. asks.1), (λ asks. asks.1), (λ asks. asks.1))

pub always_asked : RunsWithoutBoardsAreAsked
always_asked rows refusal = ((λ fails. fails.0 refl), (λ fails. fails.1 refl), (λ fails. fails.2 refl))

pub refusal_of_options : RefusalsAreOfOptions
refusal_of_options name rows refusal fails = (fails.3, fails.4, fails.5)

pub run_no_fault : RunsHaveNoFault
run_no_fault None request refusal sound asks fails = absurd asks
run_no_fault (Some p) (Solve o) refusal sound asks fails = options_no_fault p.1 o refusal sound asks.1 (fails.4 asks.0)
run_no_fault (Some p) (Certify o) refusal sound asks fails = options_no_fault p.1 o refusal sound asks.1 (fails.4 asks.0)
run_no_fault (Some p) Check refusal sound asks fails = absurd (fails.0 asks)
run_no_fault (Some p) (Draw look) refusal sound asks fails = absurd ((fails.2 asks.0).1 look asks.1)
run_no_fault (Some p) Upgrade refusal sound asks fails = absurd (fails.1 asks)
run_no_fault (Some p) (Replay o) refusal sound asks fails = options_no_fault p.1 o refusal sound asks.1 (fails.5 asks.0)
run_no_fault (Some p) (Boards l) refusal sound asks fails = listing_no_fault p.1 l refusal asks.1 (fails.3 asks.0)
run_no_fault (Some p) (Help text) refusal sound asks fails = absurd asks
run_no_fault (Some p) (Version text) refusal sound asks fails = absurd asks

pub others_no_match : OthersAreNoMatch
others_no_match name rows refusal = (λ none. none, λ solve replay show boards fails. fails.6 (solve, replay, show, boards))

-- ---- what texts say as numbers

said_text : (rows : List Row) (id text : Text) (n : ℕ) → (has : HasNumber rows id n) → one_of id rows ≡ Some text → has.text ≡ text
said_text rows id text n has is = some_text has.text text (sym has.given ∙ is)

no_letters : IsNumeral 10 (codes "1x") → ⊥
no_letters (some, (one, (letter, rest))) = omega (arith, letter)

no_digits : IsNumeral 10 [] → ⊥
no_digits (some, rest) = omega (arith, some)

pub numbers_decimal : NumbersAreDecimal
numbers_decimal rows id n has = (
  λ is. no_letters (subst (λ (t : Text). IsNumeral 10 (without_leading_plus t)) (said_text rows id (codes "1x") n has is) has.numeral),
  λ is. no_digits (subst (λ (t : Text). IsNumeral 10 (without_leading_plus t)) (said_text rows id [] n has is) has.numeral),
  λ is. has.value ∙ ap (λ (t : Text). digits_value 10 (without_leading_plus t)) (said_text rows id (codes "+07") n has is),
)

pub listing_before_goal : ListingsAreJudgedBeforeGoals
listing_before_goal rows NotAlone later fails (grid, choice, shape, chosen, small, first) = alone rows choice chosen fails
listing_before_goal rows TooManyCells later (whole, grid', shape', many) (grid, choice, shape, chosen, small, first) =
    let same : grid ≡ grid' = one_shape rows grid' grid shape' shape in
    let is : Whole ≡ choice = one_choice rows choice Whole chosen whole in
    many (subst (λ (g : ShapeModel). MayBeListed g Whole) same (subst (MayBeListed grid) (sym is) small))

pub three_choices : ChoicesAreThree
three_choices spreads are = are

-- ---- what words that are written out ask for

-- the three values of `--spread`, wherever they are
abbrev three_at : ℕ × ℕ → ℕ × ℕ → ℕ × ℕ → ℕ × ℕ → Choices
three_at p x y z = record {
  ref_ptr = p;
  now = (record { ref_ptr = x; now = codes "zobrist" }) ∷ (record { ref_ptr = y; now = codes "blank" }) ∷ (record { ref_ptr = z; now = codes "abstract" }) ∷ [];
}

abbrev word_at : ℕ → List Text → Text
word_at n words = get_or words n []

on_list : (P : Choices → Type 0) → ((p x y z : ℕ × ℕ) → P (three_at p x y z)) → (p : ℕ × ℕ) (list : List (Bor Text)) → map (λ t. t.now) list ≡ codes "zobrist" ∷ codes "blank" ∷ codes "abstract" ∷ [] → P (record { ref_ptr = p; now = list })
on_list P at p [] are = let z = ap (λ (l : List Text). length l) are in absurd (omega arith)
on_list P at p (a ∷ []) are = let z = ap (λ (l : List Text). length l) are in absurd (omega arith)
on_list P at p (a ∷ b ∷ []) are = let z = ap (λ (l : List Text). length l) are in absurd (omega arith)
on_list P at p (a ∷ b ∷ c ∷ d ∷ rest) are = let z = ap (λ (l : List Text). length l) are in absurd (omega arith)
on_list P at p (a ∷ b ∷ c ∷ []) are =
    let first : a.now ≡ codes "zobrist" = ap (word_at 0) are in
    let second : b.now ≡ codes "blank" = ap (word_at 1) are in
    let third : c.now ≡ codes "abstract" = ap (word_at 2) are in
    let same : three_at p a.ref_ptr b.ref_ptr c.ref_ptr ≡ record { ref_ptr = p; now = a ∷ b ∷ c ∷ [] } = λ i. record {
      ref_ptr = p;
      now = (record { ref_ptr = a.ref_ptr; now = sym first i }) ∷ (record { ref_ptr = b.ref_ptr; now = sym second i }) ∷ (record { ref_ptr = c.ref_ptr; now = sym third i }) ∷ [];
    } in
    subst P same (at p a.ref_ptr b.ref_ptr c.ref_ptr)

on_choices : (P : Choices → Type 0) → ((p x y z : ℕ × ℕ) → P (three_at p x y z)) → (spreads : Choices) → AreChoices spreads → P spreads
on_choices P at spreads are = on_list P at spreads.ref_ptr spreads.now are

-- where there is no fault no text is asked for
no_text_asked : (request : Request) → AsksText [] request → ⊥
no_text_asked (Solve o) asks = asks
no_text_asked (Certify o) asks = asks
no_text_asked Check asks = asks
no_text_asked (Draw look) asks = asks
no_text_asked Upgrade asks = asks
no_text_asked (Replay o) asks = asks
no_text_asked (Boards l) asks = asks
no_text_asked (Help text) asks = asks
no_text_asked (Version text) asks = asks

-- but a run is
only_run : (faults : Kinds) (subcommand : Option (Text × List Row)) (request : Request) → faults ≡ [] → AsksText faults request ⊎ ((faults ≡ []) × AsksRun subcommand request) → AsksRun subcommand request
only_run faults subcommand request none (inr run) = run.1
only_run faults subcommand request none (inl text) =
    let asks : AsksText [] request = subst (λ (f : Kinds). AsksText f request) none text in
    absurd (no_text_asked request asks)

words_run : (word : Text) (words : List Text) (request : Request) → ((spreads : Choices) → AreChoices spreads → fault_of (program_app spreads) (word ∷ words) ≡ []) → WordsAsk (word ∷ words) request → (spreads : Choices) × AsksRun (subcommand_of (program_app spreads) (word ∷ words)) request
words_run word words request fine (program, (spreads, choices, is), asks) =
    let run = only_run (fault_of program (word ∷ words)) (subcommand_of program (word ∷ words)) request (ap (λ (p : App). fault_of p (word ∷ words)) is ∙ fine spreads choices) asks in
    (spreads, subst (λ (p : App). AsksRun (subcommand_of p (word ∷ words)) request) is run)

abbrev next_letter : Option Text → ℕ
next_letter None = 0
next_letter (Some text) = get_or text 1 0

of_check : (request : Request) → command_of request ≡ Some (codes "check") → request ≡ Check
of_check (Solve o) is = let z = ap some_letter is in absurd (omega arith)
of_check (Certify o) is = let z = ap some_letter is in absurd (omega arith)
of_check Check is = refl
of_check (Draw look) is = let z = ap some_letter is in absurd (omega arith)
of_check Upgrade is = let z = ap some_letter is in absurd (omega arith)
of_check (Replay o) is = let z = ap some_letter is in absurd (omega arith)
of_check (Boards l) is = let z = ap some_letter is in absurd (omega arith)
of_check (Help text) is = let z = ap some_letter is in absurd (omega arith)
of_check (Version text) is = let z = ap some_letter is in absurd (omega arith)

of_upgrade : (request : Request) → command_of request ≡ Some (codes "upgrade") → request ≡ Upgrade
of_upgrade (Solve o) is = let z = ap some_letter is in absurd (omega arith)
of_upgrade (Certify o) is = let z = ap some_letter is in absurd (omega arith)
of_upgrade Check is = let z = ap some_letter is in absurd (omega arith)
of_upgrade (Draw look) is = let z = ap some_letter is in absurd (omega arith)
of_upgrade Upgrade is = refl
of_upgrade (Replay o) is = let z = ap some_letter is in absurd (omega arith)
of_upgrade (Boards l) is = let z = ap some_letter is in absurd (omega arith)
of_upgrade (Help text) is = let z = ap some_letter is in absurd (omega arith)
of_upgrade (Version text) is = let z = ap some_letter is in absurd (omega arith)

of_replay : (request : Request) → command_of request ≡ Some (codes "replay") → (o : Options) × (request ≡ Replay o)
of_replay (Solve o) is = let z = ap some_letter is in absurd (omega arith)
of_replay (Certify o) is = let z = ap some_letter is in absurd (omega arith)
of_replay Check is = let z = ap some_letter is in absurd (omega arith)
of_replay (Draw look) is = let z = ap some_letter is in absurd (omega arith)
of_replay Upgrade is = let z = ap some_letter is in absurd (omega arith)
of_replay (Replay o) is = (o, refl)
of_replay (Boards l) is = let z = ap some_letter is in absurd (omega arith)
of_replay (Help text) is = let z = ap some_letter is in absurd (omega arith)
of_replay (Version text) is = let z = ap some_letter is in absurd (omega arith)

-- a drawing is of the one style that the options say
of_show : (rows : List Row) (look : Style) (request : Request) → IsStyle rows look → command_of request ≡ Some (codes "show") → AsksRun (Some (codes "show", rows)) request → request ≡ Draw look
of_show rows look (Solve o) is name asks = let z = ap next_letter name in absurd (omega arith)
of_show rows look (Certify o) is name asks = let z = ap next_letter name in absurd (omega arith)
of_show rows look Check is name asks = let z = ap some_letter name in absurd (omega arith)
of_show rows look (Draw look') is name asks = ap Draw (one_style rows look look' is asks.1)
of_show rows look Upgrade is name asks = let z = ap some_letter name in absurd (omega arith)
of_show rows look (Replay o) is name asks = let z = ap some_letter name in absurd (omega arith)
of_show rows look (Boards l) is name asks = let z = ap some_letter name in absurd (omega arith)
of_show rows look (Help text) is name asks = absurd asks
of_show rows look (Version text) is name asks = absurd asks

check_asked : (request : Request) → WordsAsk (codes "check" ∷ []) request → request ≡ Check
unfolding clap_on_literals
check_asked request asks =
    let run = words_run (codes "check") [] request (λ spreads choices. refl) asks in
    of_check request (one_command (codes "check") _ request run.1)

upgrade_asked : (request : Request) → WordsAsk (codes "upgrade" ∷ []) request → request ≡ Upgrade
unfolding clap_on_literals
upgrade_asked request asks =
    let run = words_run (codes "upgrade") [] request (λ spreads choices. refl) asks in
    of_upgrade request (one_command (codes "upgrade") _ request run.1)

show_asked : (request : Request) → WordsAsk (codes "show" ∷ codes "--svg" ∷ codes "--seconds" ∷ codes "2" ∷ []) request → request ≡ Draw (style.Svg 2)
unfolding clap_on_literals
show_asked request asks =
    let run = words_run (codes "show") (codes "--svg" ∷ codes "--seconds" ∷ codes "2" ∷ []) request (λ spreads choices. refl) asks in
    of_show _ (style.Svg 2) request (record { text = codes "2"; given = refl; numeral = (omega arith, (omega arith, tt)); value = refl; few = omega arith }, omega arith, refl) (one_command (codes "show") _ request run.1) run.1

replay_asked : (request : Request) → WordsAsk (codes "replay" ∷ codes "--rows" ∷ codes "3" ∷ codes "--cols" ∷ codes "4" ∷ []) request → (o : Options) × (request ≡ Replay o)
unfolding clap_on_literals
replay_asked request asks =
    let words : List Text = codes "--rows" ∷ codes "3" ∷ codes "--cols" ∷ codes "4" ∷ [] in
    let run = words_run (codes "replay") words request (on_choices (λ spreads. fault_of (program_app spreads) (codes "replay" ∷ words) ≡ []) (λ p x y z. refl)) asks in
    of_replay request (one_command (codes "replay") _ request run.1)

-- rows of these values say such a search
abbrev twelve : ShapeModel
twelve = record { rows = 3; cols = 4 }

plain_search : (rows : List Row) (o : Options) → AreOptions rows o → HasShape rows twelve → (first_of (codes "goal") rows ≡ None) → (first_of (codes "cost") rows ≡ Some (codes "unit")) → HasNumber rows (codes "workers") 1 → (first_of (codes "spread") rows ≡ Some (codes "abstract")) → HasNumber rows (codes "limit") 18446744073709551615 → IsPlainSearch o
plain_search rows o are shape no_goal unit workers spread limit =
    let sides : o.goal.grid ≡ twelve = one_shape rows twelve o.goal.grid shape are.shape in
    let goal : IsGoalSaid twelve None o.goal = subst (λ (t : Option Text). IsGoalSaid twelve t o.goal) no_goal (subst (λ (g : ShapeModel). IsGoalSaid g (first_of (codes "goal") rows) o.goal) sides are.goal) in
    let costs : AreCostsSaid twelve (Some (codes "unit")) o.costs = subst (λ (t : Option Text). AreCostsSaid twelve t o.costs) unit (subst (λ (g : ShapeModel). AreCostsSaid g (first_of (codes "cost") rows) o.costs) sides are.costs) in
    record {
      goal = goal;
      costs = one_rule twelve (codes "unit") (unit_rule twelve) o.costs (inl (refl, refl)) costs;
      workers = one_number rows (codes "workers") 1 o.workers workers are.workers.count;
      spread = one_spread Abstract o.spread (sym spread ∙ are.spread);
      limit = one_number rows (codes "limit") 18446744073709551615 o.limit limit are.limit;
    }

of_solve : (rows : List Row) (request : Request) → (first_of (codes "cert") rows ≡ Some (codes "true") → ⊥) → command_of request ≡ Some (codes "solve") → AsksRun (Some (codes "solve", rows)) request → (o : Options) × (request ≡ Solve o) × AreOptions rows o
of_solve rows (Solve o) out name asks = (o, refl, asks.1)
of_solve rows (Certify o) out name asks = absurd (out asks.2)
of_solve rows Check out name asks = let z = ap some_letter name in absurd (omega arith)
of_solve rows (Draw look) out name asks = let z = ap next_letter name in absurd (omega arith)
of_solve rows Upgrade out name asks = let z = ap some_letter name in absurd (omega arith)
of_solve rows (Replay o) out name asks = let z = ap some_letter name in absurd (omega arith)
of_solve rows (Boards l) out name asks = let z = ap some_letter name in absurd (omega arith)
of_solve rows (Help text) out name asks = absurd asks
of_solve rows (Version text) out name asks = absurd asks

not_true : ◌≡◌ {A = Option Text} (Some (codes "false")) (Some (codes "true")) → ⊥
not_true same = let z = ap some_letter same in absurd (omega arith)

solve_asked : (request : Request) → WordsAsk (codes "solve" ∷ codes "--rows" ∷ codes "3" ∷ codes "--cols" ∷ codes "4" ∷ codes "--spread" ∷ codes "abstract" ∷ []) request → (o : Options) × (request ≡ Solve o) × IsPlainSearch o
unfolding clap_on_literals
solve_asked request asks =
    let words : List Text = codes "--rows" ∷ codes "3" ∷ codes "--cols" ∷ codes "4" ∷ codes "--spread" ∷ codes "abstract" ∷ [] in
    let run = words_run (codes "solve") words request (on_choices (λ spreads. fault_of (program_app spreads) (codes "solve" ∷ words) ≡ []) (λ p x y z. refl)) asks in
    let is = of_solve _ request not_true (one_command (codes "solve") _ request run.1) run.1 in
    (is.0, is.1, plain_search _ is.0 is.2 (record { tall = record { text = codes "3"; given = refl; numeral = (omega arith, (omega arith, tt)); value = refl; few = omega arith }; wide = record { text = codes "4"; given = refl; numeral = (omega arith, (omega arith, tt)); value = refl; few = omega arith }; small = record { rows_low = omega arith; rows_high = omega arith; cols_low = omega arith; cols_high = omega arith } }) refl refl (record { text = codes "1"; given = refl; numeral = (omega arith, (omega arith, tt)); value = refl; few = omega arith }) refl (record { text = codes "18446744073709551615"; given = refl; numeral = (omega arith, (omega arith, (omega arith, (omega arith, (omega arith, (omega arith, (omega arith, (omega arith, (omega arith, (omega arith, (omega arith, (omega arith, (omega arith, (omega arith, (omega arith, (omega arith, (omega arith, (omega arith, (omega arith, (omega arith, (omega arith, tt))))))))))))))))))))); value = refl; few = omega arith }))

pub words_ask_one_thing : WordsAskOneThing
words_ask_one_thing = record { check = check_asked; upgrade = upgrade_asked; drawing = show_asked; replay = replay_asked; solve = solve_asked }

-- where there is no fault only memory is refused
abbrev LacksMemory : NoRequest → Type 0
LacksMemory refusal = (error : Error) × (refusal ≡ Memory error) × (kind_of error ≡ OutOfMemory)

only_memory : (refusal : NoRequest) → TextFails [] refusal → LacksMemory refusal
only_memory (Usage text) (kind, among, help, version) = absurd among
only_memory (Goal fault) fails = absurd fails
only_memory (Costs fault) fails = absurd fails
only_memory (Groups fault) fails = absurd fails
only_memory (NoListing fault) fails = absurd fails
only_memory (Memory error) fails = (error, refl, fails)
only_memory NoMatch fails = absurd fails

-- so it is with words in which a parse finds no fault, unless the run fails that they ask for
words_refused : (word : Text) (words : List Text) (refusal : NoRequest) → ((spreads : Choices) → AreChoices spreads → fault_of (program_app spreads) (word ∷ words) ≡ []) → WordsFail (word ∷ words) refusal → LacksMemory refusal ⊎ ((spreads : Choices) × RunFails (subcommand_of (program_app spreads) (word ∷ words)) refusal)
words_refused word words refusal fine (program, (spreads, choices, is), inl text) =
    let none : fault_of program (word ∷ words) ≡ [] = ap (λ (p : App). fault_of p (word ∷ words)) is ∙ fine spreads choices in
    inl (only_memory refusal (subst (λ (f : Kinds). TextFails f refusal) none text))
words_refused word words refusal fine (program, (spreads, choices, is), inr fails) =
    inr (spreads, subst (λ (p : App). RunFails (subcommand_of p (word ∷ words)) refusal) is fails.1)

check_refused : (refusal : NoRequest) → WordsFail (codes "check" ∷ []) refusal → LacksMemory refusal
unfolding clap_on_literals
check_refused refusal fails = elim (words_refused (codes "check") [] refusal (λ spreads choices. refl) fails) [
  | inl lacks ↦ lacks
  | inr run ↦ absurd (run.1.0 refl)
]

show_refused : (refusal : NoRequest) → WordsFail (codes "show" ∷ codes "--svg" ∷ codes "--seconds" ∷ codes "2" ∷ []) refusal → LacksMemory refusal
unfolding clap_on_literals
show_refused refusal fails = elim (words_refused (codes "show") (codes "--svg" ∷ codes "--seconds" ∷ codes "2" ∷ []) refusal (λ spreads choices. refl) fails) [
  | inl lacks ↦ lacks
  | inr run ↦ absurd ((run.1.2 refl).1 (style.Svg 2) (record { text = codes "2"; given = refl; numeral = (omega arith, (omega arith, tt)); value = refl; few = omega arith }, omega arith, refl))
]

out_of_memory : (refusal : NoRequest) → LacksMemory refusal → IsOutOfMemory refusal
out_of_memory refusal (error, is, kind) = subst IsOutOfMemory (sym is) kind

-- without texts of a goal and of groups, and at unit cost, options fail only where memory is refused for the groups
plain_refused : (rows : List Row) (refusal : NoRequest) → (first_of (codes "goal") rows ≡ None) → (first_of (codes "cost") rows ≡ Some (codes "unit")) → (first_of (codes "groups") rows ≡ None) → (grid : ShapeModel) (workers limit : ℕ) (spread : SpreadKind) → HaveValues rows grid workers limit spread → OptionsFail rows refusal → IsOutOfMemory refusal
plain_refused rows (Usage text) no_goal unit no_groups grid workers limit spread have fails = fails
plain_refused rows (Goal fault) no_goal unit no_groups grid workers limit spread have (grid', shape, first) =
    subst (λ (t : Option Text). IsGoalFault grid' t fault) no_goal first
plain_refused rows (Costs fault) no_goal unit no_groups grid workers limit spread have (grid', shape, goal, said, first) =
    costs_no_fault grid' (Some (codes "unit")) (unit_rule grid') fault (inl (refl, refl)) (subst (λ (t : Option Text). IsCostsFault grid' t fault) unit first)
plain_refused rows (Groups fault) no_goal unit no_groups grid workers limit spread have (grid', shape, goal, said, rule, costs, first) =
    subst (λ (t : Option Text). IsGroupsFault grid' t fault) no_groups first
plain_refused rows (NoListing fault) no_goal unit no_groups grid workers limit spread have fails = fails
plain_refused rows (Memory error) no_goal unit no_groups grid workers limit spread have fails = absurd fails
plain_refused rows NoMatch no_goal unit no_groups grid workers limit spread have lack = absurd (lack grid workers limit spread have)

solve_refused : (refusal : NoRequest) → WordsFail (codes "solve" ∷ codes "--rows" ∷ codes "3" ∷ codes "--cols" ∷ codes "4" ∷ codes "--spread" ∷ codes "abstract" ∷ []) refusal → IsOutOfMemory refusal
unfolding clap_on_literals
solve_refused refusal fails =
    let words : List Text = codes "--rows" ∷ codes "3" ∷ codes "--cols" ∷ codes "4" ∷ codes "--spread" ∷ codes "abstract" ∷ [] in
    elim (words_refused (codes "solve") words refusal (on_choices (λ spreads. fault_of (program_app spreads) (codes "solve" ∷ words) ≡ []) (λ p x y z. refl)) fails) [
      | inl lacks ↦ out_of_memory refusal lacks
      | inr run ↦ plain_refused _ refusal refl refl refl twelve 1 18446744073709551615 Abstract (record { shape = record { tall = record { text = codes "3"; given = refl; numeral = (omega arith, (omega arith, tt)); value = refl; few = omega arith }; wide = record { text = codes "4"; given = refl; numeral = (omega arith, (omega arith, tt)); value = refl; few = omega arith }; small = record { rows_low = omega arith; rows_high = omega arith; cols_low = omega arith; cols_high = omega arith } }; count = record { count = record { text = codes "1"; given = refl; numeral = (omega arith, (omega arith, tt)); value = refl; few = omega arith }; some = omega arith; few = omega arith }; word = refl; most = record { text = codes "18446744073709551615"; given = refl; numeral = (omega arith, (omega arith, (omega arith, (omega arith, (omega arith, (omega arith, (omega arith, (omega arith, (omega arith, (omega arith, (omega arith, (omega arith, (omega arith, (omega arith, (omega arith, (omega arith, (omega arith, (omega arith, (omega arith, (omega arith, (omega arith, tt))))))))))))))))))))); value = refl; few = omega arith } }) (run.1.4 refl)
    ]

pub words_are_not_refused : WordsAreNotRefused
words_are_not_refused = record { check = check_refused; show = show_refused; solve = solve_refused }
