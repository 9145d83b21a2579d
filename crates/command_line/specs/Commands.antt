-- The program's subcommands and their options, as a parse of arguments reads them.
use Rattle.std.specs.Prelude.{ℕ, ◌≡◌, true, false, List, [], ◌∷◌, Some, codes, map, Result, IfOk, IfErr}
use Rattle.std.specs.Borrow.{Bor}
use Rattle.clap.specs.Words.{Text, Rule, App, app_of, kind_of, new_rule, new_app, with_rule, with_subcommand}
use Rattle.clap.specs.declared.builder.action.ArgAction.TheVariants.{Set, SetTrue}
use Rattle.clap.specs.declared.builder.command.Command.{Command}
use Rattle.clap.specs.declared.builder.command.Command.TheViews.{out-Command}
use Rattle.clap.specs.declared.builder.value_parser.ValueParser.{ValueParser}
use Rattle.clap.specs.declared.builder.value_parser.ValueParser.TheVariants as value
use Rattle.clap.specs.declared.error.Error.{Error}
use Rattle.clap.specs.declared.error.kind.ErrorKind.TheVariants.{OutOfMemory}

-- the values that an option may have, as code holds them
abbrev pub Choices : Type 0
Choices = Bor (List (Bor Text))

-- an option of one value, any text
abbrev pub option_rule : Text → Rule
option_rule name = record (new_rule name) { long = Some name; action = Some Set; value_names = 1 }

-- an option that must be there, of a number from 2 to 5
abbrev pub side_rule : Text → Rule
side_rule name = record (option_rule name) { required = true; parser = Some (value.Unsigned 2 5) }

-- an option of any text, with the one that it has where it is left out
abbrev pub text_rule : Text → Text → Rule
text_rule name given = record (option_rule name) { defaults = given ∷ [] }

-- the same option, whose values are parsed so, with the one that it has where it is left out
abbrev pub parsed_rule : Rule → ValueParser → Text → Rule
parsed_rule rule parser given = record rule { parser = Some parser; defaults = given ∷ [] }

-- an option of a number between two, with the one that it has where it is left out
abbrev pub number_rule : Text → ℕ → ℕ → Text → Rule
number_rule name least most given = parsed_rule (option_rule name) (value.Unsigned least most) given

-- an option of one of some values, with the one that it has where it is left out
abbrev pub choice_rule : Text → Choices → Text → Rule
choice_rule name choices given = parsed_rule (option_rule name) (value.Names choices) given

-- an option of a number up to some other, which may be left out
abbrev pub count_rule : Text → ℕ → Rule
count_rule name most = record (option_rule name) { parser = Some (value.Unsigned 0 most) }

-- an option without a value
abbrev pub flag_rule : Text → Rule
flag_rule name = record (new_rule name) { long = Some name; action = Some SetTrue }

-- a subcommand with the sides of its boards
abbrev pub sided_app : Text → App
sided_app name = with_rule (with_rule (new_app name) (side_rule (codes "rows"))) (side_rule (codes "cols"))

-- a subcommand with the options that say a puzzle
abbrev pub stated_app : Text → App
stated_app name =
    let texts = with_rule (with_rule (with_rule (sided_app name) (text_rule (codes "cost") (codes "unit"))) (option_rule (codes "goal"))) (option_rule (codes "groups")) in
    with_rule texts (flag_rule (codes "fold"))

-- a subcommand with the options that say a puzzle and how it is searched
abbrev pub puzzle_app : Choices → Text → App
puzzle_app spreads name =
    let workers = with_rule (stated_app name) (number_rule (codes "workers") 1 16 (codes "1")) in
    with_rule (with_rule workers (choice_rule (codes "spread") spreads (codes "zobrist"))) (number_rule (codes "limit") 0 18446744073709551615 (codes "18446744073709551615"))

-- the subcommand `solve`
abbrev pub solve_app : Choices → App
solve_app spreads = with_rule (with_rule (with_rule (puzzle_app spreads (codes "solve")) (flag_rule (codes "cert"))) (flag_rule (codes "progress"))) (flag_rule (codes "stats"))

-- the subcommand `show`: columns for boards, whether an SVG file is written, and the seconds of a move there
abbrev pub show_app : App
show_app = with_rule (with_rule (with_rule (new_app (codes "show")) (number_rule (codes "width") 20 1000 (codes "80"))) (flag_rule (codes "svg"))) (number_rule (codes "seconds") 1 60 (codes "1"))

-- the subcommand `boards`: the sides and the goal, and which boards are listed, by walks of at most a million moves
abbrev pub boards_app : App
boards_app =
    let counts = with_rule (with_rule (sided_app (codes "boards")) (option_rule (codes "goal"))) (count_rule (codes "count") 18446744073709551615) in
    with_rule (with_rule (with_rule counts (number_rule (codes "seed") 0 18446744073709551615 (codes "0"))) (count_rule (codes "moves") 1000000)) (flag_rule (codes "all"))

-- the program without its subcommands: it has a version, one subcommand must be there, and `help` is none
abbrev pub top_app : App
top_app =
    let empty = new_app (codes "tilesolve") in
    record empty { top = record empty.top { has_version = true; no_binary_name = true; subcommand_required = true; disable_help_subcommand = true } }

-- the program with the subcommands that solve, and that read certificates
abbrev pub proving_app : Choices → App
proving_app spreads =
    let checks = with_subcommand (with_subcommand top_app (solve_app spreads).top) (new_app (codes "check")).top in
    with_subcommand (with_subcommand checks show_app.top) (new_app (codes "upgrade")).top

-- the program with its subcommands
abbrev pub program_app : Choices → App
program_app spreads = with_subcommand (with_subcommand (proving_app spreads) (puzzle_app spreads (codes "replay")).top) boards_app.top

-- A parse of arguments reads the command so, and none of its options is for all its subcommands.
pub record IsReadAs (app : App) (command : Command) : Type 0 where
  pub parse : app_of command ≡ app
  pub local : (out-Command command).has_globals ≡ false

-- such a command is made, or memory was refused
pub record MakesCommand (app : App) (made : Result Command Error) : Type 0 where
  pub command : IfOk made (IsReadAs app)
  pub refused : IfErr made (λ e. kind_of e ≡ OutOfMemory)

-- the values that `--spread` may have
abbrev pub AreChoices : Choices → Type 0
AreChoices spreads = map (λ t. t.now) spreads.now ≡ codes "zobrist" ∷ codes "blank" ∷ codes "abstract" ∷ []

-- the program with these values of `--spread`
abbrev pub IsProgram : App → Type 0
IsProgram program = (spreads : Choices) × AreChoices spreads × (program ≡ program_app spreads)
