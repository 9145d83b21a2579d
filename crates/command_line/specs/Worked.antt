-- Worked rows: the faults that a parse of arguments by the program finds, and what arguments ask for. Each is the contract of a function that does nothing.
use Rattle.std.specs.Prelude.{◌≡◌, ◌-◌, ◌^◌, [], ◌∷◌, codes}
use Rattle.clap.specs.Words.{fault_of, kind_of}
use Rattle.clap.specs.declared.error.kind.ErrorKind.TheVariants.{ValueValidation, ArgumentConflict, UnknownArgument, DisplayHelp, DisplayVersion, OutOfMemory}
use Rattle.clap.specs.declared.error.Error.{Error}
use Rattle.command_line.specs.Commands.{Choices, program_app}
use Rattle.batch_lines.specs.OptionLaws.{IsMemoryRefusal}
use Rattle.command_line.specs.Requests.{WordsAsk, WordsFail}
use Rattle.command_line.specs.declared.faults.NoRequest.{NoRequest}
use Rattle.command_line.specs.declared.faults.NoRequest.TheVariants.{Groups, Memory}
use Rattle.command_line.specs.declared.requests.Options.{Options}
use Rattle.command_line.specs.declared.requests.Request.{Request}
use Rattle.command_line.specs.declared.requests.Request.TheVariants.{Solve, Check, Draw, Upgrade, Replay}
use Rattle.board.specs.Boards.{goal_of}
use Rattle.board.specs.Weights.{unit_rule}
use Rattle.batch_runs.specs.declared.setup.SpreadKind.TheVariants.{Abstract}
use Rattle.drawings.specs.declared.drawing.Style.TheVariants as style

-- a side of 6, 17 workers, 19 columns, x boards and a walk of a million moves and one are no values of these options
abbrev pub NumbersAreWithin : Type 0
NumbersAreWithin =
    (spreads : Choices)
    → (fault_of (program_app spreads) (codes "solve" ∷ codes "--rows" ∷ codes "6" ∷ codes "--cols" ∷ codes "3" ∷ []) ≡ ValueValidation ∷ [])
    × (fault_of (program_app spreads) (codes "replay" ∷ codes "--rows" ∷ codes "3" ∷ codes "--workers=17" ∷ codes "--cols" ∷ codes "3" ∷ []) ≡ ValueValidation ∷ [])
    × (fault_of (program_app spreads) (codes "show" ∷ codes "--width" ∷ codes "19" ∷ []) ≡ ValueValidation ∷ [])
    × (fault_of (program_app spreads) (codes "boards" ∷ codes "--rows" ∷ codes "3" ∷ codes "--cols" ∷ codes "3" ∷ codes "--count" ∷ codes "x" ∷ []) ≡ ValueValidation ∷ [])
    × (fault_of (program_app spreads) (codes "boards" ∷ codes "--rows" ∷ codes "3" ∷ codes "--cols" ∷ codes "3" ∷ codes "--moves=1000001" ∷ []) ≡ ValueValidation ∷ [])
    × (fault_of (program_app spreads) (codes "boards" ∷ codes "--rows" ∷ codes "3" ∷ codes "--cols" ∷ codes "3" ∷ codes "--moves=1000000" ∷ []) ≡ [])

-- an option that is given twice is a fault, and so is one of another subcommand
abbrev pub OptionsStandOnce : Type 0
OptionsStandOnce =
    (spreads : Choices)
    → (fault_of (program_app spreads) (codes "solve" ∷ codes "--rows" ∷ codes "3" ∷ codes "--rows" ∷ codes "3" ∷ []) ≡ ArgumentConflict ∷ [])
    × (fault_of (program_app spreads) (codes "replay" ∷ codes "--cert" ∷ []) ≡ UnknownArgument ∷ [])

-- help and the version are asked for; `check` alone has no fault, and neither have `upgrade` and `show`
abbrev pub TextsAreAskedFor : Type 0
TextsAreAskedFor =
    (spreads : Choices)
    → (fault_of (program_app spreads) (codes "solve" ∷ codes "--help" ∷ []) ≡ DisplayHelp ∷ [])
    × (fault_of (program_app spreads) (codes "--version" ∷ []) ≡ DisplayVersion ∷ [])
    × (fault_of (program_app spreads) (codes "check" ∷ []) ≡ [])
    × (fault_of (program_app spreads) (codes "upgrade" ∷ []) ≡ [])
    × (fault_of (program_app spreads) (codes "show" ∷ []) ≡ [])
    × (fault_of (program_app spreads) (codes "show" ∷ codes "--svg" ∷ codes "--seconds" ∷ codes "2" ∷ []) ≡ [])
    × (fault_of (program_app spreads) (codes "boards" ∷ codes "--rows" ∷ codes "3" ∷ codes "--cols" ∷ codes "3" ∷ codes "--all" ∷ []) ≡ [])

-- the goal of 3 by 4 at unit cost, searched without a limit by one worker, with boards spread by their abstract hashes
pub record IsPlainSearch (o : Options) : Type 0 where
  pub goal : o.goal ≡ goal_of (record { rows = 3; cols = 4 })
  pub costs : o.costs ≡ unit_rule (record { rows = 3; cols = 4 })
  pub workers : o.workers ≡ 1
  pub spread : o.spread ≡ Abstract
  pub limit : o.limit ≡ 2 ^ 64 - 1

-- `check` asks only for a check, and `upgrade` only for an upgrade. With these options `show` asks only for an SVG file of 2 seconds a move,
-- `replay` only for a replay, and `solve` only for such a search, without a certificate.
pub record WordsAskOneThing : Type 0 where
  pub check : (request : Request) → WordsAsk (codes "check" ∷ []) request → request ≡ Check
  pub upgrade : (request : Request) → WordsAsk (codes "upgrade" ∷ []) request → request ≡ Upgrade
  pub drawing : (request : Request) → WordsAsk (codes "show" ∷ codes "--svg" ∷ codes "--seconds" ∷ codes "2" ∷ []) request → request ≡ Draw (style.Svg 2)
  pub replay : (request : Request) → WordsAsk (codes "replay" ∷ codes "--rows" ∷ codes "3" ∷ codes "--cols" ∷ codes "4" ∷ []) request → (o : Options) × (request ≡ Replay o)
  pub solve : (request : Request) → WordsAsk (codes "solve" ∷ codes "--rows" ∷ codes "3" ∷ codes "--cols" ∷ codes "4" ∷ codes "--spread" ∷ codes "abstract" ∷ []) request → (o : Options) × (request ≡ Solve o) × IsPlainSearch o

-- memory was refused, to the parser of the arguments, as its error says, or for the groups
abbrev pub IsOutOfMemory : NoRequest → Type 0
IsOutOfMemory (Memory error) = kind_of error ≡ OutOfMemory
IsOutOfMemory (Groups fault) = IsMemoryRefusal fault
IsOutOfMemory _ = ⊥

-- `check` and, with these options, `show` are refused only where the parser's error says that memory is. `solve` with these options may lack it
-- for its groups too.
pub record WordsAreNotRefused : Type 0 where
  pub check : (refusal : NoRequest) → WordsFail (codes "check" ∷ []) refusal → (error : Error) × (refusal ≡ Memory error) × (kind_of error ≡ OutOfMemory)
  pub show : (refusal : NoRequest) → WordsFail (codes "show" ∷ codes "--svg" ∷ codes "--seconds" ∷ codes "2" ∷ []) refusal → (error : Error) × (refusal ≡ Memory error) × (kind_of error ≡ OutOfMemory)
  pub solve : (refusal : NoRequest) → WordsFail (codes "solve" ∷ codes "--rows" ∷ codes "3" ∷ codes "--cols" ∷ codes "4" ∷ codes "--spread" ∷ codes "abstract" ∷ []) refusal → IsOutOfMemory refusal
