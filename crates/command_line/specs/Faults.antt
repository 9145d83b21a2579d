-- Why arguments ask for nothing: the status that each reason ends the program by, and the code that it is reported by.
use Rattle.std.specs.Prelude.{ℕ, List, [], ◌∷◌, ◌++◌, codes, string_bytes}
use Rattle.board.specs.Faults.{tiles_code, weights_code}
use Rattle.batch_lines.specs.GroupFaults.{groups_code}
use Rattle.batch_lines.specs.declared.group_faults.GroupsFault.TheVariants as groups
use Rattle.command_line.specs.declared.faults.NoRequest.{NoRequest}
use Rattle.command_line.specs.declared.faults.NoRequest.TheVariants.{Usage, Goal, Costs, Groups, NoListing, Memory, NoMatch}
use Rattle.command_line.specs.declared.faults.ListFault.{ListFault}
use Rattle.command_line.specs.declared.faults.ListFault.TheVariants.{NotAlone, TooManyCells}

-- 2 for the arguments, the texts of the goal, of the costs and of the groups among them; 4 where memory was refused
abbrev pub refusal_status : NoRequest → ℕ
refusal_status (Usage text) = 2
refusal_status (Goal fault) = 2
refusal_status (Costs fault) = 2
refusal_status (Groups (groups.NoGroup fault)) = 2
refusal_status (Groups (groups.NoPartition fault)) = 2
refusal_status (Groups (groups.Memory refused)) = 4
refusal_status (NoListing fault) = 2
refusal_status (Memory error) = 4
refusal_status NoMatch = 4

-- a code as a line for standard error
abbrev pub coded_line : List ℕ → List ℕ
coded_line code = codes "tilesolve: " ++ code ++ 10 ∷ []

-- what is written of boards that can't be listed
abbrev pub list_line : ListFault → List ℕ
list_line NotAlone = codes "error: --all cannot be used with --count or --moves" ++ 10 ∷ []
list_line TooManyCells = codes "error: --all needs a shape of at most 9 cells" ++ 10 ∷ []

-- what is written of it to standard error: the text of usage, or a line with a code
abbrev pub refusal_message : NoRequest → List ℕ
refusal_message (Usage text) = string_bytes text
refusal_message (Goal fault) = coded_line (tiles_code fault)
refusal_message (Costs fault) = coded_line (weights_code fault)
refusal_message (Groups fault) = coded_line (groups_code fault)
refusal_message (NoListing fault) = list_line fault
refusal_message (Memory error) = coded_line (codes "memory")
refusal_message NoMatch = coded_line (codes "memory")
