-- Worked lines.
use Rattle.std.specs.Prelude.{ℕ, List, ◌∷◌, ◌++◌, codes}
use Rattle.outcomes.specs.declared.outcome.Want.TheVariants.{Stated}
use Rattle.world_model.specs.declared.steps.HaltCause.TheVariants.{Limit, Memory, Start}
use Rattle.world_model.specs.declared.steps.Step.{Step}
use Rattle.world_model.specs.declared.steps.Step.TheVariants.{Expand, Settle, Send, Deliver, Draw, Announce, Grant, Rest, Halt}
use Rattle.batch_lines.specs.Words.{words_of}
use Rattle.replay_runs.specs.Steps.{SaysStep}

-- the line says this step
abbrev pub SaysStepLine : List ℕ → Step → Type 0
SaysStepLine line step = SaysStep (words_of line) step

-- the line says no step
abbrev pub SaysNothing : List ℕ → Type 0
SaysNothing line = (step : Step) → ¬ SaysStep (words_of line) step

-- each kind of step is said
abbrev pub KindsAreSaid : Type 0
KindsAreSaid =
    SaysStepLine (codes "expand 0") (Expand 0)
    × SaysStepLine (codes "settle 1") (Settle 1)
    × SaysStepLine (codes "send 0 1") (Send 0 1)
    × SaysStepLine (codes "deliver 0 1") (Deliver 0 1)
    × SaysStepLine (codes "draw 2") (Draw 2)
    × SaysStepLine (codes "announce 3") (Announce 3)
    × SaysStepLine (codes "grant 15") (Grant 15)
    × SaysStepLine (codes "rest 16") (Rest 16)
    × SaysStepLine (codes "halt 0 limit") (Halt 0 Limit)
    × SaysStepLine (codes "halt 0 memory") (Halt 0 (Memory Stated))
    × SaysStepLine (codes "halt 0 start") (Halt 0 Start)

-- blanks are spaces and tabs (9), as many as there are; a number has up to nine digits, with zeros before it or without
abbrev pub SpellingsAreSaid : Type 0
SpellingsAreSaid =
    SaysStepLine (codes "  send  0   1 ") (Send 0 1)
    × SaysStepLine (9 ∷ codes "send" ++ 9 ∷ codes "0" ++ 9 ∷ 32 ∷ codes "1") (Send 0 1)
    × SaysStepLine (codes "rest 000000007") (Rest 7)
    × SaysStepLine (codes "rest 999999999") (Rest 999999999)

-- ten digits, a sign, upper case, another verb, a word too few or too many, another cause
abbrev pub OthersSayNothing : Type 0
OthersSayNothing =
    SaysNothing (codes "rest 0000000007")
    × SaysNothing (codes "rest +7")
    × SaysNothing (codes "Rest 7")
    × SaysNothing (codes "fly 1")
    × SaysNothing (codes "rest")
    × SaysNothing (codes "rest 0 1")
    × SaysNothing (codes "send 0")
    × SaysNothing (codes "send 0 1 2")
    × SaysNothing (codes "halt 0")
    × SaysNothing (codes "halt 0 quiet")
