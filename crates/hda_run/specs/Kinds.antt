-- The nine kinds of steps, and the workers that take them.
use Rattle.std.specs.Prelude.{ℕ, ◌≡◌, ◌≤◌, ◌⊎◌}
use Rattle.world_model.specs.declared.steps.Step.{Step}
use Rattle.world_model.specs.declared.steps.Step.TheVariants as steps
use Rattle.hda_run.specs.declared.gates.Kind.{Kind}
use Rattle.hda_run.specs.declared.gates.Kind.TheVariants.{Expand, Settle, Send, Deliver, Draw}
use Rattle.hda_run.specs.declared.gates.Kind.TheVariants.{Announce, Grant, Rest, Halt}

-- which of the nine steps it is
abbrev pub step_kind_of : Step → Kind
step_kind_of (steps.Expand i) = Expand
step_kind_of (steps.Settle i) = Settle
step_kind_of (steps.Send i j) = Send
step_kind_of (steps.Deliver i j) = Deliver
step_kind_of (steps.Draw i) = Draw
step_kind_of (steps.Announce i) = Announce
step_kind_of (steps.Grant i) = Grant
step_kind_of (steps.Rest i) = Rest
step_kind_of (steps.Halt i cause) = Halt

-- the step is by a worker that isn't one of n, or along a lane between two that aren't two of them
abbrev pub Lacks : ℕ → Step → Type 0
Lacks n (steps.Expand i) = n ≤ i
Lacks n (steps.Settle i) = n ≤ i
Lacks n (steps.Send i j) = (i ≡ j) ⊎ (n ≤ i) ⊎ (n ≤ j)
Lacks n (steps.Deliver i j) = (j ≡ i) ⊎ (n ≤ j) ⊎ (n ≤ i)
Lacks n (steps.Draw i) = n ≤ i
Lacks n (steps.Announce i) = n ≤ i
Lacks n (steps.Grant i) = n ≤ i
Lacks n (steps.Rest i) = n ≤ i
Lacks n (steps.Halt i cause) = n ≤ i
