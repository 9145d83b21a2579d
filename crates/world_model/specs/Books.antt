-- The book of a run: what all workers share.
use Rattle.std.specs.Prelude.{ℕ, ◌-◌, ◌<◌, min, List, Option, Some, slice_set, ◌==◌, if◌then◌else◌}
use Rattle.world_model.specs.declared.limits.TheConstants.{GREATEST_GRANT}
use Rattle.world_model.specs.declared.steps.Stop.{Stop}
use Rattle.world_model.specs.declared.steps.Stop as stops
use Rattle.world_model.specs.declared.steps.HaltCause.{HaltCause}
use Rattle.world_model.specs.declared.steps.HaltCause as causes

-- The book. `credit` is what all purses and packets carry. `best` is the cost of the incumbent, the best plan that was announced. `floors`
-- has what each worker said when it rested last. `granted` counts the expansions that were granted, up to `limit`.
pub record BookState : Type 0 where
  pub credit : ℕ
  pub best : Option ℕ
  pub floors : List (Option ℕ)
  pub granted : ℕ
  pub limit : ℕ
  pub stop : Option Stop

-- what is granted at once
abbrev pub grant_of : BookState → ℕ
grant_of book = min GREATEST_GRANT (book.limit - book.granted)

-- the stop that a cause to halt makes
abbrev pub stop_of : HaltCause → Stop
stop_of causes.TheVariants.Limit = stops.TheVariants.Limit
stop_of (causes.TheVariants.Memory want) = stops.TheVariants.Memory want
stop_of causes.TheVariants.Start = stops.TheVariants.Start

-- some of the limit is not granted yet, and it is for the limit that the run is to be halted
abbrev pub HasMoreToGrant : BookState → HaltCause → Type 0
HasMoreToGrant book causes.TheVariants.Limit = book.granted < book.limit
HasMoreToGrant book (causes.TheVariants.Memory want) = ⊥
HasMoreToGrant book causes.TheVariants.Start = ⊥

-- the book after worker i rests: the credit is less by the purse, the floor is kept, and where no credit is left the run is quiet
abbrev pub with_rest : BookState → ℕ → ℕ → Option ℕ → BookState
with_rest book i purse floor =
    record book {
      credit = book.credit - purse;
      floors = slice_set book.floors i floor;
      stop = if book.credit - purse == 0 then Some stops.TheVariants.Quiet else book.stop;
    }
