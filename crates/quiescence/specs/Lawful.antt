-- What a book keeps, whatever calls are made on it.
use Rattle.std.specs.Prelude.{ℕ, ◌≡◌, ◌≤◌, length, All, Some}
use Rattle.outcomes.specs.declared.outcome.Want.{Want}
use Rattle.world_model.specs.declared.steps.Stop.TheVariants.{Quiet, Limit, Memory}
use Rattle.world_model.specs.Costs.{IsNotBelow, limit_of}
use Rattle.world_model.specs.Books.{BookState}

-- The way of counting allows the limit, the number of workers, and the `Want` of a stop for memory. At most the limit is granted. A stop by
-- Quiet means that no credit is left, one by Limit that all of the limit is granted. No floor is below the limit of the best cost.
pub record IsLawfulBook (allows_limit allows_workers : ℕ → Type 0) (allows_want : Want → Type 0) (book : BookState) : Type 0 where
  pub limit : allows_limit book.limit
  pub workers : allows_workers (length book.floors)
  pub within_limit : book.granted ≤ book.limit
  pub at_quiet : book.stop ≡ Some Quiet → book.credit ≡ 0
  pub at_limit : book.stop ≡ Some Limit → book.granted ≡ book.limit
  pub at_want : (want : Want) → book.stop ≡ Some (Memory want) → allows_want want
  pub floors : All (λ floor. IsNotBelow floor (Some (limit_of book.best))) book.floors
