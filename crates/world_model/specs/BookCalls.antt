-- The five calls of the book. They know of a worker its number and its purse.
use Rattle.std.specs.Prelude.{◌≡◌, ◌≢◌, ℕ, ◌+◌, ◌^◌, ◌<◌, Option, Some, None}
use Rattle.world_model.specs.declared.limits.TheConstants.{CREDIT_DRAWN}
use Rattle.world_model.specs.declared.steps.HaltCause.{HaltCause}
use Rattle.world_model.specs.declared.steps.BookFault.{BookFault}
use Rattle.world_model.specs.declared.steps.BookFault.TheVariants.{RunStopped, NoPurse, CreditFull, NotLower, NothingLeft, FloorBelowLimit, AllowanceRemains}
use Rattle.world_model.specs.Turns.{Turn, Becomes, Unless}
use Rattle.world_model.specs.Costs.{IsNotBelow, limit_of}
use Rattle.world_model.specs.Books.{BookState, grant_of, stop_of, HasMoreToGrant, with_rest}

-- the book, and the purse of the worker that calls
pub record Account : Type 0 where
  pub book : BookState
  pub purse : ℕ

-- more is drawn: purse and credit rise alike
abbrev pub BookDraw : Turn Account BookFault → Type 0
BookDraw it =
    let book = it.before.book in
    Unless it (book.stop ≢ None) RunStopped (
    Unless it (it.before.purse ≡ 0) NoPurse (
    Unless it (2 ^ 63 < book.credit) CreditFull (
    Becomes it (record { book = record book { credit = book.credit + CREDIT_DRAWN }; purse = it.before.purse + CREDIT_DRAWN }))))

-- the best cost is this one
abbrev pub BookAnnounce : ℕ → Turn BookState BookFault → Type 0
BookAnnounce cost it =
    let book = it.before in
    Unless it (book.stop ≢ None) RunStopped (
    Unless it (IsNotBelow (Some cost) book.best) NotLower (
    Becomes it (record book { best = Some cost })))

-- more is granted, up to the limit
abbrev pub BookGrant : Turn BookState BookFault → Type 0
BookGrant it =
    let book = it.before in
    Unless it (book.stop ≢ None) RunStopped (
    Unless it (book.granted ≡ book.limit) NothingLeft (
    Becomes it (record book { granted = book.granted + grant_of book })))

-- worker i gives its purse back
abbrev pub BookRest : ℕ → Option ℕ → Turn Account BookFault → Type 0
BookRest i floor it =
    let book = it.before.book in
    Unless it (book.stop ≢ None) RunStopped (
    Unless it (it.before.purse ≡ 0) NoPurse (
    Unless it (¬ IsNotBelow floor (Some (limit_of book.best))) FloorBelowLimit (
    Becomes it (record { book = with_rest book i it.before.purse floor; purse = 0 }))))

-- the run stops for this cause
abbrev pub BookHalt : HaltCause → Turn BookState BookFault → Type 0
BookHalt cause it =
    let book = it.before in
    Unless it (book.stop ≢ None) RunStopped (
    Unless it (HasMoreToGrant book cause) AllowanceRemains (
    Becomes it (record book { stop = Some (stop_of cause) })))
