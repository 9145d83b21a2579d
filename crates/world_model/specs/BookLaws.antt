-- The laws of book calls: a worker's step on the book is the book's own call, whose fault is the refusal of that name.
use Rattle.std.specs.Prelude.{◌≡◌, ℕ, ◌+◌, [], All, Option, Some, option_map}
use Rattle.world_model.specs.declared.steps.HaltCause.{HaltCause}
use Rattle.world_model.specs.declared.steps.HaltCause.TheVariants.{Limit}
use Rattle.world_model.specs.declared.steps.BookFault.{BookFault}
use Rattle.world_model.specs.Turns.{turn}
use Rattle.world_model.specs.Costs.{IsNotBelow, limit_of}
use Rattle.world_model.specs.Workers.{Role, HasNothingBelow, IsFloor, KnowsGoalAt}
use Rattle.world_model.specs.Books.{BookState, grant_of}
use Rattle.world_model.specs.BookCalls.{Account, BookDraw, BookAnnounce, BookGrant, BookRest, BookHalt}
use Rattle.world_model.specs.BookSteps.{AtBook, at_book, DrawStep, AnnounceStep, GrantStep, RestStep, HaltStep, refusal_of, after_call}

-- the book, and the purse of the worker at it
abbrev pub account_of : AtBook → Account
account_of at = record { book = at.book; purse = at.worker.purse }

-- a draw
abbrev pub DrawsAreTheBooks : Type 0
DrawsAreTheBooks =
    (at : AtBook) (fault : Option BookFault) (account : Account)
    → BookDraw (turn (account_of at) fault account)
    → DrawStep (turn at (option_map refusal_of fault) (after_call fault at (at_book (record at.worker { purse = account.purse }) account.book)))

-- an announcement, by the goal's owner, of the cost at which it knows the goal
abbrev pub AnnouncementsAreTheBooks : Type 0
AnnouncementsAreTheBooks =
    (role : Role) (at : AtBook) (cost : ℕ) (fault : Option BookFault) (book : BookState)
    → role.owner role.task.goal ≡ role.me
    → KnowsGoalAt role.task at.worker cost
    → BookAnnounce cost (turn at.book fault book)
    → AnnounceStep role (turn at (option_map refusal_of fault) (after_call fault at (at_book at.worker book)))

-- a grant, where a board is below the limit and no allowance is left
abbrev pub GrantsAreTheBooks : Type 0
GrantsAreTheBooks =
    (role : Role) (at : AtBook) (fault : Option BookFault) (book : BookState)
    → ¬ HasNothingBelow role.task at.worker (limit_of at.book.best)
    → at.worker.allowance ≡ 0
    → BookGrant (turn at.book fault book)
    → GrantStep role (turn at (option_map refusal_of fault) (after_call fault at (at_book (record at.worker { allowance = at.worker.allowance + grant_of at.book }) book)))

-- a rest with the worker's floor, where nothing is held or unsent and no better goal is known
abbrev pub RestsAreTheBooks : Type 0
RestsAreTheBooks =
    (role : Role) (at : AtBook) (floor : Option ℕ) (fault : Option BookFault) (account : Account)
    → at.worker.held ≡ []
    → All (λ packet. packet ≡ []) at.worker.unsent
    → ((cost : ℕ) → KnowsGoalAt role.task at.worker cost → IsNotBelow (Some cost) at.book.best)
    → IsFloor role.task at.worker floor
    → BookRest role.me floor (turn (account_of at) fault account)
    → RestStep role (turn at (option_map refusal_of fault) (after_call fault at (at_book (record at.worker { purse = account.purse }) account.book)))

-- a halt, for the limit where no allowance is left
abbrev pub HaltsAreTheBooks : Type 0
HaltsAreTheBooks =
    (cause : HaltCause) (at : AtBook) (fault : Option BookFault) (book : BookState)
    → (cause ≡ Limit → at.worker.allowance ≡ 0)
    → BookHalt cause (turn at.book fault book)
    → HaltStep cause (turn at (option_map refusal_of fault) (after_call fault at (at_book at.worker book)))

-- no call is without an answer
abbrev pub CallsHaveAnswers : Type 0
CallsHaveAnswers =
    ((before : Account) → ¬ ((fault : Option BookFault) (after : Account) → ¬ BookDraw (turn before fault after)))
    × ((cost : ℕ) (before : BookState) → ¬ ((fault : Option BookFault) (after : BookState) → ¬ BookAnnounce cost (turn before fault after)))
    × ((before : BookState) → ¬ ((fault : Option BookFault) (after : BookState) → ¬ BookGrant (turn before fault after)))
    × ((i : ℕ) (floor : Option ℕ) (before : Account) → ¬ ((fault : Option BookFault) (after : Account) → ¬ BookRest i floor (turn before fault after)))
    × ((cause : HaltCause) (before : BookState) → ¬ ((fault : Option BookFault) (after : BookState) → ¬ BookHalt cause (turn before fault after)))
