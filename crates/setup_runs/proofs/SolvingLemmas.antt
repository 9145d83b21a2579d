-- What the setup's workers answer is what its rules allow.
use Rattle.std.proofs.Common.{ℕ, ◌≡◌, ◌⊎◌, ◌↔◌, ◌<◌, ◌≤◌, ◌++◌, ◌∷◌, [], All, Bool, true, false, if◌then◌else◌, Vec, None, Some, Result, Ok, Err, IfOk, refl, ap, subst, inl, inr, sym, arith}
use Rattle.std.proofs.lemmas.List.Elements.{All-nil, All-push}
use Rattle.std.specs.declared.alloc.Global.{Global}
use Rattle.board.specs.Boards.{BoardModel}
use Rattle.board.specs.Classes.{SameClass}
use Rattle.memory.specs.declared.OutOfMemory.{OutOfMemory}
use Rattle.outcomes.specs.declared.outcome.Ending.{Ending}
use Rattle.outcomes.specs.declared.outcome.Ending.TheVariants.{Unsolvable}
use Rattle.outcomes.specs.declared.outcome.Why.TheVariants.{Parity}
use Rattle.outcomes.specs.Endings.{without_rows, EndAnswers}
use Rattle.hda_run.specs.Alone.{IsRunAlone, IsFoundAlone}
use Rattle.hda_run.specs.Answered.{IsAnswered}
use Rattle.hda_run.specs.WholeRuns.{EndsWholeRun, HasWholeRun}
use Rattle.hda_run.specs.Jobs.{JobModel, task_in}
use Rattle.hda_run.proofs.LawLemmas.{one_class}
use Rattle.world_model.specs.Credit.{expansion_count}
use Rattle.world_model.specs.Openings.{Job}
use Rattle.world_model.specs.Quiet.{IsKept}
use Rattle.world_model.specs.Worlds.{WorldState}
use Rattle.world_ends.specs.Endings.{EndsIn}
use Rattle.world_ends.specs.Readings.{EndsWithFigures}
use Rattle.world_ends.specs.declared.figures.Figures.{Figures}
use Rattle.world_ends.specs.declared.reading.EndingWithFigures.{EndingWithFigures}
use Rattle.owners.specs.Owners.{AreWorkers, owner_by_hash-lt, owner_by_blank-lt, owner_by_abstract_hash-lt}
use Rattle.batch_runs.specs.declared.setup.SpreadKind.TheVariants.{Zobrist, Blank, Abstract}
use Rattle.batch_runs.specs.Setups.{SetupModel, owner_by, task_of_setup}
use Rattle.batch_runs.specs.Batches.{IsTruthful}
use Rattle.thread_runs.specs.Threads.{IsJoined}
use Rattle.thread_runs.specs.Solved.{IsFoundByWorkers, IsLeftToOne}
use Rattle.setup_runs.specs.Ahead.{LacksMemory, IsTooHard, IsTried, AreTried}
use Rattle.setup_runs.specs.declared.ahead.Tried.{Tried}
use Rattle.batch_runs.specs.declared.stats.Solved.{Solved}
use Rattle.batch_runs.specs.declared.stats.Stats.{Stats}
use Rattle.setup_runs.specs.declared.solving.TheConstants.{ENOUGH_EXPANDED}
use Rattle.setup_runs.specs.Solving.{AnswersBoard, IsFound, IsFoundByOne, IsSearched, IsNoBound, IsOfRun, IsOfProvedRun, MayAnswer, MayCertify, certifying_rules_of, problem_of, problem_within, rules_of, AreStatsOf, AreFiguresOfRun, HasStats}
use Rattle.outcomes.specs.declared.outcome.Outcome.{Outcome}
use Rattle.outcomes.specs.Outcomes.{Task, Answers}
use Rattle.world_model.specs.Outcomes.{IsGiven}
use Rattle.thread_runs.specs.Laws.{HasItsRows}
use Rattle.thread_runs.proofs.LawLemmas.{solved_ends, one_alone}
use Rattle.certificate_runs.specs.Rules.{MayProve}
use Rattle.certificate_runs.proofs.HeadlineLemmas.{ends_answered}
use Rattle.setup_runs.specs.Laws.{CertifiedEndsAreAnswered, IsAloneBound, ParityIsCertified}
use Rattle.outcomes.specs.declared.outcome.Outcome.TheVariants as outcome

-- the owners that a setup names are workers
pub setup_owners : AreWorkers owner_by
setup_owners Zobrist = owner_by_hash-lt
setup_owners Blank = owner_by_blank-lt
setup_owners Abstract = owner_by_abstract_hash-lt

module _ {S T : Type 0} (owner_of : S → ℕ → BoardModel → ℕ) (are : AreWorkers owner_of) (owners : S) (other_of : T → ℕ → BoardModel → ℕ) (others_are : AreWorkers other_of) (others : T) where
  lone_board : (b : BoardModel) → owner_of owners 1 b ≡ other_of others 1 b
  lone_board b =
      let mine = are owners 1 b (omega arith) in
      let its = others_are others 1 b (omega arith) in
      omega (arith, mine, its)

  -- one worker owns all boards, whatever they are spread by
  pub lone_owner : owner_of owners 1 ≡ other_of others 1
  lone_owner = λ t b. lone_board b t

  -- so do as many workers as there are, where there is one
  pub lone_shares : (n : ℕ) → n ≡ 1 → (b : BoardModel) → owner_of owners n b ≡ other_of others n b
  lone_shares n one b = subst (λ (count : ℕ). owner_of owners count b ≡ other_of others count b) (sym one) (lone_board b)

-- ---- The boards of a setup, in each reading.

module _ {X : Type 0} (gives : WorldState → X → Type 0) (setup : SetupModel) (start : BoardModel) where
  -- what the setup's workers find, where boards have these owners
  abbrev pub Finds : {S : Type 0} → (S → ℕ → BoardModel → ℕ) → S → X → Type 0
  Finds owner_of owners answer = IsFoundByWorkers gives owner_of (problem_of setup start) owners setup.workers answer

  -- the job of n workers, where boards are owned by this
  abbrev job_owned : ℕ → (BoardModel → ℕ) → Job
  job_owned n owner = record { task = task_in (problem_of setup start); limit = setup.limit; count = n; owner = owner }

  abbrev JoinedOwned : X → (BoardModel → ℕ) → Type 0
  JoinedOwned answer owner = (w : WorldState) × IsJoined (job_owned setup.workers owner) w × (IsKept w × gives w answer)

  abbrev AloneOwned : ℕ → X → (BoardModel → ℕ) → Type 0
  AloneOwned limit answer owner = (w : WorldState) × IsRunAlone (record (job_owned 1 owner) { limit = limit }) w × gives w answer

  abbrev LeftOwned : (BoardModel → ℕ) → Type 0
  LeftOwned owner = (w : WorldState) × IsJoined (job_owned setup.workers owner) w × (¬ IsKept w)

  -- one worker finds the same, whoever the owners are
  pub alone_any : (limit : ℕ) {S T : Type 0} (owner_of : S → ℕ → BoardModel → ℕ) → AreWorkers owner_of → (owners : S) (other_of : T → ℕ → BoardModel → ℕ) → AreWorkers other_of → (others : T) (answer : X) → IsFoundAlone gives owner_of (problem_within limit setup start) owners answer → IsFoundAlone gives other_of (problem_within limit setup start) others answer
  alone_any limit owner_of are owners other_of others_are others answer run = subst (AloneOwned limit answer) (lone_owner owner_of are owners other_of others_are others) run

  module _ {S T : Type 0} (owner_of : S → ℕ → BoardModel → ℕ) (are : AreWorkers owner_of) (owners : S) (other_of : T → ℕ → BoardModel → ℕ) (others_are : AreWorkers other_of) (others : T) (same : (b : BoardModel) → owner_of owners setup.workers b ≡ other_of others setup.workers b) where
    -- what is left to one worker is so, whatever gives each board the same owner
    left_any : IsLeftToOne owner_of (problem_of setup start) owners setup.workers → IsLeftToOne other_of (problem_of setup start) others setup.workers
    left_any (inl one) = inl one
    left_any (inr dropped) = inr (subst LeftOwned (λ t b. same b t) dropped)

    -- so is what they find
    found_any : (answer : X) → Finds owner_of owners answer → Finds other_of others answer
    found_any answer (inl (several, by)) = inl (several, subst (JoinedOwned answer) (λ t b. same b t) by)
    found_any answer (inr (run, left)) = inr (alone_any setup.limit owner_of are owners other_of others_are others answer run, left_any left)

    pub found_so : (end : X → Ending) (result : Result X OutOfMemory) → IfOk result (Finds owner_of owners) → IfOk result (λ answer. Finds other_of others answer ⊎ IsFoundByOne gives end setup start answer)
    found_so end (Ok answer) found = inl (found_any answer found)
    found_so end (Err refused) found = found

-- what is read of a job by one worker alone
abbrev ReadAlone : {X : Type 0} (gives : WorldState → X → Type 0) (answers : Task → X → Type 0) (end : X → Ending) (parity : X) (p : JobModel) {S : Type 0} (owner_of : S → ℕ → BoardModel → ℕ) (owners : S) → Result X OutOfMemory → Type 0
ReadAlone gives answers end parity p owner_of owners result = IsAnswered parity (IsFoundAlone gives owner_of p owners) answers end p result

-- what one of the setup's workers finds within a limit is what a search may answer
pub searched_by_one : {X : Type 0} (gives : WorldState → X → Type 0) (answers : Task → X → Type 0) (end : X → Ending) (parity : X) (setup : SetupModel) (start : BoardModel) (limit : ℕ) {S : Type 0} (owner_of : S → ℕ → BoardModel → ℕ) → AreWorkers owner_of → (owners : S) (answer : X) → limit ≤ setup.limit → (2 ≤ setup.workers → limit ≤ ENOUGH_EXPANDED) → (limit ≡ setup.limit) ⊎ ((2 ≤ setup.workers) × IsNoBound (end answer)) → ReadAlone gives answers end parity (problem_within limit setup start) owner_of owners (Ok answer) → IsSearched gives answers end parity setup start (Ok answer)
searched_by_one gives answers end parity setup start limit owner_of are owners answer within few whole read =
    record {
      parity = read.parity;
      run = λ together. inr (limit, record { run = alone_any gives setup start limit owner_of are owners owner_by setup_owners setup.spread answer (read.run together); within = within; few = few; whole = whole });
      answers = read.answers;
      kept = read.kept;
    }

-- so is what the only one finds within the setup's limit
pub searched_alone : {X : Type 0} (gives : WorldState → X → Type 0) (answers : Task → X → Type 0) (end : X → Ending) (parity : X) (setup : SetupModel) (start : BoardModel) {S : Type 0} (owner_of : S → ℕ → BoardModel → ℕ) → AreWorkers owner_of → (owners : S) (result : Result X OutOfMemory) → setup.workers ≡ 1 → ReadAlone gives answers end parity (problem_of setup start) owner_of owners result → IsSearched gives answers end parity setup start result
searched_alone gives answers end parity setup start owner_of are owners (Ok answer) one read =
    searched_by_one gives answers end parity setup start setup.limit owner_of are owners answer (omega arith) (λ several. omega (arith, one, several)) (inl refl) read
searched_alone gives answers end parity setup start owner_of are owners (Err refused) one read =
    record { parity = read.parity; run = read.run; answers = read.answers; kept = read.kept }

-- the value of a result that has one
abbrev value_or : {X : Type 0} → X → Result X OutOfMemory → X
value_or other (Ok answer) = answer
value_or other (Err refused) = other

-- refused memory, where there might be an answer
abbrev error_of : {X : Type 0} → OutOfMemory → Result X OutOfMemory
error_of refused = Err refused

-- no error is the answer that parity has
is_no_error : {X : Type 0} (refused : OutOfMemory) (parity : X) → error_of refused ≡ Ok parity → ⊥
is_no_error refused parity e = absurd (cc)

module _ {X : Type 0} (answers : Task → X → Type 0) (is_of_run : X → Type 0) (parity : X) (setup : SetupModel) (start : BoardModel) where
  -- the board is answered so, or memory is refused
  abbrev pub Gives : Result X OutOfMemory → Type 0
  Gives (Ok answer) = AnswersBoard answers is_of_run parity setup start (Some answer)
  Gives (Err refused) = AnswersBoard answers is_of_run parity setup start None

  gives_so : (result : Result X OutOfMemory) → (¬ SameClass start setup.goal → result ≡ Ok parity) → (SameClass start setup.goal → IfOk result is_of_run) → IfOk result (answers (task_of_setup setup start)) → Gives result
  gives_so (Err refused) by_parity run answered = of_class (one_class start setup.goal)
    where
      of_class : SameClass start setup.goal ⊎ (¬ SameClass start setup.goal) → SameClass start setup.goal
      of_class (inl together) = together
      of_class (inr other) = absurd (is_no_error refused parity (by_parity other))
  gives_so (Ok answer) by_parity run answered = (answered, of_class (one_class start setup.goal))
    where
      of_class : SameClass start setup.goal ⊎ (¬ SameClass start setup.goal) → (SameClass start setup.goal × is_of_run answer) ⊎ ((¬ SameClass start setup.goal) × (answer ≡ parity))
      of_class (inl together) = inl (together, run together)
      of_class (inr other) = inr (other, ap (value_or answer) (by_parity other))

both : {X : Type 0} (P Q : X → Type 0) (result : Result X OutOfMemory) → IfOk result P → IfOk result Q → IfOk result (λ answer. P answer × Q answer)
both P Q (Ok answer) p q = (p, q)
both P Q (Err refused) p q = p

module _ (setup : SetupModel) (start : BoardModel) where
  -- what they find with figures, without these
  abbrev pub ending_of : Result EndingWithFigures OutOfMemory → Result Ending OutOfMemory
  ending_of (Ok found) = Ok found.ending
  ending_of (Err refused) = Err refused

  -- an ending is found where it is found with figures
  alone_ending : (limit : ℕ) (found : EndingWithFigures) → IsFoundAlone EndsWithFigures owner_by (problem_within limit setup start) setup.spread found → IsFoundAlone EndsIn owner_by (problem_within limit setup start) setup.spread found.ending
  alone_ending limit found (w, run, gives) = (w, run, gives.0)

  found_ending : (found : EndingWithFigures) → IsFound EndsWithFigures (λ it. it.ending) setup start found → IsFound EndsIn (λ it. it) setup start found.ending
  found_ending found (inl (inl (several, (w, joined, (kept, gives))))) = inl (inl (several, (w, joined, (kept, gives.0))))
  found_ending found (inl (inr (run, left))) = inl (inr (alone_ending setup.limit found run, left))
  found_ending found (inr (limit, it)) = inr (limit, record { run = alone_ending limit found it.run; within = it.within; few = it.few; whole = it.whole })

  -- what the setup's workers find of a board, with figures, is what its rules allow
  pub may_solve : (figures : Figures) (found : Result EndingWithFigures OutOfMemory) → (¬ SameClass start setup.goal → found ≡ Ok (record { ending = Unsolvable Parity; figures = figures })) → (SameClass start setup.goal → IfOk found (IsFound EndsWithFigures (λ it. it.ending) setup start)) → IfOk found (λ it. EndAnswers (task_of_setup setup start) it.ending) → IfOk found (λ it. EndsWholeRun it.ending) → Gives EndAnswers (IsOfRun setup start) (Unsolvable Parity) setup start (ending_of found)
  may_solve figures (Ok found) by_parity run answered kept =
      gives_so EndAnswers (IsOfRun setup start) (Unsolvable Parity) setup start (Ok found.ending) (λ other. ap ending_of (by_parity other)) (λ together. (found_ending found (run together), kept)) answered
  may_solve figures (Err refused) by_parity run answered kept =
      gives_so EndAnswers (IsOfRun setup start) (Unsolvable Parity) setup start (Err refused) (λ other. ap ending_of (by_parity other)) (λ together. run together) answered

  -- so is what one of them ends, within a limit
  pub may_end : (limit : ℕ) {S : Type 0} (owner_of : S → ℕ → BoardModel → ℕ) → AreWorkers owner_of → (owners : S) (figures : Figures) (found : EndingWithFigures) → limit ≤ setup.limit → (2 ≤ setup.workers → limit ≤ ENOUGH_EXPANDED) → (limit ≡ setup.limit) ⊎ ((2 ≤ setup.workers) × IsNoBound found.ending) → (¬ SameClass start setup.goal → ◌≡◌ {A = Result EndingWithFigures OutOfMemory} (Ok found) (Ok (record { ending = Unsolvable Parity; figures = figures }))) → (SameClass start setup.goal → IsFoundAlone EndsWithFigures owner_of (problem_within limit setup start) owners found) → EndAnswers (task_of_setup setup start) found.ending → EndsWholeRun found.ending → MayAnswer setup start (Some found.ending)
  may_end limit owner_of are owners figures found within few whole by_parity run answered kept =
      gives_so EndAnswers (IsOfRun setup start) (Unsolvable Parity) setup start (Ok found.ending) (λ other. ap ending_of (by_parity other)) (λ together. (inr (by_one (run together)), kept)) answered
    where
      alone : IsFoundAlone EndsWithFigures owner_of (problem_within limit setup start) owners found → IsFoundAlone EndsIn owner_of (problem_within limit setup start) owners found.ending
      alone (w, run, gives) = (w, run, gives.0)

      by_one : IsFoundAlone EndsWithFigures owner_of (problem_within limit setup start) owners found → IsFoundByOne EndsIn (λ it. it) setup start found.ending
      by_one run = (limit, record { run = alone_any EndsIn setup start limit owner_of are owners owner_by setup_owners setup.spread found.ending (alone run); within = within; few = few; whole = whole })

  -- the stats of what is found, by the setup's workers or by one
  has_stats : (found : EndingWithFigures) (solved : Solved) → (¬ SameClass start setup.goal → found.figures ≡ record { expanded = 0; known = 0 }) → (SameClass start setup.goal → IsFound EndsWithFigures (λ it. it.ending) setup start found) → solved.ending ≡ found.ending → AreStatsOf setup start found.figures solved.stats → HasStats setup start solved
  has_stats found solved apart run same stats = (found.figures, subst (λ (ending : Ending). AreFiguresOfRun setup start ending found.figures) (sym same) (record { run = run; apart = apart }), stats)

  -- where there is no run nothing was expanded
  no_run_figures : (found : EndingWithFigures) → (¬ SameClass start setup.goal → ◌≡◌ {A = Result EndingWithFigures OutOfMemory} (Ok found) (Ok (record { ending = Unsolvable Parity; figures = record { expanded = 0; known = 0 } }))) → ¬ SameClass start setup.goal → found.figures ≡ record { expanded = 0; known = 0 }
  no_run_figures found by_parity other = ap (λ (it : EndingWithFigures). it.figures) (ap (value_or found) (by_parity other))

  pub workers_have_stats : (found : EndingWithFigures) (solved : Solved) → (¬ SameClass start setup.goal → ◌≡◌ {A = Result EndingWithFigures OutOfMemory} (Ok found) (Ok (record { ending = Unsolvable Parity; figures = record { expanded = 0; known = 0 } }))) → (SameClass start setup.goal → IsFound EndsWithFigures (λ it. it.ending) setup start found) → solved.ending ≡ found.ending → AreStatsOf setup start found.figures solved.stats → HasStats setup start solved
  workers_have_stats found solved by_parity run same stats = has_stats found solved (no_run_figures found by_parity) run same stats

  pub one_has_stats : (limit : ℕ) {S : Type 0} (owner_of : S → ℕ → BoardModel → ℕ) → AreWorkers owner_of → (owners : S) (found : EndingWithFigures) (solved : Solved) → limit ≤ setup.limit → (2 ≤ setup.workers → limit ≤ ENOUGH_EXPANDED) → (limit ≡ setup.limit) ⊎ ((2 ≤ setup.workers) × IsNoBound found.ending) → (¬ SameClass start setup.goal → ◌≡◌ {A = Result EndingWithFigures OutOfMemory} (Ok found) (Ok (record { ending = Unsolvable Parity; figures = record { expanded = 0; known = 0 } }))) → (SameClass start setup.goal → IsFoundAlone EndsWithFigures owner_of (problem_within limit setup start) owners found) → solved.ending ≡ found.ending → AreStatsOf setup start found.figures solved.stats → HasStats setup start solved
  one_has_stats limit owner_of are owners found solved within few whole by_parity run same stats = has_stats found solved (no_run_figures found by_parity) (λ together. inr (by_one (run together))) same stats
    where
      by_one : IsFoundAlone EndsWithFigures owner_of (problem_within limit setup start) owners found → IsFoundByOne EndsWithFigures (λ it. it.ending) setup start found
      by_one run = (limit, record { run = alone_any EndsWithFigures setup start limit owner_of are owners owner_by setup_owners setup.spread found run; within = within; few = few; whole = whole })

  -- one worker expands no more than it is allowed
  pub one_is_few : (limit most : ℕ) {S : Type 0} (owner_of : S → ℕ → BoardModel → ℕ) (owners : S) (found : EndingWithFigures) (stats : Stats) → limit ≤ most → (¬ SameClass start setup.goal → ◌≡◌ {A = Result EndingWithFigures OutOfMemory} (Ok found) (Ok (record { ending = Unsolvable Parity; figures = record { expanded = 0; known = 0 } }))) → (SameClass start setup.goal → IsFoundAlone EndsWithFigures owner_of (problem_within limit setup start) owners found) → AreStatsOf setup start found.figures stats → stats.expanded ≤ most
  one_is_few limit most owner_of owners found stats low by_parity run are = by_class (one_class start setup.goal)
    where
      cut : (w : WorldState) → expansion_count w ≤ limit → found.figures.expanded ≡ expansion_count w → stats.expanded ≤ most
      cut w few is = let e = are.expanded in omega (arith, few, low, is, e)

      by_one : IsFoundAlone EndsWithFigures owner_of (problem_within limit setup start) owners found → stats.expanded ≤ most
      by_one (w, run, gives) = cut w run.within_limit gives.1.expanded

      by_class : SameClass start setup.goal ⊎ (¬ SameClass start setup.goal) → stats.expanded ≤ most
      by_class (inl together) = by_one (run together)
      by_class (inr other) = let e = are.expanded in let none : found.figures.expanded ≡ 0 = ap (λ (f : Figures). f.expanded) (no_run_figures found by_parity other) in omega (arith, e, none)

  -- for a board of the other class memory is never refused
  pub may_refuse : {X : Type 0} (refused : OutOfMemory) (parity : X) → (¬ SameClass start setup.goal → error_of refused ≡ Ok parity) → MayAnswer setup start None
  may_refuse refused parity by_parity = of_class (one_class start setup.goal)
    where
      of_class : SameClass start setup.goal ⊎ (¬ SameClass start setup.goal) → SameClass start setup.goal
      of_class (inl together) = together
      of_class (inr other) = absurd (is_no_error refused parity (by_parity other))

  -- nor is such a board ended by a bound
  pub may_lack : (figures : Figures) (found : EndingWithFigures) → (¬ SameClass start setup.goal → ◌≡◌ {A = Result EndingWithFigures OutOfMemory} (Ok found) (Ok (record { ending = Unsolvable Parity; figures = figures }))) → LacksMemory found.ending → MayAnswer setup start None
  may_lack figures found by_parity (bound, best, want, is) = of_class (one_class start setup.goal)
    where
      of_class : SameClass start setup.goal ⊎ (¬ SameClass start setup.goal) → SameClass start setup.goal
      of_class (inl together) = together
      of_class (inr other) = let parity : found.ending ≡ Unsolvable Parity = ap (λ (it : EndingWithFigures). it.ending) (ap (value_or found) (by_parity other)) in absurd (cc)

  -- whatever bound it is
  pub may_leave : (figures : Figures) (found : EndingWithFigures) → (¬ SameClass start setup.goal → ◌≡◌ {A = Result EndingWithFigures OutOfMemory} (Ok found) (Ok (record { ending = Unsolvable Parity; figures = figures }))) → ¬ IsNoBound found.ending → MayAnswer setup start None
  may_leave figures found by_parity bound = of_class (one_class start setup.goal)
    where
      of_class : SameClass start setup.goal ⊎ (¬ SameClass start setup.goal) → SameClass start setup.goal
      of_class (inl together) = together
      of_class (inr other) = let parity : found.ending ≡ Unsolvable Parity = ap (λ (it : EndingWithFigures). it.ending) (ap (value_or found) (by_parity other)) in absurd (bound (subst IsNoBound (sym parity) tt))

  -- a board is too hard where one worker finds a bound within that limit, and memory was there
  pub left_too_hard : (limit : ℕ) {S : Type 0} (owner_of : S → ℕ → BoardModel → ℕ) → AreWorkers owner_of → (owners : S) (figures : Figures) (found : EndingWithFigures) → limit ≡ ENOUGH_EXPANDED → ENOUGH_EXPANDED < setup.limit → (¬ SameClass start setup.goal → ◌≡◌ {A = Result EndingWithFigures OutOfMemory} (Ok found) (Ok (record { ending = Unsolvable Parity; figures = figures }))) → (SameClass start setup.goal → IsFoundAlone EndsWithFigures owner_of (problem_within limit setup start) owners found) → ¬ IsNoBound found.ending → ¬ LacksMemory found.ending → IsTooHard setup start
  left_too_hard limit owner_of are owners figures found enough more by_parity run bound whole = record {
    found = found;
    run = subst (λ (k : ℕ). IsFoundAlone EndsWithFigures owner_by (problem_within k setup start) setup.spread found) enough (alone_any EndsWithFigures setup start limit owner_of are owners owner_by setup_owners setup.spread found (run (may_leave figures found by_parity bound)));
    bound = bound;
    whole = whole;
    more = more;
  }

  -- what they find with rows is what its rules allow too
  pub may_prove : (result : Result Outcome OutOfMemory) → (result ≡ Ok (outcome.Unsolvable Parity)) ↔ (¬ SameClass start setup.goal) → (SameClass start setup.goal → IfOk result (IsFound IsGiven without_rows setup start)) → IfOk result (Answers (task_of_setup setup start)) → IfOk result HasWholeRun → MayProve (certifying_rules_of setup) start result
  may_prove result by_parity run answered kept =
      as_rules result (gives_so Answers (IsOfProvedRun setup start) (outcome.Unsolvable Parity) setup start result by_parity.1 (λ together. both (IsFound IsGiven without_rows setup start) HasWholeRun result (run together) kept) answered)
    where
      as_rules : (result : Result Outcome OutOfMemory) → Gives Answers (IsOfProvedRun setup start) (outcome.Unsolvable Parity) setup start result → MayProve (certifying_rules_of setup) start result
      as_rules (Ok given) allowed = allowed
      as_rules (Err refused) allowed = allowed

-- what a setup allows is true
pub setup_truthful : (setup : SetupModel) → IsTruthful (rules_of setup)
setup_truthful setup b ending allowed = allowed.0

pub parity_certified : ParityIsCertified
parity_certified setup b apart = ((λ together. apart together), by_class)
  where
    by_class : (o : Outcome) → MayCertify setup b (Some o) → o ≡ outcome.Unsolvable Parity
    by_class o (answers, inl (together, run)) = absurd (apart together)
    by_class o (answers, inr (other, is)) = is

-- with its rows an outcome is an ending too; a bound without rows is alone, since it answers its task
pub certified_answered : CertifiedEndsAreAnswered
certified_answered setup b o (answers, inr (other, is)) = inl (ends_answered (task_of_setup setup b) o answers, inr (other, ap without_rows is))
certified_answered setup b o (answers, inl (together, (solved, kept))) = by_rows o answers solved kept
  where
    alone : (o : Outcome) (limit : ℕ) → HasItsRows o → IsFoundAlone IsGiven owner_by (problem_within limit setup b) setup.spread o → IsFoundAlone EndsIn owner_by (problem_within limit setup b) setup.spread (without_rows o)
    alone o limit has run = one_alone EndsIn owner_by (problem_within limit setup b) setup.spread (without_rows o) (solved_ends owner_by (problem_within limit setup b) setup.spread 1 o (inr (run, inl refl)) has)

    found : (o : Outcome) → HasItsRows o → IsFound IsGiven without_rows setup b o → IsFound EndsIn (λ it. it) setup b (without_rows o)
    found o has (inl solved) = inl (solved_ends owner_by (problem_of setup b) setup.spread setup.workers o solved has)
    found o has (inr (limit, it)) = inr (limit, record { run = alone o limit has it.run; within = it.within; few = it.few; whole = it.whole })

    ends : (o : Outcome) → HasItsRows o → Answers (task_of_setup setup b) o → IsFound IsGiven without_rows setup b o → HasWholeRun o → MayAnswer setup b (Some (without_rows o))
    ends o has answers solved kept = (ends_answered (task_of_setup setup b) o answers, inl (together, (found o has solved, kept)))

    by_rows : (o : Outcome) → Answers (task_of_setup setup b) o → IsFound IsGiven without_rows setup b o → HasWholeRun o → MayAnswer setup b (Some (without_rows o)) ⊎ IsAloneBound o
    by_rows (outcome.Optimal cost plan rows) answers solved kept = inl (ends (outcome.Optimal cost plan rows) tt answers solved kept)
    by_rows (outcome.Unsolvable why) answers solved kept = inl (ends (outcome.Unsolvable why) tt answers solved kept)
    by_rows (outcome.Bounded bound best cause (Some rows)) answers solved kept = inl (ends (outcome.Bounded bound best cause (Some rows)) refl answers solved kept)
    by_rows (outcome.Bounded bound best cause None) answers solved kept = inr (refl, answers.1)

-- ---- What lanes have of boards that are solved ahead.

module _ (setup : SetupModel) where
  -- an empty lane has none
  pub no_tried : (lane : Vec Tried Global) → lane.items ≡ [] → AreTried setup lane
  no_tried lane is = subst (All (IsTried setup)) (sym is) (All-nil (IsTried setup))

  -- a lane has one more, if it was pushed
  pub tried_more : (lane new : Vec Tried Global) (it : Tried) (pushed : Bool) → new.items ≡ (if pushed then lane.items ++ it ∷ [] else lane.items) → AreTried setup lane → IsTried setup it → AreTried setup new
  tried_more lane new it true is tried may = subst (All (IsTried setup)) (sym is) (All-push (IsTried setup) lane.items it tried may)
  tried_more lane new it false is tried may = subst (All (IsTried setup)) (sym is) tried
