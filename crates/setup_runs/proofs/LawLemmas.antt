-- The bounds that a board may be answered.
use Rattle.std.proofs.Common.{Some, arith, ℕ, ◌≡◌, ◌<◌, ◌≤◌, ◌+◌, ◌*◌, ◌++◌, List, Option, Vec, ◌∙◌, ◌⊎◌, refl, ap, subst, inl, inr}
use Rattle.std.specs.declared.alloc.Global.{Global}
use Rattle.board.specs.declared.moves.Move.{Move}
use Rattle.board.specs.Boards.{BoardModel}
use Rattle.outcomes.specs.declared.outcome.Ending.{Ending}
use Rattle.outcomes.specs.declared.outcome.Ending.TheVariants.{Optimal, Unsolvable, Bounded}
use Rattle.world_model.specs.declared.steps.Refusal.{Refusal}
use Rattle.world_model.specs.declared.steps.Step.{Step}
use Rattle.world_model.specs.Openings.{opening}
use Rattle.world_model.specs.Steps.{IsRun}
use Rattle.world_model.specs.Worlds.{WorldState}
use Rattle.world_ends.specs.Endings.{EndsIn}
use Rattle.world_ends.specs.Readings.{EndsWithFigures}
use Rattle.hda_run.specs.Alone.{IsFoundAlone, IsRunAlone}
use Rattle.outcomes.specs.declared.outcome.Cause.{Cause}
use Rattle.outcomes.specs.declared.outcome.Cause.TheVariants.{Limit, Memory}
use Rattle.outcomes.specs.declared.outcome.Want.{Want}
use Rattle.hda_run.specs.Worlds.{job_of}
use Rattle.world_model.specs.Credit.{expansion_count}
use Rattle.world_model.specs.declared.limits.TheConstants.{GREATEST_GRANT}
use Rattle.world_ends.proofs.PartLemmas.{ends_bounded}
use Rattle.world_model.proofs.KeptLemmas.{causes_stop}
use Rattle.world_model.proofs.RunLemmas.{run_alike}
use Rattle.world_model.specs.Outcomes.{IsGiven}
use Rattle.outcomes.specs.Endings.{without_rows}
use Rattle.batch_runs.specs.Setups.{SetupModel, owner_by, task_of_setup}
use Rattle.setup_runs.specs.Ahead.{LacksMemory}
use Rattle.thread_runs.specs.Threads.{IsFoundByThreads}
use Rattle.setup_runs.specs.Laws.{AnswersAreOfWorlds, AnswersAreReached, IsReachedAlone, RulesAreTheSetups, CertifyingRulesAreTheSetups, CertifiedOutcomesAreOfWorlds, HardBoardsAreShared, HardBoardsAreBounded, EndedAloneIsWhole, MemoryIsLacked, StatsAreOfTheSetups, job_alone, BoundsAreNeverCut, LimitsAreTheSetups, LimitsAreNearlySpent, StatsAreOfWorlds, StatsAreWithinTheLimit, FiguresAreOfBoards}
use Rattle.std.specs.FinMap as map
use Rattle.std.specs.Prelude.{min, ◌^◌, ◌-◌, sum_by}
use Rattle.board.specs.Classes.{SameClass}
use Rattle.world_ends.specs.declared.figures.Figures.{Figures}
use Rattle.world_ends.specs.declared.reading.EndingWithFigures.{EndingWithFigures}
use Rattle.batch_runs.specs.declared.stats.Solved.{Solved}
use Rattle.setup_runs.specs.Solving.{problem_of, problem_within, IsFound, IsFoundByOne, IsFoundWithin, IsNoBound}
use Rattle.hda_run.proofs.LawLemmas.{one_class}

-- the world of a run by one worker has the board's task
task_alone : (limit : ℕ) (setup : SetupModel) (b : BoardModel) (w : WorldState) → IsRunAlone (job_of owner_by (problem_within limit setup b) setup.spread 1) w → w.task ≡ task_of_setup setup b
task_alone limit setup b w run = (run_alike (opening (job_of owner_by (problem_within limit setup b) setup.spread 1) run.via) (run.first ++ run.last) w run.run).0

-- what is found is of a world of the board's task
found_of_world :
    {X : Type 0} (gives : WorldState → X → Type 0) (end : X → Ending) (setup : SetupModel) (b : BoardModel) (answer : X)
    → IsFound gives end setup b answer
    → (w : WorldState) × (w.task ≡ task_of_setup setup b) × gives w answer × (expansion_count w ≤ setup.limit)
found_of_world {X} gives end setup b answer = by_run
  where
    alone : (limit : ℕ) → limit ≤ setup.limit → IsFoundAlone gives owner_by (problem_within limit setup b) setup.spread answer → (w : WorldState) × (w.task ≡ task_of_setup setup b) × gives w answer × (expansion_count w ≤ setup.limit)
    alone limit within (w, run, given) = (w, task_alone limit setup b w run, given, (let few : expansion_count w ≤ limit = run.within_limit in omega (arith, few, within)))

    by_run : IsFound gives end setup b answer → (w : WorldState) × (w.task ≡ task_of_setup setup b) × gives w answer × (expansion_count w ≤ setup.limit)
    by_run (inl (inl (several, (w, joined, (kept, given))))) = (w, joined.task, given, joined.within_limit)
    by_run (inl (inr (run, left))) = alone setup.limit (omega arith) run
    by_run (inr (limit, found)) = alone limit found.within found.run

pub answers_of_worlds : AnswersAreOfWorlds
answers_of_worlds setup b ending same (answers, inl (together, run)) = found_of_world EndsIn (λ it. it) setup b ending run.0
answers_of_worlds setup b ending same (answers, inr (other, is)) = absurd (other same)

pub answers_reached : AnswersAreReached
answers_reached setup b ending same (answers, inl (together, run)) = by_run run.0
  where
    alone : (limit : ℕ) → limit ≤ setup.limit → IsFoundAlone EndsIn owner_by (problem_within limit setup b) setup.spread ending → IsReachedAlone setup b ending
    alone limit within (w, run, given) = record { limit = limit; via = run.via; made = run.first ++ run.last; world = w; within = within; run = run.run; ends = given }

    by_run : IsFound EndsIn (λ it. it) setup b ending → IsFoundByThreads EndsIn owner_by (problem_of setup b) setup.spread setup.workers (Some ending) ⊎ IsReachedAlone setup b ending
    by_run (inl (inl (several, by))) = inl by
    by_run (inl (inr (run, left))) = inr (alone setup.limit (omega arith) run)
    by_run (inr (limit, found)) = inr (alone limit found.within found.run)
answers_reached setup b ending same (answers, inr (other, is)) = absurd (other same)

pub rules_of_setups : RulesAreTheSetups
rules_of_setups setup b = (refl, refl, λ it. (λ a. a, λ a. a))

pub certifying_rules : CertifyingRulesAreTheSetups
certifying_rules setup b = (refl, refl, λ it. (λ a. a, λ a. a))

pub certified_of_worlds : CertifiedOutcomesAreOfWorlds
certified_of_worlds setup b given same (answers, inl (together, run)) = found_of_world IsGiven without_rows setup b given run.0
certified_of_worlds setup b given same (answers, inr (other, is)) = absurd (other same)

-- what one worker finds within a limit took no more expansions
spent_alone :
    (limit : ℕ) (setup : SetupModel) (start : BoardModel) (found : EndingWithFigures)
    → IsFoundAlone EndsWithFigures owner_by (problem_within limit setup start) setup.spread found
    → found.figures.expanded ≤ limit
spent_alone limit setup start found (w, run, gives) =
    let within : expansion_count w ≤ limit = run.within_limit in
    let is : found.figures.expanded ≡ expansion_count w = gives.1.expanded in
    omega (arith, within, is)

-- one of several workers ends no hard board
not_too_hard :
    (limit : ℕ) (setup : SetupModel) (found : EndingWithFigures)
    → limit ≤ 2000000
    → found.figures.expanded ≤ limit
    → (2000000 < found.figures.expanded) ⊎ ((2000000 < setup.limit) × (¬ IsNoBound found.ending))
    → (limit ≡ setup.limit) ⊎ ((2 ≤ setup.workers) × IsNoBound found.ending)
    → ⊥
not_too_hard limit setup found few spent (inl many) whole = absurd (omega (arith, few, spent, many))
not_too_hard limit setup found few spent (inr (more, bound)) (inl e) = absurd (omega (arith, few, more, e))
not_too_hard limit setup found few spent (inr (more, bound)) (inr (others, none)) = bound none

pub hard_shared : HardBoardsAreShared
hard_shared setup start found several (inl shared) hard = shared
hard_shared setup start found several (inr (limit, by)) hard =
    absurd (not_too_hard limit setup found (by.few several) (spent_alone limit setup start found by.run) hard by.whole)

pub hard_bounded : HardBoardsAreBounded
hard_bounded setup start hard = by_run hard.run
  where
    by_run : IsFoundAlone EndsWithFigures owner_by (problem_within 2000000 setup start) setup.spread hard.found → (2000000 < setup.limit) × (w : WorldState) × (ending : Ending) × (w.task ≡ task_of_setup setup start) × EndsIn w ending × (¬ IsNoBound ending) × (¬ LacksMemory ending) × (expansion_count w ≤ 2000000) × ((bound : ℕ) (best : Option (ℕ × Vec Move Global)) → ending ≡ Bounded bound best Limit → expansion_count w ≡ 2000000)
    by_run (w, run, gives) = (hard.more, w, hard.found.ending, task_alone 2000000 setup start w run, gives.0, hard.bound, hard.whole, run.within_limit, λ bound best is. run.spent ((causes_stop w bound best Limit (ends_bounded w bound best Limit (subst (EndsIn w) is gives.0))).0 refl))

pub never_cut : BoundsAreNeverCut
never_cut setup b bound best cause (answers, inl (same, run)) = run.1
never_cut setup b bound best cause (answers, inr (other, is)) = absurd (cc)

-- what one worker ends is of steps that have expanded just as many boards
limits_alone :
    (setup : SetupModel) (b : BoardModel) (bound : ℕ) (best : Option (ℕ × Vec Move Global))
    → IsFoundAlone EndsIn owner_by (problem_of setup b) setup.spread (Bounded bound best Limit)
    → (via : Move) × (made : List (Step × Option Refusal)) × (w : WorldState)
    × IsRun (opening (job_alone setup b) via) made w × EndsIn w (Bounded bound best Limit) × (expansion_count w ≡ setup.limit)
limits_alone setup b bound best (w, run, given) =
    (run.via, run.first ++ run.last, w, run.run, given, run.spent ((causes_stop w bound best Limit (ends_bounded w bound best Limit given)).0 refl))

-- where one worker ends a board with a bound, its limit is the setup's
bounds_alone :
    (setup : SetupModel) (b : BoardModel) (bound : ℕ) (best : Option (ℕ × Vec Move Global))
    → IsFoundByOne EndsIn (λ it. it) setup b (Bounded bound best Limit)
    → IsFoundAlone EndsIn owner_by (problem_of setup b) setup.spread (Bounded bound best Limit)
bounds_alone setup b bound best (limit, found) = by_limit found.whole
  where
    by_limit : (limit ≡ setup.limit) ⊎ ((2 ≤ setup.workers) × IsNoBound (Bounded bound best Limit)) → IsFoundAlone EndsIn owner_by (problem_of setup b) setup.spread (Bounded bound best Limit)
    by_limit (inl e) = subst (λ (k : ℕ). IsFoundAlone EndsIn owner_by (problem_within k setup b) setup.spread (Bounded bound best Limit)) e found.run
    by_limit (inr (several, none)) = absurd none

pub limits : LimitsAreTheSetups
limits setup b bound best one (answers, inl (same, (inl (inl (several, by)), kept))) = absurd (omega (arith, one, several))
limits setup b bound best one (answers, inl (same, (inl (inr (run, left)), kept))) = limits_alone setup b bound best run
limits setup b bound best one (answers, inl (same, (inr run, kept))) = limits_alone setup b bound best (bounds_alone setup b bound best run)
limits setup b bound best one (answers, inr (other, is)) = absurd (cc)

-- where all of the limit is spent, it is at most what is spent and more
all_spent : (limit spent more : ℕ) → spent ≡ limit → limit ≤ spent + more
all_spent limit spent more e = omega (arith, e)

nearly_alone :
    (setup : SetupModel) (b : BoardModel) (bound : ℕ) (best : Option (ℕ × Vec Move Global))
    → IsFoundAlone EndsIn owner_by (problem_of setup b) setup.spread (Bounded bound best Limit)
    → (w : WorldState) × (w.task ≡ task_of_setup setup b) × EndsIn w (Bounded bound best Limit)
    × (expansion_count w ≤ setup.limit) × (setup.limit ≤ expansion_count w + GREATEST_GRANT * setup.workers)
nearly_alone setup b bound best (w, run, given) =
    (w, task_alone setup.limit setup b w run, given, run.within_limit, all_spent setup.limit (expansion_count w) (GREATEST_GRANT * setup.workers) (run.spent ((causes_stop w bound best Limit (ends_bounded w bound best Limit given)).0 refl)))

pub limits_nearly : LimitsAreNearlySpent
limits_nearly setup b bound best (answers, inl (same, (inl (inl (several, (w, joined, (kept_world, given)))), kept))) =
    (w, joined.task, given, joined.within_limit, (joined.at_limit ((causes_stop w bound best Limit (ends_bounded w bound best Limit given)).0 refl)).1)
limits_nearly setup b bound best (answers, inl (same, (inl (inr (run, left)), kept))) = nearly_alone setup b bound best run
limits_nearly setup b bound best (answers, inl (same, (inr run, kept))) = nearly_alone setup b bound best (bounds_alone setup b bound best run)
limits_nearly setup b bound best (answers, inr (other, is)) = absurd (cc)

-- the stats count what a world of the board's task has expanded, and knows, and this world ends so
abbrev Counts : SetupModel → BoardModel → Solved → Type 0
Counts setup start solved = (w : WorldState) × (w.task ≡ task_of_setup setup start) × EndsIn w solved.ending × (solved.stats.expanded ≡ min (expansion_count w) (2 ^ 64 - 1)) × (solved.stats.known ≡ min (sum_by (λ worker. map.len worker.known) w.workers) (2 ^ 64 - 1))

pub stats_of_worlds : StatsAreOfWorlds
stats_of_worlds setup start solved (figures, of_run, stats) = (of_world, no_run, stats.start_sum)
  where
    counted : (w : WorldState) → w.task ≡ task_of_setup setup start → EndsWithFigures w (record { ending = solved.ending; figures = figures }) → Counts setup start solved
    counted w task gives = (w, task, gives.0, stats.expanded ∙ ap (λ k. min k (2 ^ 64 - 1)) gives.1.expanded, stats.known ∙ ap (λ k. min k (2 ^ 64 - 1)) gives.1.known)

    by_one : (limit : ℕ) → IsFoundAlone EndsWithFigures owner_by (problem_within limit setup start) setup.spread (record { ending = solved.ending; figures = figures }) → Counts setup start solved
    by_one limit (w, run, gives) = counted w (task_alone limit setup start w run) gives

    by_run : IsFound EndsWithFigures (λ it. it.ending) setup start (record { ending = solved.ending; figures = figures }) → Counts setup start solved
    by_run (inl (inl (several, (w, joined, (kept, gives))))) = counted w joined.task gives
    by_run (inl (inr (run, left))) = by_one setup.limit run
    by_run (inr (limit, found)) = by_one limit found.run

    of_world : SameClass start setup.goal → Counts setup start solved
    of_world together = by_run (of_run.run together)

    no_run : (¬ SameClass start setup.goal) → (solved.stats.expanded ≡ 0) × (solved.stats.known ≡ 0)
    no_run other = (stats.expanded ∙ ap (λ (f : Figures). min f.expanded (2 ^ 64 - 1)) (of_run.apart other), stats.known ∙ ap (λ (f : Figures). min f.known (2 ^ 64 - 1)) (of_run.apart other))

-- so do those of one worker, whose steps begin at the opening world
abbrev CountsAlone : SetupModel → BoardModel → Solved → Type 0
CountsAlone setup start solved =
    (via : Move) × (made : List (Step × Option Refusal)) × (w : WorldState)
    × IsRun (opening (job_alone setup start) via) made w × EndsIn w solved.ending × (solved.stats.expanded ≡ min (expansion_count w) (2 ^ 64 - 1))

pub stats_of_setups : StatsAreOfTheSetups
stats_of_setups setup start solved one together (figures, of_run, stats) = by_run (of_run.run together)
  where
    by_one : IsFoundAlone EndsWithFigures owner_by (problem_of setup start) setup.spread (record { ending = solved.ending; figures = figures }) → CountsAlone setup start solved
    by_one (w, run, gives) = (run.via, run.first ++ run.last, w, run.run, gives.0, stats.expanded ∙ ap (λ k. min k (2 ^ 64 - 1)) gives.1.expanded)

    by_limit : (limit : ℕ) → IsFoundWithin EndsWithFigures (λ it. it.ending) setup start (record { ending = solved.ending; figures = figures }) limit → (limit ≡ setup.limit) ⊎ ((2 ≤ setup.workers) × IsNoBound solved.ending) → CountsAlone setup start solved
    by_limit limit found (inl e) = by_one (subst (λ (k : ℕ). IsFoundAlone EndsWithFigures owner_by (problem_within k setup start) setup.spread (record { ending = solved.ending; figures = figures })) e found.run)
    by_limit limit found (inr (several, none)) = absurd (omega (arith, one, several))

    by_run : IsFound EndsWithFigures (λ it. it.ending) setup start (record { ending = solved.ending; figures = figures }) → CountsAlone setup start solved
    by_run (inl (inl (several, by))) = absurd (omega (arith, one, several))
    by_run (inl (inr (run, left))) = by_one run
    by_run (inr (limit, found)) = by_limit limit found found.whole

-- no more is expanded than the setup's limit
pub stats_within_limits : StatsAreWithinTheLimit
stats_within_limits setup start solved (figures, of_run, stats) = by_class (one_class start setup.goal)
  where
    cut : (limit : ℕ) (w : WorldState) → expansion_count w ≤ limit → limit ≤ setup.limit → figures.expanded ≡ expansion_count w → solved.stats.expanded ≤ setup.limit
    cut limit w few within is = let e = stats.expanded in omega (arith, few, within, is, e)

    by_one : (limit : ℕ) → limit ≤ setup.limit → IsFoundAlone EndsWithFigures owner_by (problem_within limit setup start) setup.spread (record { ending = solved.ending; figures = figures }) → solved.stats.expanded ≤ setup.limit
    by_one limit within (w, run, gives) = cut limit w run.within_limit within gives.1.expanded

    by_run : IsFound EndsWithFigures (λ it. it.ending) setup start (record { ending = solved.ending; figures = figures }) → solved.stats.expanded ≤ setup.limit
    by_run (inl (inl (several, (w, joined, (kept, gives))))) = cut setup.limit w joined.within_limit (omega arith) gives.1.expanded
    by_run (inl (inr (run, left))) = by_one setup.limit (omega arith) run
    by_run (inr (limit, found)) = by_one limit found.within found.run

    by_class : SameClass start setup.goal ⊎ (¬ SameClass start setup.goal) → solved.stats.expanded ≤ setup.limit
    by_class (inl together) = by_run (of_run.run together)
    by_class (inr other) = let e = stats.expanded in let none : figures.expanded ≡ 0 = ap (λ (f : Figures). f.expanded) (of_run.apart other) in omega (arith, e, none)

pub figures_of_boards : FiguresAreOfBoards
figures_of_boards id stats (setup, line, b, ending, entry, has) =
    let solved : Solved = record { ending = ending; stats = stats } in
    (setup, line, b, entry, (stats_of_worlds setup b solved has).2, stats_within_limits setup b solved has)

-- the cause of an ending, where it is a bound, or else another one
abbrev cause_or : Cause → Ending → Cause
cause_or other (Bounded bound best cause) = cause
cause_or other (Optimal cost plan) = other
cause_or other (Unsolvable why) = other

pub memory_lacked : MemoryIsLacked
memory_lacked = ((λ bound best want. (bound, best, want, refl)), by_cause)
  where
    by_cause : (bound : ℕ) (best : Option (ℕ × Vec Move Global)) (cause : Cause) → LacksMemory (Bounded bound best cause) → (want : Want) × (cause ≡ Memory want)
    by_cause bound best cause (other, plan, want, is) = (want, ap (cause_or cause) is)

pub ended_whole : EndedAloneIsWhole
ended_whole solved alone = (alone.0, λ bound best want is. alone.1 (bound, best, want, is))
