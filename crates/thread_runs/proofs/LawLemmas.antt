-- The parts of a run, one after another, and what n workers answer.
use Rattle.std.proofs.Common.{◌≡◌, ℕ, refl, sym, ◌∙◌, subst, inr, Option, Some, None, replicate, zero, suc, List, [], ◌∷◌, ◌++◌, map, length, ap, arith, ◌≤◌, ◌+◌, ◌*◌, inl}
use Rattle.std.specs.Prelude.{IfNone, IfSome, slice_get, slice_index_or, option_map}
use Rattle.std.proofs.lemmas.Option.{none-some, slice_get-map, get_or_from_slice_get}
use Rattle.thread_parts.specs.Rings.{Ring, ArePaired}
use Rattle.hda_run.specs.Jobs.{JobModel, task_in}
use Rattle.thread_parts.specs.Parts.{SealedModel, face}
use Rattle.thread_runs.specs.Threads.{IsJoint, IsJoined, IsFoundByThreads}
use Rattle.std.proofs.lemmas.List.{length-replicate, length-set}
use Rattle.board.specs.declared.moves.Move.TheVariants.{U}
use Rattle.board.specs.Boards.{BoardModel}
use Rattle.board.specs.Rows.{IsLowerBound}
use Rattle.owners.specs.Owners.{AreWorkers}
use Rattle.outcomes.specs.Outcomes.{Task, Answers}
use Rattle.outcomes.specs.declared.outcome.Want.TheVariants.{Stated, Refused}
use Rattle.outcomes.specs.declared.outcome.Ending.{Ending}
use Rattle.outcomes.specs.declared.outcome.Ending.TheVariants.{Optimal, Unsolvable, Bounded}
use Rattle.world_model.specs.Openings.{IsJob, opening, idle_worker, first_worker}
use Rattle.world_model.specs.Shapes.{IsTask}
use Rattle.world_model.specs.Worlds.{WorldState}
use Rattle.world_model.proofs.RunLemmas.{expansions_limited, openings_sound, quiet_true, run_alike, runs_sound}
use Rattle.world_ends.specs.Readings.{BoundsAreOfWorlds, HasBoundOf, WorldsAnswer}
use Rattle.world_model.proofs.KeptLemmas.{kept_never_cut, causes_stop}
use Rattle.hda_run.specs.WholeRuns.{EndsWholeRun, IsOfWholeRun}
use Rattle.hda_run.specs.Worlds.{job_of, IsWorkerCount}
use Rattle.hda_run.proofs.LawLemmas.{never_stated}
use Rattle.thread_runs.proofs.WorldLemmas.{joined_answers}
use Rattle.thread_runs.proofs.TakenLemmas.{some_is}
use Rattle.thread_runs.specs.JoinedLaws.{JoinedWorldsAnswer}
use Rattle.thread_runs.specs.Solved.{IsFoundByWorkers, IsLeftToOne}
use Rattle.outcomes.specs.declared.outcome.Cause.{Cause}
use Rattle.outcomes.specs.declared.outcome.Cause.TheVariants.{Limit, Memory, Start, Cost, Cut}
use Rattle.outcomes.specs.declared.outcome.Outcome.{Outcome}
use Rattle.outcomes.specs.Endings.{without_rows, EndAnswers}
use Rattle.world_model.specs.Outcomes.{IsGiven}
use Rattle.world_ends.specs.Endings.{EndsIn}
use Rattle.world_ends.proofs.PartLemmas.{bounds_alone, rows_alone, ends_answer, ends_bounded}
use Rattle.world_model.proofs.OutcomeLemmas.{outcomes_answer}
use Rattle.world_model.specs.Credit.{expansion_count}
use Rattle.world_model.specs.declared.limits.TheConstants.{GREATEST_GRANT}
use Rattle.thread_runs.specs.Laws.{HasItsRows, IsLimitCostOrMemory, WholeRunsSayWhy, OneIsAlone, SeveralAreJoined, SolvedRunsEnd, LimitsAreKept, FiguresAreWithinTheLimit, FiguresSpendTheLimit, ThreadsAreAsAsked, SolvedRunsAnswer}
use Rattle.world_model.specs.declared.steps.Stop.TheVariants as stops
use Rattle.outcomes.specs.declared.outcome.Outcome.TheVariants as outcome

-- each of equal elements
replicated : {X : Type 0} (n i : ℕ) (x y : X) → slice_get (replicate n x) i ≡ Some y → y ≡ x
replicated zero i x y at = absurd (cc at)
replicated (suc n) zero x y at = sym (some_is x y at)
replicated (suc n) (suc i) x y at = replicated n i x y at

-- a row, as what is seen of all rows has it
module _ {V Y : Type 0} (f : V → Y) (rows : List V) (i : ℕ) (row : V) (at : slice_get rows i ≡ Some row) where
  mapped : slice_get (map f rows) i ≡ Some (f row)
  mapped = slice_get-map f rows i ∙ ap (option_map f) at

  pub row_is : (d : Y) → slice_index_or (map f rows) i d ≡ f row
  row_is d = get_or_from_slice_get (map f rows) i (f row) d mapped

  pub row_same : (n : ℕ) (x : Y) → map f rows ≡ replicate n x → f row ≡ x
  row_same n x same = replicated n i x (f row) (subst (λ (l : List Y). slice_get l i ≡ Some (f row)) same mapped)

module _ {S : Type 0} (p : JobModel) (owners : S) where
  -- the face of worker i with its ends of these rings
  abbrev pub IsFace : List (List Ring) → List (List Ring) → ℕ → SealedModel S → Type 0
  IsFace outs ins i it = it ≡ face p owners i (slice_index_or outs i []) (slice_index_or ins i [])

  rows_are : (g : SealedModel S → List Ring) (faces : List (SealedModel S)) (rows : List (List Ring)) → length faces ≡ length rows → ((i : ℕ) (it : SealedModel S) → slice_get faces i ≡ Some it → g it ≡ slice_index_or rows i []) → map g faces ≡ rows
  rows_are g [] [] len h = refl
  rows_are g [] (r ∷ rows) len h = absurd (omega (arith, len))
  rows_are g (f ∷ faces) [] len h = absurd (omega (arith, len))
  rows_are g (f ∷ faces) (r ∷ rows) len h =
      let first : g f ≡ r = h 0 f refl in
      let rest : map g faces ≡ rows = rows_are g faces rows (omega (arith, len)) (λ i it at. h (suc i) it at) in
      λ t. first t ∷ rest t

  pub joint_of : (n : ℕ) (faces : List (SealedModel S)) (outs ins : List (List Ring)) → length faces ≡ n → ArePaired n outs ins → ((i : ℕ) (it : SealedModel S) → slice_get faces i ≡ Some it → IsFace outs ins i it) → IsJoint p owners n faces
  joint_of n faces outs ins count paired each =
      let to_each : map (λ (it : SealedModel S). it.outs) faces ≡ outs = rows_are (λ (it : SealedModel S). it.outs) faces outs (omega (arith, count, paired.outs_len)) (λ i it at. ap (λ (x : SealedModel S). x.outs) (each i it at)) in
      let from_each : map (λ (it : SealedModel S). it.ins) faces ≡ ins = rows_are (λ (it : SealedModel S). it.ins) faces ins (omega (arith, count, paired.ins_len)) (λ i it at. ap (λ (x : SealedModel S). x.ins) (each i it at)) in
      record {
        count = count;
        jobs = λ i it at. ap (λ (x : SealedModel S). x.job) (each i it at);
        spreads = λ i it at. ap (λ (x : SealedModel S). x.owners) (each i it at);
        places = λ i it at. ap (λ (x : SealedModel S). x.me) (each i it at);
        paired = subst (λ (both : List (List Ring) × List (List Ring)). ArePaired n both.0 both.1) (λ t. (sym to_each t, sym from_each t)) paired;
      }

-- ---- What is found of threads.

module _ {S X : Type 0} (gives : WorldState → X → Type 0) (owner_of : S → ℕ → BoardModel → ℕ) (p : JobModel) (owners : S) (n : ℕ) where
  -- what is found of a world that is kept, its threads have found
  pub found_given : (found : Option X) → IsFoundByThreads gives owner_of p owners n found → IfSome found (λ answer. IsFoundByThreads gives owner_of p owners n (Some answer))
  found_given None by = tt
  found_given (Some answer) by = by

  pub several_found : (2 ≤ n) → (found : Option X) → IsFoundByThreads gives owner_of p owners n found → IfSome found (λ answer. (2 ≤ n) × IsFoundByThreads gives owner_of p owners n (Some answer))
  several_found several None by = tt
  several_found several (Some answer) by = (several, by)

  -- and where nothing is, it isn't kept
  pub none_left : (found : Option X) → IsFoundByThreads gives owner_of p owners n found → IfNone found (IsLeftToOne owner_of p owners n)
  none_left None (w, joined, dropped) = inr (w, joined, dropped)
  none_left (Some answer) by = tt

  module _ (lower : IsLowerBound p.rule (task_in p).sum p.goal) where
    pub found_answers : (answers : Task → X → Type 0) → JoinedWorldsAnswer gives answers → (answer : X) → IsFoundByThreads gives owner_of p owners n (Some answer) → answers (task_in p) answer
    found_answers answers joined_answer answer (w, joined, (kept, given)) = joined_answer (job_of owner_of p owners n) w answer joined kept lower given

    pub found_whole : (ending : X → Ending) → BoundsAreOfWorlds gives ending → (answer : X) → IsFoundByThreads gives owner_of p owners n (Some answer) → EndsWholeRun (ending answer)
    found_whole ending bounds answer (w, joined, (kept, given)) = whole (ending answer) (bounds w answer given)
      where
        whole : (it : Ending) → HasBoundOf w it → EndsWholeRun it
        whole (Optimal cost plan) has = tt
        whole (Unsolvable why) has = tt
        whole (Bounded bound best cause) has =
            let below = subst (λ (task : Task). IsLowerBound task.rule task.sum task.goal) (sym joined.task) lower in
            let never = kept_never_cut w bound best cause joined.shaped joined.sound kept below has in
            (never.0, never.1, never_stated w joined.no_list bound best cause has)

-- where no thread has started, the world is the opening one, which isn't kept
pub none_started : {S : Type 0} (owner_of : S → ℕ → BoardModel → ℕ) → AreWorkers owner_of → (p : JobModel) (owners : S) (n : ℕ) → IsTask (task_in p) → IsWorkerCount n → IsLeftToOne owner_of p owners n
none_started owner_of are_workers p owners n task count =
    let job = job_of owner_of p owners n in
    let w = opening job U in
    let is : IsJob job = record { task = task; some = count.0; few = count.1; owners = λ b. are_workers owners n b count.0 } in
    let sound = openings_sound job U is in
    let joined : IsJoined job w = record {
      task = refl;
      owners = λ b. refl;
      count = length-set (replicate n (idle_worker n)) (job.owner job.task.start) (first_worker n job.task U) ∙ length-replicate n (idle_worker n);
      limit = refl;
      shaped = sound.0;
      sound = sound.1;
      at_quiet = λ stopped. absurd (none-some stops.Quiet stopped);
      granted = sound.2.granted;
      spent = omega arith;
      within_limit = expansions_limited w sound.2;
      at_limit = λ stopped. absurd (none-some stops.Limit stopped);
      no_list = λ stopped. none-some (stops.Memory Stated) stopped;
    } in
    inr (w, joined, λ kept. kept)

-- ---- What n workers answer.

named : (cause : Cause) → IsOfWholeRun cause → IsLimitCostOrMemory cause
named Limit whole = inl refl
named Cost whole = inr (inl refl)
named (Memory (Refused refused)) whole = inr (inr (refused, refl))
named (Memory Stated) whole = absurd (whole.2 refl)
named Start whole = absurd (whole.1 refl)
named Cut whole = absurd (whole.0 refl)

pub runs_say_why : WholeRunsSayWhy
runs_say_why bound best cause kept = named cause kept

-- a world that gives an outcome with its rows ends with the outcome without them
ends_in : (w : WorldState) (it : Outcome) → IsGiven w it → HasItsRows it → EndsIn w (without_rows it)
ends_in w (outcome.Optimal cost plan rows) given has = (rows_alone w cost plan rows given.4.2).1 given
ends_in w (outcome.Unsolvable why) given has = given
ends_in w (outcome.Bounded bound best cause (Some rows)) given has = (bounds_alone w bound best cause rows given.4.1).1 (inl given)
ends_in w (outcome.Bounded bound best cause None) given has = absurd (cc has)

-- what is counted of a world, and its limit
counted_within : (limit counted : ℕ) (w : WorldState) → counted ≡ expansion_count w → expansion_count w ≤ limit → counted ≤ limit
counted_within limit counted w is few = omega (arith, is, few)

counted_spent : (limit counted more : ℕ) (w : WorldState) → counted ≡ expansion_count w → limit ≤ expansion_count w + more → limit ≤ counted + more
counted_spent limit counted more w is high = omega (arith, is, high)

counted_all : (limit counted more : ℕ) (w : WorldState) → counted ≡ expansion_count w → expansion_count w ≡ limit → limit ≤ counted + more
counted_all limit counted more w is all = omega (arith, is, all)

module _ {S : Type 0} (owner_of : S → ℕ → BoardModel → ℕ) where
  pub solved_ends : SolvedRunsEnd owner_of
  solved_ends p owners n it (inl (several, (w, joined, (kept, given)))) has = inl (several, (w, joined, (kept, ends_in w it given has)))
  solved_ends p owners n it (inr ((w, run, given), left)) has = inr ((w, run, ends_in w it given has), left)

  pub figures_within : FiguresAreWithinTheLimit owner_of
  figures_within p owners n it (inl (several, (w, joined, (kept, given)))) = counted_within p.limit it.figures.expanded w given.1.expanded joined.within_limit
  figures_within p owners n it (inr ((w, run, given), left)) = counted_within p.limit it.figures.expanded w given.1.expanded run.within_limit

  pub figures_spend : FiguresSpendTheLimit owner_of
  figures_spend p owners n bound best figures (inl (several, (w, joined, (kept, given)))) =
      counted_spent p.limit figures.expanded (GREATEST_GRANT * n) w given.1.expanded (joined.at_limit ((causes_stop w bound best Limit (ends_bounded w bound best Limit given.0)).0 refl)).1
  figures_spend p owners n bound best figures (inr ((w, run, given), left)) =
      counted_all p.limit figures.expanded (GREATEST_GRANT * n) w given.1.expanded (run.spent ((causes_stop w bound best Limit (ends_bounded w bound best Limit given.0)).0 refl))

module _ {S X : Type 0} (gives : WorldState → X → Type 0) (owner_of : S → ℕ → BoardModel → ℕ) where
  pub one_alone : OneIsAlone gives owner_of
  one_alone p owners it (inl (several, by)) = absurd (omega (arith, several))
  one_alone p owners it (inr (run, left)) = run

  pub several_joined : SeveralAreJoined gives owner_of
  several_joined p owners n it (inl (several, (w, joined, (kept, given)))) enough = inl (w, joined, kept, given)
  several_joined p owners n it (inr (run, inl one)) enough = absurd (omega (arith, one, enough))
  several_joined p owners n it (inr (run, inr left)) enough = inr (run, left)

  pub limits_kept : LimitsAreKept gives owner_of
  limits_kept p owners n it (inl (several, (w, joined, (kept, given)))) = (w, inl (several, joined, kept), given, joined.within_limit)
  limits_kept p owners n it (inr ((w, run, given), left)) = (w, inr run, given, run.within_limit)

  pub as_asked : ThreadsAreAsAsked gives owner_of
  as_asked p owners n it (w, joined, (kept, given)) = (w, joined, kept, given, joined.count, joined.owners)

-- what is found answers the problem, in each reading whose worlds give true answers
module _ {S X : Type 0} (gives : WorldState → X → Type 0) (answers : Task → X → Type 0) (worlds : WorldsAnswer gives answers) (owner_of : S → ℕ → BoardModel → ℕ) where
  found_true : (p : JobModel) (owners : S) (n : ℕ) (it : X) → AreWorkers owner_of → IsTask (task_in p) → IsLowerBound p.rule (task_in p).sum p.goal → IsFoundByWorkers gives owner_of p owners n it → answers (task_in p) it
  found_true p owners n it are_workers task lower (inl (several, (w, joined, (kept, given)))) =
      joined_answers gives answers worlds (job_of owner_of p owners n) w it joined kept lower given
  found_true p owners n it are_workers task lower (inr ((w, run, given), left)) =
      let job = job_of owner_of p owners 1 in
      let made = run.first ++ run.last in
      let is : IsJob job = record { task = task; some = omega arith; few = omega arith; owners = λ b. are_workers owners 1 b (omega arith) } in
      let sound = runs_sound job run.via made w is run.run in
      let same : w.task ≡ task_in p = (run_alike (opening job run.via) made w run.run).0 in
      let below : IsLowerBound w.task.rule w.task.sum w.task.goal = subst (λ (t : Task). IsLowerBound t.rule t.sum t.goal) (sym same) lower in
      subst (λ (t : Task). answers t it) same (worlds w it sound.0 sound.1 (quiet_true w sound.0 sound.2) below given)

module _ {S : Type 0} (owner_of : S → ℕ → BoardModel → ℕ) where
  pub solved_answer : SolvedRunsAnswer owner_of
  solved_answer = record {
    rows = λ p owners n it are_workers task lower solved. found_true IsGiven Answers outcomes_answer owner_of p owners n it are_workers task lower solved;
    ends = λ p owners n it are_workers task lower found. found_true EndsIn EndAnswers (ends_answer outcomes_answer) owner_of p owners n it are_workers task lower found;
  }
