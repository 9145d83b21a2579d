-- The laws of runs by one worker, and what a reader may believe of an outcome.
use Rattle.std.proofs.Common.{Bool, true, false, ◌+◌, Result, Ok, Err, IfOk, ◌↔◌, ◌≡◌, ◌≢◌, ◌∙◌, ℕ, List, ◌++◌, subst, Option, Some, None, ◌⊎◌, [], ◌∷◌, length, map, get_or, refl, sym, ap, inl, inr, arith}
use Rattle.std.specs.Prelude.{Vec, Contains, slice_get}
use Rattle.std.specs.declared.alloc.Global.{Global}
use Rattle.std.proofs.lemmas.List.Elements.{All-contains, Contains-append_cases, Contains-append_right}
use Rattle.board.specs.declared.moves.Move.{Move}
use Rattle.board.specs.Boards.{BoardModel, blank_of}
use Rattle.board.specs.Plans.{Leads}
use Rattle.board.specs.Rows.{IsLowerBound}
use Rattle.outcomes.specs.declared.outcome.Cause.{Cause}
use Rattle.outcomes.specs.declared.outcome.Cause.TheVariants.{Cut, Start, Memory, Limit as ForLimit}
use Rattle.outcomes.specs.declared.outcome.Want.TheVariants.{Stated, Refused}
use Rattle.memory.specs.declared.OutOfMemory.{OutOfMemory}
use Rattle.board.specs.Classes.{SameClass, inversions, taxicab}
use Rattle.std.specs.Bool.{Decides}
use Rattle.std.specs.Prelude.{IsTrue, ◌%◌, ◌==◌}
use Rattle.std.proofs.lemmas.Bool.Decides.{Decides-eqb, not_from_Decides}
use Rattle.outcomes.specs.declared.outcome.Why.TheVariants.{Parity}
use Rattle.board.specs.Laws.{PlansKeepTheClass}
use Rattle.outcomes.specs.declared.outcome.Outcome.{Outcome}
use Rattle.outcomes.specs.declared.outcome.Outcome.TheVariants as outcomes
use Rattle.outcomes.specs.declared.outcome.Ending.{Ending}
use Rattle.outcomes.specs.declared.outcome.Ending.TheVariants as endings
use Rattle.outcomes.specs.declared.outcome.Outcome.TheVariants.{Optimal, Unsolvable, Bounded}
use Rattle.outcomes.specs.Outcomes.{Task, Answers, IsBestPlan, best_of}
use Rattle.world_model.specs.declared.steps.Stop.{Stop}
use Rattle.world_model.specs.declared.steps.Stop.TheVariants as stop_kinds
use Rattle.world_model.specs.Openings.{Job, IsJob, opening}
use Rattle.world_model.specs.Outcomes.{IsGiven, IsBounded}
use Rattle.world_model.specs.Soundness.{IsSound}
use Rattle.world_model.specs.Worlds.{WorldState, IsLane, IsWorker}
use Rattle.world_model.proofs.KeptLemmas.{runs_kept, kept_never_cut, causes_stop, memory_bounded}
use Rattle.world_model.specs.declared.steps.HaltCause.{HaltCause}
use Rattle.world_model.specs.declared.steps.Refusal.{Refusal}
use Rattle.world_model.specs.declared.steps.Step.{Step}
use Rattle.world_model.specs.declared.steps.Step.TheVariants.{Expand, Settle, Send, Deliver, Draw, Announce, Grant, Rest, Halt}
use Rattle.world_model.specs.Steps.{IsRun, Next, with_lane}
use Rattle.world_model.specs.Turns.{turn}
use Rattle.world_model.specs.Workers.{WorkerState, Lane, Packet, packet_for}
use Rattle.world_model.proofs.ChangeLemmas.{cons_cases, none_in_empty, lane_there, worker_there}
use Rattle.world_model.proofs.RestLemmas.{books_are_left, lanes_are_left}
use Rattle.world_model.proofs.StepCases.{Accepts, Cases, next_cases}
use Rattle.world_model.specs.Shapes.{IsShaped, IsTask}
use Rattle.world_ends.specs.Readings.{HasBoundOf, IsForParity}
use Rattle.hda_run.specs.WholeRuns.{IsOfWholeRun, EndsWholeRun, HasWholeRun}
use Rattle.hda_run.specs.Alone.{AreLast, IsRunAlone, HaltsNowhere, IsHalt}
use Rattle.hda_run.specs.Headline.{TellsTruth, IsTrueOfBest}
use Rattle.hda_run.specs.Jobs.{JobModel, task_in}
use Rattle.hda_run.specs.Laws.{BookChangesByFiveKinds, BoundsSpendTheLimit, BoundTruthsAreBelow, HaltsAreDue, JobsAreOfAnyShape, LanesChangeByTwoKinds, OtherLanesAreLeft, SentItemsArrive, OptimalTruthsAgree, OutcomesAreOfAllTheirSteps, OutcomesAreOfTheirSteps, QuietRunsHaveNoHalt, RunsAloneStop, TrueBoundsHaveProofs, TruePlansLead, TrueRowsProve, TrueRowsProveBounds, UnsolvableTruthsHaveNoPlan, WithoutRowsMemoryWasRefused}
use Rattle.hda_run.proofs.AloneLemmas.{Made}

-- ---- what one worker that is alone answers

-- the run has stopped, and not because a thread could not be started
pub has_stopped : (last : List Made) (stop : Option Stop) → AreLast last stop → (stop ≢ None) × (stop ≢ Some stop_kinds.Start)
has_stopped last None ends = absurd ends
has_stopped last (Some stop_kinds.Quiet) ends = ((λ e. absurd (cc)), (λ e. absurd (cc)))
has_stopped last (Some stop_kinds.Limit) ends = ((λ e. absurd (cc)), (λ e. absurd (cc)))
has_stopped last (Some (stop_kinds.Memory want)) ends = ((λ e. absurd (cc)), (λ e. absurd (cc)))
has_stopped last (Some stop_kinds.Start) ends = absurd ends

-- no list of steps stopped it
no_list : (last : List Made) (stop : Option Stop) → AreLast last stop → stop ≢ Some (stop_kinds.Memory Stated)
no_list last None ends = absurd ends
no_list last (Some stop_kinds.Quiet) ends = λ e. absurd (cc)
no_list last (Some stop_kinds.Limit) ends = λ e. absurd (cc)
no_list last (Some (stop_kinds.Memory want)) ends = λ e. let is = ends.1 in absurd (cc)
no_list last (Some stop_kinds.Start) ends = absurd ends

-- a bound has the cause `Memory Stated` only where a list of steps stopped the run for it
pub never_stated : (w : WorldState) → w.book.stop ≢ Some (stop_kinds.Memory Stated) → (bound : ℕ) (best : Option (ℕ × Vec Move Global)) (cause : Cause) → IsBounded w bound best cause → cause ≢ Memory Stated
never_stated w stop bound best cause given is = split (memory_bounded w bound best Stated (subst (IsBounded w bound best) is given))
  where
    split : (w.book.stop ≡ Some (stop_kinds.Memory Stated)) ⊎ ((best ≡ None) × ((refused : OutOfMemory) × (Stated ≡ Refused refused))) → ⊥
    split (inl by) = stop by
    split (inr lacks) = absurd (cc (lacks.1.1))

module _ (job : Job) (w : WorldState) (is : IsJob job) (run : IsRunAlone job w) (shaped : IsShaped w) (sound : IsSound w) (lower : IsLowerBound w.task.rule w.task.sum w.task.goal) where
  never_cut : (bound : ℕ) (best : Option (ℕ × Vec Move Global)) (cause : Cause) → IsBounded w bound best cause → (cause ≢ Cut) × (cause ≢ Start)
  never_cut bound best cause given =
      let stopped = has_stopped run.last w.book.stop run.ends in
      kept_never_cut w bound best cause shaped sound (runs_kept job run.via (run.first ++ run.last) w is run.run stopped.0 stopped.1) lower given

  -- a bound that the world has is that of a whole run
  pub found_whole : (ending : Ending) → HasBoundOf w ending → EndsWholeRun ending
  found_whole (endings.Optimal cost plan) has = tt
  found_whole (endings.Unsolvable why) has = tt
  found_whole (endings.Bounded bound best cause) has =
      let never = never_cut bound best cause has in
      (never.0, never.1, never_stated w (no_list run.last w.book.stop run.ends) bound best cause has)

-- a bound that the outcome names was not cut
abbrev pub IsUncut : Outcome → Type 0
IsUncut outcome = (bound : ℕ) (best : Option (ℕ × Vec Move Global)) (cause : Cause) (rows : Option (Vec (BoardModel × ℕ) Global)) → outcome ≡ outcomes.Bounded bound best cause rows → (cause ≢ Cut) × (cause ≢ Start)

-- none of a whole run was
pub outcome_kept : (result : Result Outcome OutOfMemory) → IfOk result HasWholeRun → IfOk result IsUncut
outcome_kept (Ok outcome) whole = λ bound best cause rows is. let kept : IsOfWholeRun cause = subst HasWholeRun is whole in (kept.0, kept.1)
outcome_kept (Err refused) whole = whole

-- ---- the answer for a start of another class

decided : {P : Type 0} (r : Bool) → Decides r P → P ⊎ (¬ P)
decided true decides = inl (decides.0 refl)
decided false decides = inr (not_from_Decides false decides refl)

-- two boards are of one class, or they are not
pub one_class : (b q : BoardModel) → SameClass b q ⊎ (¬ SameClass b q)
one_class b q =
    let left = (inversions b.tiles + inversions q.tiles) % 2 in
    let right = taxicab b.grid (blank_of b) (blank_of q) % 2 in
    decided (left == right) (Decides-eqb left right)

-- boards that are not found apart are of one class
pub not_apart : (b q : BoardModel) (apart : Bool) → (IsTrue apart ↔ (¬ SameClass b q)) → apart ≡ false → SameClass b q
not_apart b q apart tells same = by_class (one_class b q)
  where
    by_class : SameClass b q ⊎ (¬ SameClass b q) → SameClass b q
    by_class (inl together) = together
    by_class (inr other) = absurd (let yes : IsTrue false = subst IsTrue same (tells.1 other) in cc)

-- it is no bound
pub parity_whole : {X : Type 0} (end : X → Ending) (parity answer : X) → end parity ≡ endings.Unsolvable Parity → answer ≡ parity → EndsWholeRun (end answer)
parity_whole end parity answer is same = subst (λ (it : _). EndsWholeRun (end it)) (sym same) (subst EndsWholeRun (sym is) tt)

module _ {X : Type 0} (answers : Task → X → Type 0) (parity : X) (for_parity : IsForParity answers parity) (task : Task) where
  -- it isn't given for a start of the goal's class
  pub parity_differs : SameClass task.start task.goal → (result : Result X OutOfMemory) → IfOk result (answers task) → (result ≡ Ok parity) ↔ (¬ SameClass task.start task.goal)
  parity_differs together result answered = (
    λ is. absurd (((for_parity task).0 (subst (λ (r : Result X OutOfMemory). IfOk r (answers task)) is answered)).1 together),
    λ other. absurd (other together),
  )

  -- and it answers each other one
  pub parity_answers : PlansKeepTheClass → IsTask task → ¬ SameClass task.start task.goal → (answer : X) → answer ≡ parity → answers task answer
  parity_answers plans is other answer same =
      subst (answers task) (sym same) ((for_parity task).1 ((λ plan cost leads. other (plans task.rule task.start plan task.goal cost is.start leads)), other))

-- ---- an outcome that answers a task tells the truth

best_leads : (p : JobModel) (bound : ℕ) (best : Option (ℕ × List Move)) → IsBestPlan (task_in p) bound best → IsTrueOfBest p best
best_leads p bound None is = tt
best_leads p bound (Some best) is = is.0

pub truth : (p : JobModel) (outcome : Outcome) → Answers (task_in p) outcome → TellsTruth p outcome
truth p (Optimal cost plan rows) answers = (answers.0, answers.1.none_below, answers.2)
truth p (Unsolvable why) answers = answers.0
truth p (Bounded bound best cause (Some rows)) answers = (answers.0.0, best_leads p bound (best_of best) answers.0.3, answers.1)
truth p (Bounded bound best cause None) answers = (answers.0.0, answers.1, answers.2)

-- what answers the job of a world that comes of this job answers this one
pub truth_of : (p p' : JobModel) (outcome : Outcome) → p' ≡ p → Answers (task_in p') outcome → TellsTruth p outcome
truth_of p p' outcome same answers = truth p outcome (subst (λ (q : JobModel). Answers (task_in q) outcome) same answers)

-- ---- the laws of runs by one worker, and of what a reader may believe: one worker alone

pub stops : RunsAloneStop
stops job w run = has_stopped run.last w.book.stop run.ends

-- the first of a list is in it
head_in : (m : Made) (rest : List Made) → Contains (m ∷ rest) m
head_in m rest = (0, (omega arith), refl)

-- a rest is the last step behind steps without a halt
no_halt : (first last : List Made) (i : ℕ) (cause : HaltCause) (answer : Option Refusal) → HaltsNowhere first → last ≡ (Rest 0, None) ∷ [] → ¬ Contains (first ++ last) (Halt i cause, answer)
no_halt first last i cause answer none rests has = by_place (Contains-append_cases first last (Halt i cause, answer) has)
  where
    halt : Made
    halt = (Halt i cause, answer)

    at_the_end : ((Rest 0, None) ≡ halt) ⊎ Contains [] halt → ⊥
    at_the_end (inl is) = subst (λ (m : Made). ¬ IsHalt m.0) is (λ h. h) tt
    at_the_end (inr no_place) = none_in_empty [] halt refl no_place

    by_place : Contains first halt ⊎ Contains last halt → ⊥
    by_place (inl early) = All-contains (λ (m : Made). ¬ IsHalt m.0) first halt none early tt
    by_place (inr late) = at_the_end (cons_cases (Rest 0, None) [] halt (subst (λ (xs : List Made). Contains xs halt) rests late))

pub quiet : QuietRunsHaveNoHalt
quiet job w run stop = (run.via, run.first ++ run.last, run.run, λ i cause answer. no_halt run.first run.last i cause answer run.goes_on (subst (AreLast run.last) stop run.ends))

-- a last step that is the first of the last ones is one of all
last_in : (first last : List Made) (m : Made) (rest : List Made) → last ≡ m ∷ rest → Contains (first ++ last) m
last_in first last m rest is = Contains-append_right first last m (subst (λ (xs : List Made). Contains xs m) (sym is) (head_in m rest))

pub due : HaltsAreDue
due job w run = (
  λ stop. (run.via, run.first ++ run.last, run.run, last_in run.first run.last _ _ (subst (AreLast run.last) stop run.ends)),
  λ want stop.
      let ends = subst (AreLast run.last) stop run.ends in
      (ends.0, ends.1, (run.via, run.first ++ run.last, run.run, last_in run.first run.last _ _ ends.2)),
)

pub spent : BoundsSpendTheLimit
spent job w run = (run.within_limit, λ bound best given. run.spent ((causes_stop w bound best ForLimit given).0 refl))

-- ---- what a reader may believe

pub optimal : OptimalTruthsAgree
optimal p c d plan plan' rows rows' one other =
    let le = one.1 plan'.items d other.0 in
    let ge = other.1 plan.items c one.0 in
    omega arith

pub bounded : BoundTruthsAreBelow
bounded p c bound plan rows best cause (Some below) one other = other.0 plan.items c one.0
bounded p c bound plan rows best cause None one other = other.0 plan.items c one.0

pub unsolvable : UnsolvableTruthsHaveNoPlan
unsolvable p why none = ((λ cost plan rows told. none plan.items cost told.0), beside)
  where
    beside : (bound cost : ℕ) (plan : Vec Move Global) (cause : Cause) (rows : Option (Vec (BoardModel × ℕ) Global)) → ¬ TellsTruth p (Bounded bound (Some (cost, plan)) cause rows)
    beside bound cost plan cause (Some rows) told = none plan.items cost told.1
    beside bound cost plan cause None told = let e : ◌≡◌ {A = Option (ℕ × Vec Move Global)} (Some (cost, plan)) None = told.1.0 in absurd (cc)

pub plans_lead : TruePlansLead
plans_lead p cost plan = ((λ rows told. told.0), beside)
  where
    beside : (bound : ℕ) (cause : Cause) (rows : Option (Vec (BoardModel × ℕ) Global)) → TellsTruth p (Bounded bound (Some (cost, plan)) cause rows) → Leads p.rule p.start plan.items p.goal cost
    beside bound cause (Some rows) told = told.1
    beside bound cause None told = let e : ◌≡◌ {A = Option (ℕ × Vec Move Global)} (Some (cost, plan)) None = told.1.0 in absurd (cc)

pub rows_prove : TrueRowsProve
rows_prove p cost plan rows told = told.2.proves

pub bounds_prove : TrueRowsProveBounds
bounds_prove p bound best cause rows told = told.2.proves

pub proofs_exist : TrueBoundsHaveProofs
proofs_exist p bound best cause told = (told.2.0, told.2.1.proves)

pub rows_missing : WithoutRowsMemoryWasRefused
rows_missing p bound best cause told = told.1

-- the step, with its answer, leads to a world that gives the outcome
abbrev IsOfOne : Job → Step → Outcome → Type 0
IsOfOne job step outcome = (via : Move) × (answer : Option Refusal) × (w : WorldState) × Next step (turn (opening job via) answer w) × IsGiven w outcome

of_one : (job : Job) (step : Step) (outcome : Outcome) (via : Move) (made : List Made) (w : WorldState) → map (λ (m : Made). m.0) made ≡ step ∷ [] → IsRun (opening job via) made w → IsGiven w outcome → IsOfOne job step outcome
of_one job step outcome via [] w same run given = absurd (cc)
of_one job step outcome via (m ∷ []) w same run given = (
  via,
  m.1,
  run.0,
  subst (λ (s : Step). Next s (turn (opening job via) m.1 run.0)) (ap (λ (xs : List Step). get_or xs 0 step) same) run.1,
  subst (λ (v : WorldState). IsGiven v outcome) run.2 given,
)
of_one job step outcome via (m ∷ n ∷ rest) w same run given = absurd (let n = ap length same in omega arith)

pub of_steps : OutcomesAreOfTheirSteps
of_steps job step outcome is = of_one job step outcome is.via is.made is.world is.same is.run is.given

pub of_all_steps : OutcomesAreOfAllTheirSteps
of_all_steps job steps outcome is = (is.via, is.made, is.world, is.same, is.run, is.given)

-- ---- what a step of each kind changes

pub lanes_by_kind : LanesChangeByTwoKinds
lanes_by_kind (Expand i) it from to lane next changes = absurd (changes (lanes_are_left (Expand i) it from to lane next (λ h. h)))
lanes_by_kind (Settle i) it from to lane next changes = absurd (changes (lanes_are_left (Settle i) it from to lane next (λ h. h)))
lanes_by_kind (Send i j) it from to lane next changes = inl refl
lanes_by_kind (Deliver i j) it from to lane next changes = inr refl
lanes_by_kind (Draw i) it from to lane next changes = absurd (changes (lanes_are_left (Draw i) it from to lane next (λ h. h)))
lanes_by_kind (Announce i) it from to lane next changes = absurd (changes (lanes_are_left (Announce i) it from to lane next (λ h. h)))
lanes_by_kind (Grant i) it from to lane next changes = absurd (changes (lanes_are_left (Grant i) it from to lane next (λ h. h)))
lanes_by_kind (Rest i) it from to lane next changes = absurd (changes (lanes_are_left (Rest i) it from to lane next (λ h. h)))
lanes_by_kind (Halt i cause) it from to lane next changes = absurd (changes (lanes_are_left (Halt i cause) it from to lane next (λ h. h)))

pub other_lanes : OtherLanesAreLeft
other_lanes i j from to lane it (inl sends) other = lanes_are_left (Send i j) it from to lane sends other
other_lanes i j from to lane it (inr takes) other = lanes_are_left (Deliver j i) it from to lane takes other

pub book_by_kind : BookChangesByFiveKinds
book_by_kind (Expand i) it next changes = absurd (changes (books_are_left (Expand i) it next (λ h. h)))
book_by_kind (Settle i) it next changes = absurd (changes (books_are_left (Settle i) it next (λ h. h)))
book_by_kind (Send i j) it next changes = absurd (changes (books_are_left (Send i j) it next (λ h. h)))
book_by_kind (Deliver i j) it next changes = absurd (changes (books_are_left (Deliver i j) it next (λ h. h)))
book_by_kind (Draw i) it next changes = inl refl
book_by_kind (Announce i) it next changes = inr (inl refl)
book_by_kind (Grant i) it next changes = inr (inr (inl refl))
book_by_kind (Rest i) it next changes = inr (inr (inr (inl refl)))
book_by_kind (Halt i cause) it next changes = inr (inr (inr (inr refl)))

-- an accepted step changes what it says
accepted : (step : Step) (w w' : WorldState) → Next step (turn w None w') → Accepts step w w'
accepted step w w' next = by_case (next_cases step (turn w None w') next)
  where
    by_case : Cases (turn {F = Refusal} w None w') (Accepts step w w') → Accepts step w w'
    by_case (inl out) = absurd (let e : ◌≡◌ {A = Option Refusal} None (Some out.0) = out.1.0 in cc)
    by_case (inr done) = done.1

-- there is one lane from one worker to another
one_lane : (w : WorldState) (from to : ℕ) (lane lane' : Lane) → IsLane w from to lane → IsLane w from to lane' → lane ≡ lane'
one_lane w from to lane lane' at at' =
    let row : Some at.from_lanes ≡ Some at'.from_lanes = sym at.of_sender ∙ at'.of_sender in
    let same : at.from_lanes ≡ at'.from_lanes = cc in
    let both : Some lane ≡ Some lane' = sym at.of_receiver ∙ ap (λ (row : List Lane). slice_get row to) same ∙ at'.of_receiver in
    cc

-- and one worker of a number
one_worker : (w : WorldState) (i : ℕ) (x y : WorkerState) → IsWorker w i x → IsWorker w i y → x ≡ y
one_worker w i x y at at' = let both : Some x ≡ Some y = sym at ∙ at' in cc

-- the only packet of a lane is the first
only_first : (packet first : Packet) (rest : Lane) → packet ∷ [] ≡ first ∷ rest → packet ≡ first
only_first packet first rest same = ap (λ (lane : Lane). get_or lane 0 []) same

pub arrives : SentItemsArrive
arrives i j w sent taken sender receiver at empty sends takes there =
    let step = accepted (Send i j) w sent sends in
    let take = accepted (Deliver j i) sent taken takes in
    let mine : step.worker ≡ sender = one_worker w i step.worker sender step.at at in
    let free : step.lane ≡ [] = one_lane w i j step.lane [] step.at_lane empty in
    let filled : step.new.lane ≡ packet_for sender j ∷ [] =
    ap (λ (x : _). x.lane) step.change.is ∙ (λ t. free t ++ packet_for (mine t) j ∷ []) in
    let lane : IsLane sent i j step.new.lane =
    subst (λ (v : WorldState). IsLane v i j step.new.lane) (sym step.is)
    (lane_there w i step.new.worker w.book i j step.lane step.at_lane step.new.lane) in
    let same : take.lane ≡ step.new.lane = one_lane sent i j take.lane step.new.lane take.at_lane lane in
    let first : packet_for sender j ≡ take.change.packet =
    only_first (packet_for sender j) take.change.packet take.change.rest (sym filled ∙ sym same ∙ take.change.first) in
    let now : IsWorker taken j take.new.worker =
    subst (λ (v : WorldState). IsWorker v j take.new.worker) (sym take.is)
    (worker_there sent j take.worker take.at take.new.worker sent.book (with_lane sent.lanes i j take.new.lane)) in
    let new : receiver ≡ take.new.worker = one_worker taken j receiver take.new.worker there now in
    ap (λ (x : WorkerState). x.held) new ∙ ap (λ (x : _). x.worker.held) take.change.is ∙ sym first

-- ---- the shapes of a job

pub any_shape : JobsAreOfAnyShape
any_shape start goal rule tables limit = (
  λ one. (one.start_sides, one.rule_sides, one.table_sides),
  λ same. record { start_sides = same.0; rule_sides = same.1; table_sides = same.2 },
)
