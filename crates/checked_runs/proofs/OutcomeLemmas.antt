-- Outcomes whose plans the checker gives back, and those that name no least plan.
use Rattle.std.proofs.Common.{◌≡◌, ℕ, ◌<◌, ◌^◌, List, Vec, length, Some, refl, ◌≤◌, [], ◌∷◌, map, sym, ap, ◌∙◌, arith, ◌≢◌, Result, Ok, Err, subst, inl, inr}
use Rattle.std.specs.Prelude.{All, ◌↔◌, IfSome}
use Rattle.std.specs.Result.{IsErrOf}
use Rattle.std.specs.declared.alloc.Global.{Global}
use Rattle.board.specs.declared.moves.Move.{Move}
use Rattle.board.specs.Boards.{BoardModel, IsBoard}
use Rattle.outcomes.specs.declared.outcome.Outcome.{Outcome}
use Rattle.outcomes.specs.declared.outcome.Outcome.TheVariants.{Optimal, Unsolvable, Bounded}
use Rattle.lower_bound.specs.Tables.{BoundModel, IsTables, part_of}
use Rattle.world_model.specs.Outcomes.{End, IsBoundOf, IsFollowedBack, AreRowsFor, IsGiven}
use Rattle.world_model.specs.Worlds.{WorldState}
use Rattle.certificate.specs.Certificates.{AreCostsOf, IsCertificate, CertificateModel}
use Rattle.certificate_check.specs.declared.refusals.Refusal.{Refusal}
use Rattle.hda_run.specs.Jobs.{JobModel, task_in}
use Rattle.thread_runs.specs.Solved.{IsSolved}
use Rattle.checked_runs.specs.Certificates.{certificate_in, AreAsGood}
use Rattle.checked_runs.specs.Checked.{IsProvedWith, IsCheckedRun, IsRefusedRun}
use Rattle.checked_runs.specs.Laws.{BoundsAreAccepted, BoundsHaveCertificates, PlansAreAccepted, PlansHaveCertificates, NoPlanIsBelowAProvedOne, NoPlanIsBelowAProvedBound, TablesFoldedFromAreAsGood, CheckedRunsAreRuns, CheckedPlansAreSolved, RefusedRunsAreTheirs}
use Rattle.checked_runs.specs.declared.faults.CheckedFault.{CheckedFault}
use Rattle.checked_runs.specs.declared.faults.CheckedFault.TheVariants.{WorkerCount, Memory, Refused}
use Rattle.std.specs.List.{AllByRecursion}
use Rattle.std.proofs.lemmas.List.Elements.{recursion_from_All}
use Rattle.std.proofs.lemmas.List.Sums.{sum_by-cons}
use Rattle.pattern_index.specs.Views.{view_of}
use Rattle.pattern_index.specs.Groups.{GroupModel, IsGroup}
use Rattle.database_build.specs.Tables.{TableModel}
use Rattle.database_build.specs.Folds.{FoldedModel}
use Rattle.lower_bound.specs.Bounds.{Part, sum_of}
use Rattle.lower_bound.specs.Folded.{AreFolded, folded_parts, part_folded}
use Rattle.lower_bound.proofs.PartLemmas.{each_lookup, table_grids, whole_parts, all_folded_parts}
use Rattle.certificate_check.proofs.RowLemmas.{proved_above, folded_below}
use Rattle.certificate_check.proofs.RefusalLemmas.{proved_has_none}
use Rattle.board.specs.Shapes.{ShapeModel}
use Rattle.board.specs.Weights.{WeightsModel}
use Rattle.board.specs.Laws.{KeysAreInOrder, RowsSuffice}
use Rattle.lower_bound.specs.Laws.{TablesAreLowerBounds}
use Rattle.outcomes.specs.Outcomes.{Answers}
use Rattle.pattern_index.specs.Partitions.{PartitionModel}
use Rattle.world_model.specs.Shapes.{IsTask}
use Rattle.certificate.specs.declared.certificate.Version.TheVariants.{Two}
use Rattle.certificate.proofs.RowLemmas.{rise, rows_fit}
use Rattle.certificate_check.specs.Refusals.{sum_in, IsProved}

module _ (p : JobModel) (cost cost' : ℕ) (plan plan' : Vec Move Global) (rows rows' : Vec (BoardModel × ℕ) Global)
    (same : certificate_in p cost plan.items rows.items ≡ certificate_in p cost' plan'.items rows'.items) where
  -- a world gives it again
  given_again : (w : WorldState) → IsGiven w (Optimal cost plan rows) → IsGiven w (Optimal cost' plan' rows')
  given_again w (lowest, reached, low, at, given) = (lowest, reached, low, at, subst (Given (record { world = w; lowest = lowest; reached = reached })) same given)
    where
      Given : End → CertificateModel → Type 0
      Given end c = IsBoundOf end c.cost × IfSome c.plan (λ plan. IsFollowedBack end c.cost plan) × AreRowsFor end.world c.cost c.rows

  -- so do the workers
  pub solved_again : {S : Type 0} (owner_of : S → ℕ → BoardModel → ℕ) (owners : S) (n : ℕ) → IsSolved owner_of p owners n (Optimal cost plan rows) → IsSolved owner_of p owners n (Optimal cost' plan' rows')
  solved_again owner_of owners n (inl (several, (w, joined, (kept, given)))) = inl (several, (w, joined, (kept, given_again w given)))
  solved_again owner_of owners n (inr ((w, run, given), left)) = inr ((w, run, given_again w given), left)

-- what names no least plan claims nothing
pub nothing_claimed : (p : JobModel) (tables : BoundModel) (outcome : Outcome) → ((cost : ℕ) (plan : Vec Move Global) (rows : Vec (BoardModel × ℕ) Global) → outcome ≢ Optimal cost plan rows) → IsProvedWith p tables outcome
nothing_claimed p tables (Optimal cost plan rows) other = absurd (other cost plan rows refl)
nothing_claimed p tables (Unsolvable why) other = tt
nothing_claimed p tables (Bounded bound best cause rows) other = tt

-- the refusal in a fault
refusal_in : Result Outcome CheckedFault → Refusal → Refusal
refusal_in (Ok outcome) other = other
refusal_in (Err WorkerCount) other = other
refusal_in (Err (Memory want)) other = other
refusal_in (Err (Refused refusal)) other = refusal

-- a fault names one refusal
pub one_refusal : (r r' : Refusal) → IsErrOf {T = Outcome} {E = CheckedFault} (Err (Refused r)) (Refused r') → r ≡ r'
unfolding refusal_in
one_refusal r r' is = ap (λ (result : Result Outcome CheckedFault). refusal_in result r) is

-- ---- what `solve` answers is answered

abbrev answer : (E : Type 0) → Outcome → Result Outcome E
answer E outcome = Ok outcome

outcome_in : (E : Type 0) → Result Outcome E → Outcome → Outcome
outcome_in E (Ok outcome) other = outcome
outcome_in E (Err fault) other = other

-- an answer has one outcome
one_outcome : (E : Type 0) (o o' : Outcome) → answer E o ≡ answer E o' → o ≡ o'
unfolding outcome_in
one_outcome E o o' is = ap (λ (result : Result Outcome E). outcome_in E result o) is

-- it is no fault
pub no_fault : (E : Type 0) (o : Outcome) (fault : E) → IsErrOf (answer E o) fault → ⊥
no_fault E o fault is = absurd (cc)

-- so it is a fault alike
pub fault_alike : (D E : Type 0) (o : Outcome) (d : D) (e : E) (P : Type 0) → (IsErrOf (answer D o) d ↔ P) → IsErrOf (answer E o) e ↔ P
fault_alike D E o d e P iff = ((λ is. absurd (no_fault E o e is)), (λ p. absurd (no_fault D o d (iff.1 p))))

-- and another outcome alike
pub outcome_alike : (D E : Type 0) (o o' : Outcome) (P : Type 0) → ((answer D o ≡ answer D o') ↔ P) → (answer E o ≡ answer E o') ↔ P
outcome_alike D E o o' P iff = ((λ is. iff.0 (ap (answer D) (one_outcome E o o' is))), (λ p. ap (answer E) (one_outcome D o o' (iff.1 p))))

module _ {S : Type 0} (owner_of : S → ℕ → BoardModel → ℕ) where
  behind_checked : (p : JobModel) (owners : S) (n : ℕ) (outcome : Outcome) → IsCheckedRun owner_of p owners n outcome → (given : Outcome) × IsSolved owner_of p owners n given
  behind_checked p owners n outcome (inl solved) = (outcome, solved)
  behind_checked p owners n outcome (inr (cost, plan, rows, refused, solved, is)) = (Optimal cost plan rows, solved)

  behind_refused : (p : JobModel) (owners : S) (n : ℕ) (tables : BoundModel) (refusal : Refusal) → IsRefusedRun owner_of p owners n tables refusal → (given : Outcome) × IsSolved owner_of p owners n given
  behind_refused p owners n tables refusal (cost, plan, rows, solved, first) = (Optimal cost plan rows, solved)

  -- for what a checked run answers, or refuses, there is a run
  pub run_behind : CheckedRunsAreRuns owner_of
  run_behind p owners n outcome tables refusal = (behind_checked p owners n outcome, behind_refused p owners n tables refusal)

  -- a plan that is called least is no bound, so it is theirs
  pub plans_solved : CheckedPlansAreSolved owner_of
  plans_solved p owners n cost plan rows (inl solved) = solved
  plans_solved p owners n cost plan rows (inr (cost', plan', rows', refused, solved, is)) = absurd (cc)

  -- what is refused for a cause isn't proved
  pub refusals_theirs : RefusedRunsAreTheirs owner_of
  refusals_theirs p owners n tables refusal (cost, plan, rows, solved, first) =
      (cost, plan, rows, solved, first, λ proved. proved_has_none (certificate_in p cost plan.items rows.items) tables proved refusal first.0)

-- ---- Whole tables, and those that were folded from them.

module _ (b : BoardModel) (board : IsBoard b) where
  -- a group of the board's grid
  abbrev Fits : GroupModel → Type 0
  Fits g = IsGroup g × (g.grid ≡ b.grid)

  -- what folded tables say of a board adds up to no more than what the whole ones say
  sum_low : (tables : List TableModel) (folds : List FoldedModel) → AreFolded tables folds → AllByRecursion (λ table. Fits table.selection) tables → sum_of (folded_parts folds) b ≤ sum_of (map part_of tables) b
  sum_low [] [] is fits = omega arith
  sum_low [] (f ∷ folds) is fits = absurd is
  sum_low (t ∷ tables) [] is fits = absurd is
  sum_low (t ∷ tables) (f ∷ folds) is fits =
      let first = folded_below t f b is.0 board fits.0.0 fits.0.1 in
      let rest = sum_low tables folds is.1 fits.1 in
      let before = sum_by-cons (λ (p : Part). p.value (view_of p.tiles b)) (part_folded f) (folded_parts folds) in
      let after = sum_by-cons (λ (p : Part). p.value (view_of p.tiles b)) (part_of t) (map part_of tables) in
      omega (arith, first, rest, before, after)

pub folded_from : TablesFoldedFromAreAsGood
folded_from p tables is whole sides potentials folded = record {
  groups = sym folded.split;
  whole = whole;
  potentials = potentials;
  sums = λ b board same.
      let fit : All (λ table. IsGroup table.selection × (table.selection.grid ≡ b.grid)) tables.lookups = λ k d k_in. (
        each_lookup (λ s. IsGroup s) tables is is.partition.groups k d k_in,
        table_grids tables is k d k_in ∙ sides ∙ sym same,
      ) in
      let low = sum_low b board tables.lookups p.tables.folds (folded.each whole) (recursion_from_All (λ table. IsGroup table.selection × (table.selection.grid ≡ b.grid)) tables.lookups fit) in
      let here = ap (λ (ps : List Part). sum_of ps b) (all_folded_parts p.tables folded.none_whole) in
      let there = ap (λ (ps : List Part). sum_of ps b) (whole_parts tables whole) in
      omega (arith, low, here, there);
}

-- ---- The certificate of a plan that answers a problem.

-- these fields are those of it
pub stated : (p : JobModel) (shape : ShapeModel) (costs : WeightsModel) (groups : PartitionModel) (start goal : BoardModel) (cost : ℕ) (plan : List Move) (rows : List (BoardModel × ℕ)) → shape ≡ p.goal.grid → costs ≡ p.rule → groups ≡ p.tables.split → start ≡ p.start → goal ≡ p.goal
    → record { version = Two; grid = shape; costs = costs; groups = groups; start = start; goal = goal; cost = cost; plan = Some plan; rows = rows } ≡ certificate_in p cost plan rows
stated p shape costs groups start goal cost plan rows e1 e2 e3 e4 e5 = λ i. record { version = Two; grid = e1 i; costs = e2 i; groups = e3 i; start = e4 i; goal = e5 i; cost = cost; plan = Some plan; rows = rows }

-- certificates of equal plans are equal
pub alike : (p : JobModel) (cost cost' : ℕ) (plan plan' : List Move) (rows rows' : List (BoardModel × ℕ)) → cost ≡ cost' → Some plan ≡ Some plan' → rows ≡ rows' → certificate_in p cost plan rows ≡ certificate_in p cost' plan' rows'
alike p cost cost' plan plan' rows rows' e1 e2 e3 = λ i. record { version = Two; grid = p.goal.grid; costs = p.rule; groups = p.tables.split; start = p.start; goal = p.goal; cost = e1 i; plan = e2 i; rows = e3 i }

module _ (p : JobModel) (cost : ℕ) (plan : Vec Move Global) (rows : Vec (BoardModel × ℕ) Global) (answers : Answers (task_in p) (Optimal cost plan rows)) (task : IsTask (task_in p)) where
  -- it is one
  pub certificate_is : KeysAreInOrder → IsTables p.tables → p.tables.split.grid ≡ p.goal.grid → AreCostsOf p.goal.grid p.rule → length rows.items < 2 ^ 64 → IsCertificate (certificate_in p cost plan.items rows.items)
  certificate_is order tables sides costs few = record {
    sides = task.goal.sides;
    costs = costs;
    groups = record { split = tables.partition; sides = sides };
    start = record { board = task.start; sides = task.sides };
    goal = record { board = task.goal; sides = refl };
    claim = tt;
    cost = answers.3;
    plan = answers.4;
    count = few;
    rows = rows_fit p.goal.grid rows.items answers.2.boards answers.2.low;
    rising = rise order p.goal.grid rows.items answers.2.boards answers.2.rising;
  }

  -- with tables that are as good as the problem's it proves its cost
  pub proved_with : (tables : BoundModel) → AreAsGood p tables → IsProved (certificate_in p cost plan.items rows.items) tables
  proved_with tables good = record {
    plan = answers.0;
    fit = record { groups = good.groups; whole = good.whole; potentials = good.potentials };
    rows = proved_above p.rule rows.items (sum_in p.tables) (sum_in tables) p.start p.goal cost task.start task.sides answers.2.boards good.sums answers.2.proves;
  }

-- so it is accepted with them
pub plans_accepted : PlansAreAccepted
plans_accepted p tables cost plan rows task good answers = proved_with p cost plan rows answers task tables good

-- and is one of version 2
pub plans_certified : KeysAreInOrder → PlansHaveCertificates
plans_certified order p cost plan rows task tables sides costs few answers = (certificate_is p cost plan rows answers task order tables sides costs few, refl)

-- the certificate of a bound is accepted, too
pub bounds_accepted : BoundsAreAccepted
bounds_accepted p tables bound best cause rows task good answers = record {
  plan = tt;
  fit = record { groups = good.groups; whole = good.whole; potentials = good.potentials };
  rows = proved_above p.rule rows.items (sum_in p.tables) (sum_in tables) p.start p.goal bound task.start task.sides answers.1.boards good.sums answers.1.proves;
}

-- which is one
pub bound_certificate_is : KeysAreInOrder → BoundsHaveCertificates
bound_certificate_is order p bound best cause rows task tables sides costs low few answers = record {
  sides = task.goal.sides;
  costs = costs;
  groups = record { split = tables.partition; sides = sides };
  start = record { board = task.start; sides = task.sides };
  goal = record { board = task.goal; sides = refl };
  claim = tt;
  cost = low;
  plan = tt;
  count = few;
  rows = rows_fit p.goal.grid rows.items answers.1.boards answers.1.low;
  rising = rise order p.goal.grid rows.items answers.1.boards answers.1.rising;
}

-- ---- What is proved with tables leaves no cheaper plan.

-- where a plan is called least
pub none_below_a_plan : RowsSuffice → TablesAreLowerBounds → NoPlanIsBelowAProvedOne
none_below_a_plan suffice lower p tables cost plan rows start there sides proved = suffice p.rule rows.items (sum_in tables) p.start p.goal cost start proved.rows (lower p.rule p.goal tables there (sym sides) proved.fit.potentials)

-- and where a bound is given
pub none_below_a_bound : RowsSuffice → TablesAreLowerBounds → NoPlanIsBelowAProvedBound
none_below_a_bound suffice lower p tables bound rows start there sides proved = suffice p.rule rows.items (sum_in tables) p.start p.goal bound start proved.rows (lower p.rule p.goal tables there (sym sides) proved.fit.potentials)
