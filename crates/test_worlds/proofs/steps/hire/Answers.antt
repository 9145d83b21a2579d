use Rattle.std.proofs.Common.{◌≡◌, ℕ, ◌<◌, Option, Some, None, sym, ◌∙◌, arith, subst}
use Rattle.std.specs.Ordering.{nat_cmp}
use Rattle.outcomes.specs.Outcomes.{Task}
use Rattle.closed_table.specs.Tables.{empty_table}
use Rattle.search_lists.specs.Lists.{empty_lists, SearchListsModel}
use Rattle.search_lists.specs.Orders.{Guide, IsInOrder}
use Rattle.world_model.specs.declared.parts.Known.{Known}
use Rattle.world_model.specs.Knowledge.{Knowledge}
use Rattle.worker_core.specs.Roles.{AreTaskBoards, guide_of, task_of}
use Rattle.std.specs.FinMap as map
use Rattle.test_worlds.proofs.steps.hire.Goals as goal

-- Lists with no board are in order by each guide, and know only boards of the task.

abbrev no_boards : Knowledge
no_boards = map.empty

unknown : (key : ℕ) (known : Known) → map.get no_boards key ≡ Some known → ⊥
unknown key known at = let none : ◌≡◌ {A = Option Known} None (Some known) = sym (map.get-empty nat_cmp key) ∙ at in cc

-- nothing waits where nothing is known
empty_order : (guide : Guide) → IsInOrder guide empty_lists
empty_order guide = record {
  waits = λ key known at. absurd (unknown key known at.knows);
  adds = λ f place cost has. let inside : has.0 < 0 = has.1 in absurd (omega (arith, inside));
}

-- nothing is known that is no board of the task
empty_boards : (task : Task) → AreTaskBoards task empty_table
empty_boards task = λ key known at. absurd (unknown key known at)

pub returns : goal.returns
returns g c =
    let job = c.args.job.now in
    let task = task_of job.goal job.goal job.weights job.bound in
    let guide = guide_of task in
    let none : c.in-Ok.worker.lists ≡ empty_lists = c.in-Ok.ensures.lists in (
      job.goal,
      guide,
      record {
        guides = c.tasks_have_guides.ensures task c.shape.ensures.board;
        order = subst (IsInOrder guide) (sym none) (empty_order guide);
        boards = subst (λ (s : SearchListsModel). AreTaskBoards task s.closed) (sym none) (empty_boards task);
      },
    )
