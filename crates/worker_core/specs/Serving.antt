-- What a worker and the context of its steps have in common.
use Rattle.std.specs.Prelude.{◌≡◌, length}
use Rattle.board.specs.Boards.{BoardModel}
use Rattle.outcomes.specs.Outcomes.{Task}
use Rattle.search_lists.specs.Lists.{SearchListsModel}
use Rattle.search_lists.specs.Orders.{Guide, IsInOrder}
use Rattle.worker_core.specs.Contexts.{ContextModel, task_from}
use Rattle.worker_core.specs.Roles.{AreTaskBoards, IsGuideOf, IsGuided}
use Rattle.worker_core.specs.declared.worker.Worker.{Worker}

-- each guide of the search by which the lists were in order is still one
abbrev pub StaysGuided : {S : Type 0} → ContextModel S → SearchListsModel → SearchListsModel → Type 0
StaysGuided context old new = (start : BoardModel) (guide : Guide) → IsGuided (task_from start context) guide old → IsGuided (task_from start context) guide new

-- Each guide of the search that ordered the lists still does, and what they know is boards of a task with its goal, if it was so before.
pub record StayInOrder {S : Type 0} (context : ContextModel S) (old new : SearchListsModel) : Type 0 where
  pub order : (start : BoardModel) (guide : Guide) → IsGuideOf (task_from start context) guide → IsInOrder guide old → IsInOrder guide new
  pub boards : (task : Task) → task.goal ≡ context.goal → AreTaskBoards task old.closed → AreTaskBoards task new.closed

module _ {S C D E K G : Type 0} where
  -- the worker has a packet for each of the workers, and some guide of the search orders its lists
  pub record Serves (context : ContextModel S) (worker : Worker C D E K G) : Type 0 where
    pub workers : length worker.unsent.items ≡ context.workers
    pub guided : (start : BoardModel) × (guide : Guide) × IsGuided (task_from start context) guide worker.lists

  -- it has packets for as many workers as before, was granted as much, and its lists stay in order
  pub record KeepsServing (context : ContextModel S) (old new : Worker C D E K G) : Type 0 where
    pub workers : length new.unsent.items ≡ length old.unsent.items
    pub granted : new.allowance.granted ≡ old.allowance.granted
    pub guided : StaysGuided context old.lists new.lists

  -- what it knows stays in order, and what it has to send and its allowance are as they were
  pub record KeepsInOrder (context : ContextModel S) (old new : Worker C D E K G) : Type 0 where
    pub lists : StayInOrder context old.lists new.lists
    pub unsent : new.unsent ≡ old.unsent
    pub allowance : new.allowance ≡ old.allowance

module _ {C D E K G : Type 0} where
  -- what it knows, what it has to send and its allowance are as they were
  pub record KeepsLists (old new : Worker C D E K G) : Type 0 where
    pub lists : new.lists ≡ old.lists
    pub unsent : new.unsent ≡ old.unsent
    pub allowance : new.allowance ≡ old.allowance

  -- it knows the same boards, what waits is in order by each guide by which it was, and what it has to send is as it was
  pub record KeepsOrder (old new : Worker C D E K G) : Type 0 where
    pub closed : new.lists.closed ≡ old.lists.closed
    pub order : (guide : Guide) → IsInOrder guide old.lists → IsInOrder guide new.lists
    pub guided : (task : Task) (guide : Guide) → IsGuided task guide old.lists → IsGuided task guide new.lists
    pub unsent : new.unsent ≡ old.unsent
