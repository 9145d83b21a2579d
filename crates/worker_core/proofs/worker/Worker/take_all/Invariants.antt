use Rattle.std.proofs.Common.{ℕ, ◌≡◌, drop, length, Option}
use Rattle.std.specs.Prelude.{IfSome}
use Rattle.board.specs.declared.moves.Move.{Move}
use Rattle.board.specs.Boards.{BoardModel, IsBoard}
use Rattle.owners.specs.Offers.{AreOffered, OfEach}
use Rattle.outcomes.specs.Outcomes.{Task}
use Rattle.search_lists.specs.Orders.{Guide}
use Rattle.successor_sums.specs.ByMoves.{entries_of}
use Rattle.world_model.specs.declared.parts.Item.{Item}
use Rattle.world_model.specs.Workers.{Role}
use Rattle.worker_core.specs.Expanding.{IsReady, stock, AddsUpBy, all_taken}
use Rattle.worker_core.specs.Roles.{IsGuided}
use Rattle.worker_core.specs.Workers.{state_of, packets_of}
use Rattle.worker_core.proofs.ExpandLemmas.{entries_taken, offered_in}
use Rattle.worker_core.proofs.worker.Worker.take_all.Given as goal

-- what is left of the entries can be taken, and leads to what all moves lead to
abbrev pub invariant-offers : goal.invariant-offers
invariant-offers g l = record {
  ready : IsReady l.context.me l.context.goal.grid (stock l.self.lists (packets_of l.self.unsent.items)) (offered_in (drop l.place (entries_of l.offers)));
  state : (role : Role) (sum : BoardModel → ℕ) (items : Move → Option Item) → role.me ≡ l.context.me → AreOffered sum role.owner items l.offers → ((m : Move) → IfSome (items m) (λ i. IsBoard i.board × (i.board.grid ≡ l.context.goal.grid))) → ((m : Move) → IfSome (items m) (λ i. i.via ≡ m)) → entries_taken role items (state_of l.self) (drop l.place (entries_of l.offers)) ≡ all_taken role (state_of l.initial.self) items;
  guided : (task : Task) (guide : Guide) → task.goal ≡ l.context.goal → OfEach (AddsUpBy guide) l.offers → IsGuided task guide l.initial.self.lists → IsGuided task guide l.self.lists;
  workers : length l.self.unsent.items ≡ length l.initial.self.unsent.items;
  allowance : l.self.allowance ≡ l.initial.self.allowance;
}
