use Rattle.world_model.proofs.thread_laws.steps_are_kept.Goals as goal
use Rattle.world_model.proofs.WorkerKept.{expanding_kept, settling_kept, dropping_kept}
use Rattle.world_model.proofs.LaneKept.{sending_kept, receiving_kept, book_steps_kept}

pub returns : goal.returns
returns c = record {
  expand = expanding_kept;
  settle = settling_kept;
  drop = dropping_kept;
  send = sending_kept;
  receive = receiving_kept;
  book = book_steps_kept;
}
