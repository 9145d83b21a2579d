use Rattle.world_model.proofs.ShapeKept.{expand_shaped, settle_shaped, send_shaped, deliver_shaped}
use Rattle.world_model.proofs.StepCases.{book_steps_keep}
use Rattle.world_model.proofs.laws.steps_keep_their_worker.Goals as goal

pub returns : goal.returns
returns c = record { expand = expand_shaped; settle = settle_shaped; send = send_shaped; deliver = deliver_shaped; book = book_steps_keep }
