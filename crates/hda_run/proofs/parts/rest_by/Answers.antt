use Rattle.std.proofs.Common.{Option, ap, subst}
use Rattle.world_model.specs.declared.steps.Refusal.{Refusal}
use Rattle.world_model.specs.BookSteps.{RestStep}
use Rattle.world_model.specs.Turns.{turn, refusal_in}
use Rattle.worker_core.specs.Workers.{state_of, with_book}
use Rattle.hda_run.proofs.parts.rest_by.Goals as goal

pub returns-in-Ok-clause-step : goal.returns-in-Ok-clause-step
returns-in-Ok-clause-step c = λ role guide is guided.
    subst (λ (answer : Option Refusal). RestStep role (turn (with_book (state_of c.args.worker.now) c.args.book.now) answer (with_book (state_of c.rest.new.self) c.rest.new.book))) (ap refusal_in c.in-Ok.is) (c.rest.ensures.step role guide is guided)

pub returns-in-Err-clause-step : goal.returns-in-Err-clause-step
returns-in-Err-clause-step c = λ role guide is guided.
    subst (λ (answer : Option Refusal). RestStep role (turn (with_book (state_of c.args.worker.now) c.args.book.now) answer (with_book (state_of c.rest.new.self) c.rest.new.book))) (ap refusal_in c.in-Err.is) (c.rest.ensures.step role guide is guided)
