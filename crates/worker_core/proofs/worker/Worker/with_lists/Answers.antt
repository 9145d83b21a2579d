use Rattle.std.proofs.Common.{rules, [], length, refl, sym, ap, ◌∙◌}
use Rattle.std.proofs.lemmas.List.{length-map, length-replicate}
use Rattle.world_model.specs.Workers.{Packet}
use Rattle.worker_core.proofs.GuideLemmas.{empty_guided}
use Rattle.worker_core.proofs.worker.Worker.with_lists.Goals as goal

pub returns : goal.returns
returns g c = record {
  state = search rules;
  lists = refl;
  guided = λ task guide leads. empty_guided task guide c.args.lists leads c.requires.empty;
  allowance = refl;
  workers = sym (length-map c.in_ok-unsent.unsent.items (λ v. v.items)) ∙ ap length c.in_ok-unsent.ensures ∙ length-replicate {A = Packet} c.args.workers [];
}
