use Rattle.std.proofs.Common.{◌∙◌}
use Rattle.world_model.specs.Turns.{refusal_in}
use Rattle.hda_run.specs.Worlds.{world_of}
use Rattle.hda_run.proofs.AloneLemmas.{one_more}
use Rattle.hda_run.proofs.runs.run_steps.Goals as goal

pub steps-preserved : goal.steps-preserved
steps-preserved g c =
    let owner_of = g.S.Spread.owner_of in
    let laws = c.runs_are_of_steps.ensures in
    let before = c.steps.invariant in (
      one_more laws.one laws.joined c.args.steps.now c.steps.step-index _ (world_of owner_of c.args.world) (world_of owner_of c.steps.world) (world_of owner_of c.step.new.self) (refusal_in c.step.result) c.steps-test.true before.0 c.step.ensures.step,
      c.step.ensures.job ∙ before.1,
      c.step.ensures.owners ∙ before.2,
    )
