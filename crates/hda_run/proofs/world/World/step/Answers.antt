use Rattle.world_model.specs.Turns.{refusal_in, turn}
use Rattle.hda_run.specs.Worlds.{world_of}
use Rattle.hda_run.proofs.PartsLemmas.{found_after}
use Rattle.hda_run.proofs.world.World.step.Goals as goal

pub invariant_of-self : goal.invariant_of-self
invariant_of-self g c =
    let owner_of = g.S.Spread.owner_of in
    let old = c.self.inside.parts in
    let new = c.step.new.self in
    let kept = c.self.invariant.lawful in
    let it = turn (world_of owner_of old) (refusal_in c.step.result) (world_of owner_of new) in
    let step = c.step.ensures.step in
    record {
      lawful = record {
        shaped = c.steps_keep_shaped.ensures c.args.step it step kept.shaped;
        sound = c.steps_keep_sound.ensures c.args.step it step kept.shaped kept.sound;
        credited = c.steps_keep_credited.ensures c.args.step it step kept.credited;
        guided = c.step.ensures.guided;
      };
      found = found_after owner_of old new c.args.step (refusal_in c.step.result) step c.step.ensures.job c.step.ensures.owners c.step.new.ahead c.step.ensures.found;
    }
