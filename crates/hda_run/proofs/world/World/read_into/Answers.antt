use Rattle.std.proofs.Common.{subst}
use Rattle.hda_run.specs.declared.parts.Parts.{Parts}
use Rattle.hda_run.specs.Jobs.{task_in}
use Rattle.hda_run.specs.Worlds.{world_of}
use Rattle.hda_run.proofs.world.World.read_into.Goals as goal

pub returns-clause-given : goal.returns-clause-given
returns-clause-given g c = subst (λ (parts : Parts g.row.S.Denot). g.A.Reading.gives (world_of g.S.Spread.owner_of parts) c.read_parts.result) c.self.view_is c.read_parts.ensures.given

pub returns-clause-answers : goal.returns-clause-answers
returns-clause-answers g c =
    let parts = c.self.inside.parts in
    let kept = c.self.invariant.lawful in
    let quiet = c.quiet_is_true.ensures.quiet (world_of g.S.Spread.owner_of parts) kept.shaped kept.credited in
    subst (λ (parts : Parts g.row.S.Denot). g.A.Reading.answers (task_in parts.job) c.read_parts.result) c.self.view_is
    (c.keep_laws.ensures.answers (world_of g.S.Spread.owner_of parts) c.read_parts.result kept.shaped kept.sound quiet c.bound.ensures.lower c.read_parts.ensures.given)
