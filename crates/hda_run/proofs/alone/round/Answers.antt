use Rattle.std.proofs.Common.{◌≡◌, ◌<◌, ℕ, None, sym, subst, true, false}
use Rattle.world_model.specs.declared.steps.Refusal.{Refusal}
use Rattle.world_model.specs.declared.steps.Step.TheVariants.{Expand}
use Rattle.hda_run.specs.Rounds.{RefusesStep, work_left}
use Rattle.hda_run.specs.Worlds.{world_of}
use Rattle.hda_run.proofs.AloneLemmas.{expands, takes, stays, reaches_on, refused_alone, quiet_only}
use Rattle.hda_run.proofs.alone.round.Goals as goal

pub show_lists-requires : goal.show_lists-requires
show_lists-requires g c = (expands (world_of g.S.Spread.owner_of c.args.world.now) c.requires (world_of g.S.Spread.owner_of c.take.new.world) c.in_default.ensures.step).0

pub announce_when_met-requires : goal.announce_when_met-requires
announce_when_met-requires g c = (expands (world_of g.S.Spread.owner_of c.args.world.now) c.requires (world_of g.S.Spread.owner_of c.take.new.world) c.in_default.ensures.step).0

pub returns-in_default-clause-run : goal.returns-in_default-clause-run
returns-in_default-clause-run g c =
    let old = world_of g.S.Spread.owner_of c.args.world.now in
    let middle = world_of g.S.Spread.owner_of c.take.new.world in
    let new = world_of g.S.Spread.owner_of c.announce_when_met.new.world in
    reaches_on old middle new (takes (Expand 0) None old middle (λ h. h) c.in_default.ensures.step (expands old c.requires middle c.in_default.ensures.step).0) c.announce_when_met.ensures.run

pub returns-in_default-clause-less : goal.returns-in_default-clause-less
returns-in_default-clause-less g c accepted =
    let old = world_of g.S.Spread.owner_of c.args.world.now in
    let less = (expands old c.requires (world_of g.S.Spread.owner_of c.take.new.world) c.in_default.ensures.step).1 in
    subst (λ (n : ℕ). n < work_left old) (sym c.announce_when_met.ensures.same) less

pub be_granted-requires-clause-lone : goal.be_granted-requires-clause-lone
be_granted-requires-clause-lone g c = (refused_alone (world_of g.S.Spread.owner_of c.args.world.now) c.requires c.in-Err.refusal (world_of g.S.Spread.owner_of c.take.new.world) c.in-Err.ensures.step).lone

pub be_granted-requires-clause-spent : goal.be_granted-requires-clause-spent
be_granted-requires-clause-spent g c =
    let new = world_of g.S.Spread.owner_of c.take.new.world in
    subst (λ (r : Refusal). RefusesStep new (Expand 0) r) c.in-NoAllowance.is (refused_alone (world_of g.S.Spread.owner_of c.args.world.now) c.requires c.in-Err.refusal new c.in-Err.ensures.step).refuses

pub returns-in-Memory-clause-run : goal.returns-in-Memory-clause-run
returns-in-Memory-clause-run g c =
    let old = world_of g.S.Spread.owner_of c.args.world.now in
    let new = world_of g.S.Spread.owner_of c.take.new.world in
    let left = refused_alone old c.requires c.in-Err.refusal new c.in-Err.ensures.step in
    stays old new left.same left.lone

pub returns-in-Memory-clause-stuck : goal.returns-in-Memory-clause-stuck
returns-in-Memory-clause-stuck g c =
    let new = world_of g.S.Spread.owner_of c.take.new.world in
    subst (λ (r : Refusal). RefusesStep new (Expand 0) r) c.in-Memory.is (refused_alone (world_of g.S.Spread.owner_of c.args.world.now) c.requires c.in-Err.refusal new c.in-Err.ensures.step).refuses

pub returns-in_default-refusal : goal.returns-in_default-refusal
returns-in_default-refusal g c =
    let old = world_of g.S.Spread.owner_of c.args.world.now in
    let new = world_of g.S.Spread.owner_of c.take.new.world in
    let left = refused_alone old c.requires c.in-Err.refusal new c.in-Err.ensures.step in
    let quiet = quiet_only c.in-Err.refusal left.why c.in_default-refusal.not-NoAllowance c.in_default-refusal.not-Memory in
    record {
      run = stays old new left.same left.lone;
      less = λ e. absurd (let e : false ≡ true = e in cc);
      stuck = subst (λ (r : Refusal). RefusesStep new (Expand 0) r) quiet left.refuses;
      job = c.take.ensures.job;
    }
