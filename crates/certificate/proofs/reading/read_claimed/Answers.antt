use Rattle.std.proofs.Common.{◌≡◌, ◌≤◌, ◌≢◌, ℕ, zero, suc, List, [], refl, sym, arith, append-nil}
use Rattle.byte_streams.specs.Streams.{Change, SourceState, from_to, change}
use Rattle.certificate.specs.Fields.{SpellsNumber, SpellsNumberWithin, SpellsClaimed}
use Rattle.certificate.specs.Readings.{number, number_within, plan, claimed}
use Rattle.certificate.specs.Sources.{RefusesInput, Finds}
use Rattle.certificate.specs.declared.certificate.TheConstants.{GREATEST_BOUND}
use Rattle.certificate.specs.declared.faults.ReadFault.{ReadFault}
use Rattle.certificate.proofs.ReaderLemmas.{passed}
use Rattle.certificate.proofs.TextLemmas.{number_law}
use Rattle.certificate.proofs.SourceLemmas.{first_refuses, then_refuses}
use Rattle.certificate.proofs.reading.read_claimed.Goals as goal

bound_refuses : (claim : ℕ) (source : Change SourceState) (f : ReadFault) → claim ≢ 0 → RefusesInput (number_within GREATEST_BOUND) source f → RefusesInput (claimed claim) source f
bound_refuses zero source f other r = absurd (other refl)
bound_refuses (suc claim) source f other r = first_refuses _ r

cost_refuses : (claim : ℕ) (source : Change SourceState) (f : ReadFault) → claim ≡ 0 → RefusesInput number source f → RefusesInput (claimed claim) source f
cost_refuses zero source f none r = first_refuses _ r
cost_refuses (suc claim) source f none r = absurd (omega (arith, none))

plan_refuses : (claim : ℕ) (old mid new : SourceState) (cost : ℕ) (f : ReadFault) → claim ≡ 0 → Finds SpellsNumber (from_to old mid) cost → RefusesInput plan (from_to mid new) f → RefusesInput (claimed claim) (from_to old new) f
plan_refuses zero old mid new cost f none n r = then_refuses _ number_law n (first_refuses _ r)
plan_refuses (suc claim) old mid new cost f none n r = absurd (omega (arith, none))

pub returns-in_err-bound : goal.returns-in_err-bound
returns-in_err-bound g c =
    let source = change g.S.Source.state c.args.source.now c.read_number.new.source in
    passed (claimed c.args.claim) _ source c.from_residual.result c.in_err-bound.field-0.0 c.from_residual.ensures.1
    (bound_refuses c.args.claim source c.in_err-bound.field-0.0 (omega (arith, c.if-claim-ne0.true)) c.in_err-bound.ensures)

pub returns-in_err-cost : goal.returns-in_err-cost
returns-in_err-cost g c =
    let source = change g.S.Source.state c.args.source.now c.read_number-2.new.source in
    passed (claimed c.args.claim) _ source c.from_residual-in_err-cost.result c.in_err-cost.field-0.0 c.from_residual-in_err-cost.ensures.1
    (cost_refuses c.args.claim source c.in_err-cost.field-0.0 (omega (arith, c.if-claim-ne0.false)) c.in_err-cost.ensures)

pub returns-in_err-plan : goal.returns-in_err-plan
returns-in_err-plan g c =
    let state = g.S.Source.state in
    passed (claimed c.args.claim) _ (change state c.args.source.now c.read_plan.new.source) c.from_residual-in_err-plan.result c.in_err-plan.field-0.0 c.from_residual-in_err-plan.ensures.1
    (plan_refuses c.args.claim (state c.args.source.now) (state c.read_number-2.new.source) (state c.read_plan.new.source) c.in_ok-cost.cost c.in_err-plan.field-0.0 (omega (arith, c.if-claim-ne0.false)) c.in_ok-cost.ensures c.in_err-plan.ensures)
