use Rattle.std.proofs.Common.{◌++◌, List, sym, subst}
use Rattle.byte_streams.specs.Streams.{change}
use Rattle.byte_streams.specs.Sink.{Writes}
use Rattle.byte_streams.proofs.SinkLemmas.{Writes-after}
use Rattle.board.specs.declared.moves.Move.{Move}
use Rattle.certificate.specs.declared.certificate.Claim.{Claim}
use Rattle.certificate.specs.Certificates.{cost_of, plan_of}
use Rattle.certificate.specs.Spellings.{number_text, plan_text, claimed_text}
use Rattle.certificate.proofs.ReaderLemmas.{writes_stop}
use Rattle.certificate.proofs.writing.write_claim.Goals as goal

pub returns-in_err-write_number-in-Least : goal.returns-in_err-write_number-in-Least
returns-in_err-write_number-in-Least g c =
    let sink = change g.K.Sink.state c.args.sink.now c.write_number.new.sink in
    let r = c.from_residual.result in
    subst (λ (claim : Claim). Writes sink (claimed_text (cost_of claim) (plan_of claim)) r) (sym c.in-Least.is)
    (writes_stop _ sink (number_text c.in-Least.cost) (plan_text c.in-Least.plan.items) r c.from_residual.ensures.1 c.in_err-write_number-in-Least.ensures)

pub returns-in_ok-write_number-in-Least : goal.returns-in_ok-write_number-in-Least
returns-in_ok-write_number-in-Least g c =
    let state = g.K.Sink.state in
    let r = c.write_plan.result in
    let rest = subst (λ (plan : List Move). Writes (change state c.write_number.new.sink c.write_plan.new.sink) (plan_text plan) r) c.as_slice.ensures.value c.write_plan.ensures in
    subst (λ (claim : Claim). Writes (change state c.args.sink.now c.write_plan.new.sink) (claimed_text (cost_of claim) (plan_of claim)) r) (sym c.in-Least.is)
    (Writes-after (state c.args.sink.now) (state c.write_number.new.sink) (state c.write_plan.new.sink) (number_text c.in-Least.cost) (plan_text c.in-Least.plan.items) r c.in_ok-write_number-in-Least.ensures rest)
