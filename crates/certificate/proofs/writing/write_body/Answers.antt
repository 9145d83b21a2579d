use Rattle.std.proofs.Common.{◌≡◌, ◌++◌, List, ℕ, Option, subst, sym, ap, ◌∙◌, length}
use Rattle.std.specs.Prelude.{IfSome}
use Rattle.board.specs.Boards.{BoardModel}
use Rattle.board.specs.declared.moves.Move.{Move}
use Rattle.byte_streams.specs.Streams.{change}
use Rattle.byte_streams.specs.Sink.{WritesAll, FailsWriting, Writes}
use Rattle.byte_streams.proofs.SinkLemmas.{Writes-after}
use Rattle.certificate.specs.Certificates.{cost_of, plan_of, IsWithinLimit}
use Rattle.certificate.specs.Spellings.{claimed_text}
use Rattle.certificate.proofs.ReaderLemmas.{writes_stop}
use Rattle.certificate.proofs.writing.write_body.Goals as goal

pub write_claim-requires : goal.write_claim-requires
write_claim-requires g c = subst (λ (p : Option (List Move)). IfSome p (λ plan. IsWithinLimit (length plan))) (sym c.claim.ensures.plan) c.claim.ensures.within

pub returns-in_err-write_tiles : goal.returns-in_err-write_tiles
returns-in_err-write_tiles g c =
    let sink = change g.K.Sink.state c.args.sink.now c.write_tiles.new.sink in
    let d = c.args.certificate.now in
    writes_stop _ sink d.start.tiles (d.goal.tiles ++ claimed_text d.cost d.plan) c.from_residual.result c.from_residual.ensures.1 (subst (λ (x : BoardModel). FailsWriting sink x.tiles) c.start.ensures c.in_err-write_tiles.ensures)

pub returns-in_err-write_tiles-2 : goal.returns-in_err-write_tiles-2
returns-in_err-write_tiles-2 g c =
    let state = g.K.Sink.state in
    let d = c.args.certificate.now in
    let r = c.from_residual-in_err-write_tiles-2.result in
    Writes-after (state c.args.sink.now) (state c.write_tiles.new.sink) (state c.write_tiles-2.new.sink) d.start.tiles (d.goal.tiles ++ claimed_text d.cost d.plan) r (subst (λ (x : BoardModel). WritesAll (change state c.args.sink.now c.write_tiles.new.sink) x.tiles) c.start.ensures c.in_ok-write_tiles.ensures)
    (writes_stop _ (change state c.write_tiles.new.sink c.write_tiles-2.new.sink) d.goal.tiles (claimed_text d.cost d.plan) r c.from_residual-in_err-write_tiles-2.ensures.1 (subst (λ (x : BoardModel). FailsWriting (change state c.write_tiles.new.sink c.write_tiles-2.new.sink) x.tiles) c.goal.ensures c.in_err-write_tiles-2.ensures))

pub returns : goal.returns
returns g c =
    let state = g.K.Sink.state in
    let d = c.args.certificate.now in
    let r = c.write_claim.result in
    let claimed : claimed_text (cost_of c.claim.result.now) (plan_of c.claim.result.now) ≡ claimed_text d.cost d.plan = λ i. claimed_text (c.claim.ensures.cost i) (c.claim.ensures.plan i) in
    Writes-after (state c.args.sink.now) (state c.write_tiles.new.sink) (state c.write_claim.new.sink) d.start.tiles (d.goal.tiles ++ claimed_text d.cost d.plan) r (subst (λ (x : BoardModel). WritesAll (change state c.args.sink.now c.write_tiles.new.sink) x.tiles) c.start.ensures c.in_ok-write_tiles.ensures)
    (Writes-after (state c.write_tiles.new.sink) (state c.write_tiles-2.new.sink) (state c.write_claim.new.sink) d.goal.tiles (claimed_text d.cost d.plan) r (subst (λ (x : BoardModel). WritesAll (change state c.write_tiles.new.sink c.write_tiles-2.new.sink) x.tiles) c.goal.ensures c.in_ok-write_tiles-2.ensures)
    (subst (λ (l : List ℕ). Writes (change state c.write_tiles-2.new.sink c.write_claim.new.sink) l r) claimed c.write_claim.ensures))
