use Rattle.std.proofs.Common.{◌∷◌, [], List, ℕ, length, subst}
use Rattle.byte_streams.specs.Streams.{change}
use Rattle.byte_streams.specs.Sink.{WritesAll, FailsWriting, Writes}
use Rattle.byte_streams.proofs.SinkLemmas.{Writes-after}
use Rattle.certificate.proofs.ReaderLemmas.{writes_stop}
use Rattle.certificate.proofs.writing.write_group.Goals as goal

pub returns-in_err-put : goal.returns-in_err-put
returns-in_err-put g c =
    let tiles = c.args.group.now.tiles in
    let sink = change g.K.Sink.state c.args.sink.now c.put.new.self in
    let fails = subst (λ (l : List ℕ). FailsWriting sink (length l ∷ [])) c.tiles-tiles.ensures.value c.in_err-put.ensures in
    writes_stop _ sink (length tiles ∷ []) tiles c.from_residual.result c.from_residual.ensures.1 fails

pub returns : goal.returns
returns g c =
    let state = g.K.Sink.state in
    let tiles = c.args.group.now.tiles in
    let first = subst (λ (l : List ℕ). WritesAll (change state c.args.sink.now c.put.new.self) (length l ∷ [])) c.tiles-tiles.ensures.value c.in_ok-put.ensures in
    let second = subst (λ (l : List ℕ). Writes (change state c.put.new.self c.put-2.new.self) l c.put-2.result) c.tiles-tiles.ensures.value c.put-2.ensures in
    Writes-after (state c.args.sink.now) (state c.put.new.self) (state c.put-2.new.self) (length tiles ∷ []) tiles c.put-2.result first second
