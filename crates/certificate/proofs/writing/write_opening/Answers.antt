use Rattle.std.proofs.Common.{◌≡◌, ◌∷◌, [], List, ℕ, ap, ◌∙◌, subst}
use Rattle.byte_streams.specs.Streams.{change}
use Rattle.byte_streams.specs.Sink.{Writes, WritesAll, FailsWriting}
use Rattle.byte_streams.proofs.SinkLemmas.{Writes-after}
use Rattle.board.specs.Shapes.{ShapeModel}
use Rattle.certificate.specs.Spellings.{opening_text, cost_kind_of, weights_text}
use Rattle.certificate.proofs.ReaderLemmas.{writes_stop}
use Rattle.certificate.proofs.writing.write_opening.Goals as goal

pub returns-in_err-put : goal.returns-in_err-put
unfolding opening_text
returns-in_err-put g c =
    let state = g.K.Sink.state in
    let rule = c.args.costs.now in
    let last = weights_text (cost_kind_of rule) rule in
    let sides : List ℕ = rule.grid.rows ∷ rule.grid.cols ∷ cost_kind_of rule ∷ [] in
    let rows : c.rows.result ≡ rule.grid.rows = c.rows.ensures ∙ ap (λ (g : ShapeModel). g.rows) c.shape-shape.ensures.value in
    let cols : c.cols.result ≡ rule.grid.cols = c.cols.ensures ∙ ap (λ (g : ShapeModel). g.cols) c.shape-shape.ensures.value in
    let fails = subst (λ (l : List ℕ). FailsWriting (change state c.args.sink.now c.put.new.self) l) (λ i. rows i ∷ cols i ∷ c.kind.ensures i ∷ []) c.in_err-put.ensures in
    writes_stop _ (change state c.args.sink.now c.put.new.self) sides last c.from_residual.result c.from_residual.ensures.1 fails

pub returns : goal.returns
unfolding opening_text
returns g c =
    let state = g.K.Sink.state in
    let rule = c.args.costs.now in
    let last = weights_text (cost_kind_of rule) rule in
    let sides : List ℕ = rule.grid.rows ∷ rule.grid.cols ∷ cost_kind_of rule ∷ [] in
    let rows : c.rows.result ≡ rule.grid.rows = c.rows.ensures ∙ ap (λ (g : ShapeModel). g.rows) c.shape-shape.ensures.value in
    let cols : c.cols.result ≡ rule.grid.cols = c.cols.ensures ∙ ap (λ (g : ShapeModel). g.cols) c.shape-shape.ensures.value in
    let sent = subst (λ (l : List ℕ). WritesAll (change state c.args.sink.now c.put.new.self) l) (λ i. rows i ∷ cols i ∷ c.kind.ensures i ∷ []) c.in_ok-put.ensures in
    let rest = subst (λ (l : List ℕ). Writes (change state c.put.new.self c.put-2.new.self) l c.put-2.result) c.weights_behind.ensures c.put-2.ensures in
    Writes-after (state c.args.sink.now) (state c.put.new.self) (state c.put-2.new.self) sides last c.put-2.result sent rest
