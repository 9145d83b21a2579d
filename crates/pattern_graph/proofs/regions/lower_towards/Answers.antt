use Rattle.std.proofs.Common.{refl, sym, ◌∙◌, arith}
use Rattle.std.specs.Prelude.{slice_index}
use Rattle.std.proofs.lemmas.Bool.{false≢true}
use Rattle.board.proofs.MoveLemmas.{cell_below}
use Rattle.pattern_graph.proofs.RegionLemmas.{lowered_labels, lowering_at}
use Rattle.pattern_graph.proofs.regions.lower_towards.Goals as goal

pub bounds-labels-next : goal.bounds-labels-next
bounds-labels-next c =
    let low = cell_below c.args.shape c.args.direction c.args.cell c.in-Some.next ((c.in-Some.ensures.towards c.in-Some.next).0 refl) in
    omega arith

pub returns-then-label-labels : goal.returns-then-label-labels
returns-then-label-labels c = record {
  labels = lowered_labels c.args.shape c.args.cells.now c.args.labels.now c.args.cell c.in-Some.next c.args.direction (omega arith) c.requires.labels c.requires.free ((c.in-Some.ensures.towards c.in-Some.next).0 refl) (λ on. absurd (false≢true (sym c.if-stands_on.false ∙ c.stands_on.ensures.1 on))) c.if-label-labels.true;
  lowering = (let size = c.requires.labels.size in lowering_at c.args.labels.now c.args.cell (slice_index c.args.labels.now c.in-Some.next) (omega arith) c.if-label-labels.true);
  settled = λ e. absurd (false≢true (sym e));
}
