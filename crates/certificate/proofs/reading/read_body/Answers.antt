use Rattle.std.proofs.Common.{subst}
use Rattle.byte_streams.specs.Streams.{change}
use Rattle.board.specs.Shapes.{ShapeModel}
use Rattle.certificate.specs.Certificates.{cost_of, plan_of}
use Rattle.certificate.specs.Fields.{SpellsBoard}
use Rattle.certificate.specs.Readings.{board, body}
use Rattle.certificate.specs.Sources.{RefusesInput, Finds}
use Rattle.certificate.proofs.ReaderLemmas.{passed}
use Rattle.certificate.proofs.TextLemmas.{board_law}
use Rattle.certificate.proofs.SourceLemmas.{first_refuses, then_refuses, found_as}
use Rattle.certificate.proofs.LawLemmas.{body_found}
use Rattle.certificate.proofs.reading.read_body.Goals as goal

pub returns-in_err-start : goal.returns-in_err-start
unfolding body
returns-in_err-start g c =
    let state = g.S.Source.state in
    let r = subst (λ (g : ShapeModel). RefusesInput (board g) (change state c.args.source.now c.read_board.new.source) c.in_err-start.field-0.0) c.shape-shape.ensures.value c.in_err-start.ensures in
    passed (body c.args.version c.args.claim c.args.costs c.args.groups) _ (change state c.args.source.now c.read_board.new.source) c.from_residual.result c.in_err-start.field-0.0 c.from_residual.ensures.1
    (first_refuses _ r)

pub returns-in_err-goal : goal.returns-in_err-goal
unfolding body
returns-in_err-goal g c =
    let state = g.S.Source.state in
    let grid = c.args.costs.grid in
    let start = subst (λ (g : ShapeModel). Finds (SpellsBoard g) (change state c.args.source.now c.read_board.new.source) c.in_ok-start.start) c.shape-shape.ensures.value c.in_ok-start.ensures in
    let r = subst (λ (g : ShapeModel). RefusesInput (board g) (change state c.read_board.new.source c.read_board-2.new.source) c.in_err-goal.field-0.0) c.shape-shape.ensures.value c.in_err-goal.ensures in
    passed (body c.args.version c.args.claim c.args.costs c.args.groups) _ (change state c.args.source.now c.read_board-2.new.source) c.from_residual-in_err-goal.result c.in_err-goal.field-0.0 c.from_residual-in_err-goal.ensures.1
    (then_refuses _ (board_law grid c.shape-shape.ensures.rule.sides) start (first_refuses _ r))

pub returns-in_err-claim : goal.returns-in_err-claim
unfolding body
returns-in_err-claim g c =
    let state = g.S.Source.state in
    let grid = c.args.costs.grid in
    let start = subst (λ (g : ShapeModel). Finds (SpellsBoard g) (change state c.args.source.now c.read_board.new.source) c.in_ok-start.start) c.shape-shape.ensures.value c.in_ok-start.ensures in
    let end = subst (λ (g : ShapeModel). Finds (SpellsBoard g) (change state c.read_board.new.source c.read_board-2.new.source) c.in_ok-goal.goal) c.shape-shape.ensures.value c.in_ok-goal.ensures in
    passed (body c.args.version c.args.claim c.args.costs c.args.groups) _ (change state c.args.source.now c.read_claimed.new.source) c.from_residual-in_err-claim.result c.in_err-claim.field-0.0 c.from_residual-in_err-claim.ensures.1
    (then_refuses _ (board_law grid c.shape-shape.ensures.rule.sides) start (then_refuses _ (board_law grid c.shape-shape.ensures.rule.sides) end (first_refuses _ c.in_err-claim.ensures)))

pub returns : goal.returns
returns g c =
    let state = g.S.Source.state in
    let start = subst (λ (g : ShapeModel). Finds (SpellsBoard g) (change state c.args.source.now c.read_board.new.source) c.in_ok-start.start) c.shape-shape.ensures.value c.in_ok-start.ensures in
    let end = subst (λ (g : ShapeModel). Finds (SpellsBoard g) (change state c.read_board.new.source c.read_board-2.new.source) c.in_ok-goal.goal) c.shape-shape.ensures.value c.in_ok-goal.ensures in
    let claim = c.in_ok-claim.claim in
    let claimed = found_as {y = (cost_of claim, plan_of claim)} (λ text spells. spells) c.in_ok-claim.ensures in
    found_as (λ text spells. spells)
    (body_found {v = c.args.version} {split = c.args.groups} _ start end claimed
    (λ i. record {
      version = c.args.version;
      grid = c.shape-shape.ensures.value i;
      costs = c.args.costs;
      groups = c.args.groups;
      start = c.in_ok-start.start;
      goal = c.in_ok-goal.goal;
      cost = cost_of claim;
      plan = plan_of claim;
      rows = c.new.ensures.items i;
    }))
