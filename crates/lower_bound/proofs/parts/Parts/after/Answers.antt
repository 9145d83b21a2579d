use Rattle.std.proofs.Common.{◌≡◌, length, drop, take, sym, ap, ◌∙◌, arith}
use Rattle.std.proofs.lemmas.List.{length-map, length-take-le, take_at}
use Rattle.lower_bound.specs.Folded.{value_for}
use Rattle.lower_bound.proofs.PartLemmas.{values_are}
use Rattle.lower_bound.proofs.parts.Parts.after.Goals as goal

pub renew-requires-clause-before : goal.renew-requires-clause-before
renew-requires-clause-before c = let before = c.requires.before in (before.0, before.1, c.self.view_is ∙ before.2 ∙ values_are c.args.folds.now before.0)

pub returns : goal.returns
returns c =
    let before = c.requires.before in
    let one_each : length (take c.self.inside.count c.self.inside.values) ≡ length c.args.folds.now =
    ap length (c.self.view_is ∙ before.2 ∙ values_are c.args.folds.now before.0) ∙ length-map c.args.folds.now (value_for before.0) in
    let kept : length (take c.self.inside.count c.self.inside.values) ≡ c.self.inside.count = length-take-le c.self.inside.count c.self.inside.values (omega (arith, c.self.told, c.self.invariant)) in
    let long : length c.renew.new.values ≡ c.self.inside.count = ap length c.renew.ensures ∙ length-map c.args.folds.now (value_for c.args.board.now) ∙ sym one_each ∙ kept in
    take_at c.renew.new.values (drop c.self.inside.count c.self.inside.values) c.self.inside.count long ∙ c.renew.ensures ∙ sym (values_are c.args.folds.now c.args.board.now)
