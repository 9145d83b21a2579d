use Rattle.std.proofs.Common.{◌≡◌, ◌++◌, ◌∷◌, [], All, IfSome, Option, Some, subst, sym}
use Rattle.std.proofs.lemmas.List.Elements.{All-push}
use Rattle.board.specs.Boards.{BoardModel}
use Rattle.batch_runs.specs.declared.stats.Solved.{Solved}
use Rattle.batch_runs.specs.Batches.{AreAllowed}
use Rattle.setup_runs.specs.Ahead.{IsEndedAlone}
use Rattle.setup_runs.specs.Solving.{MayAnswer, HasStats, rules_of}
use Rattle.setup_runs.proofs.ahead.take_endings.Goals as goal

pub places-preserved : goal.places-preserved
places-preserved c =
    let setup = c.args.setup.now in
    let pushed : c.push.new.items.items ≡ c.places.ready.items ++ c.entry_of.result ∷ [] = rw c.if-is_err.ensures.negation at c.push.ensures.items in
    let allowed = All-push (λ (it : BoardModel × Option Solved). IfSome it.1 (λ solved. MayAnswer setup it.0 (Some solved.ending))) c.places.ready.items c.entry_of.result c.places.invariant.1 c.entry_of.ensures.ending in
    let stats = All-push (λ (it : BoardModel × Option Solved). IfSome it.1 (HasStats setup it.0)) c.places.ready.items c.entry_of.result c.places.invariant.2 c.entry_of.ensures.stats in
    let alone = All-push (λ (it : BoardModel × Option Solved). IfSome it.1 IsEndedAlone) c.places.ready.items c.entry_of.result c.places.invariant.3 c.entry_of.ensures.alone in
    (c.take_tried-tried.ensures.lanes, subst (AreAllowed (rules_of setup)) (sym pushed) allowed, subst (All (λ (it : BoardModel × Option Solved). IfSome it.1 (HasStats setup it.0))) (sym pushed) stats, subst (All (λ (it : BoardModel × Option Solved). IfSome it.1 IsEndedAlone)) (sym pushed) alone)
