use Rattle.std.proofs.Common.{◌≡◌, IfSome, Option, Some, refl, subst}
use Rattle.std.proofs.lemmas.List.Elements.{All-pop}
use Rattle.board.specs.Boards.{BoardModel}
use Rattle.batch_runs.specs.declared.stats.Solved.{Solved}
use Rattle.batch_runs.proofs.answering.Answerer.take_ready.Goals as goal

pub returns-then-eq-clause-answered : goal.returns-then-eq-clause-answered
returns-then-eq-clause-answered g c =
    let rules = g.A.Ruled.rules c.args.self.now in
    let allowed = rw c.self.view_is at c.self.invariant.1 in
    let popped = All-pop (λ (it : BoardModel × Option Solved). IfSome it.1 (λ solved. rules.allows it.0 (Some solved.ending))) c.self.inside.ready.items c.pop.new.self.items (Some c.in-Some.next) c.in-Some.ensures.items allowed in
    let same : c.in-Some.next.0 ≡ c.args.start.now = c.if-eq.ensures.same.0 refl in
    subst (λ (b : BoardModel). IfSome c.in-Some.next.1 (λ solved. rules.allows b (Some solved.ending))) same popped.1

pub returns-then-eq-clause-stats : goal.returns-then-eq-clause-stats
returns-then-eq-clause-stats g c =
    let solver = c.args.self.now in
    let stats = rw c.self.view_is at c.self.invariant.2 in
    let popped = All-pop (λ (it : BoardModel × Option Solved). IfSome it.1 (g.A.Solver.has_stats solver it.0)) c.self.inside.ready.items c.pop.new.self.items (Some c.in-Some.next) c.in-Some.ensures.items stats in
    let same : c.in-Some.next.0 ≡ c.args.start.now = c.if-eq.ensures.same.0 refl in
    subst (λ (b : BoardModel). IfSome c.in-Some.next.1 (g.A.Solver.has_stats solver b)) same popped.1
