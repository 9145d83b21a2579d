use Rattle.std.proofs.Common.{rules, sym}
use Rattle.std.specs.Prelude.{IsTrue}
use Rattle.thread_runs.proofs.WorldLemmas.{world_same}
use Rattle.thread_runs.proofs.outcome.outcome_if_kept.Goals as goal

pub outcome_with-requires-after_bounds : goal.outcome_with-requires-after_bounds
outcome_with-requires-after_bounds g c κs within = (
  c.args.book.now,
  c.requires.world.0,
  world_same g.S.Spread.owner_of c.args.search.now.job c.args.search.now.owners.now g.C.Tokens.workers c.args.book.now c.args.workers.now c.is_kept.new.workers c.args.ins.items c.requires.world.0 c.is_kept.ensures.same c.is_kept.ensures.guided c.requires.world.1,
)

pub returns-then-not-is_kept-clause-given : goal.returns-then-not-is_kept-clause-given
returns-then-not-is_kept-clause-given g c = λ w is kept.
    let yes : IsTrue c.is_kept.result = (c.is_kept.ensures.kept w is.parts is.book_is is.at_quiet).1 kept in
    absurd (search rules)

pub returns-clause-given : goal.returns-clause-given
returns-clause-given g c = λ w is.
    let yes : IsTrue c.is_kept.result = search rules in
    let same = world_same g.S.Spread.owner_of c.args.search.now.job c.args.search.now.owners.now g.C.Tokens.workers c.args.book.now c.args.workers.now c.is_kept.new.workers c.args.ins.items w c.is_kept.ensures.same c.is_kept.ensures.guided is in
    ((c.is_kept.ensures.kept w is.parts is.book_is is.at_quiet).0 yes, c.outcome_with.ensures.given c.args.book.now w same (sym c.stop-stop.ensures.value))
