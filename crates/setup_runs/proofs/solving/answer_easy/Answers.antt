use Rattle.std.proofs.Common.{arith, inl, inr}
use Rattle.setup_runs.proofs.SolvingLemmas.{searched_by_one}
use Rattle.setup_runs.proofs.solving.answer_easy.Goals as goal

pub returns-then-limit-whole : goal.returns-then-limit-whole
returns-then-limit-whole g c =
    let run = c.in-Ok.ensures in
    searched_by_one g.A.Reading.gives g.A.Reading.answers g.A.Reading.end g.A.Reading.parity c.args.question.now.setup.now c.args.question.now.start.now c.easy_limit-limit.result g.S.Spread.owner_of g.met.S.Spread.owners_are_workers c.args.spread.now c.in-Ok.answer (omega (arith, c.easy_limit-limit.ensures.within, c.expansion_limit-whole.ensures)) (λ _. c.easy_limit-limit.ensures.few) (inl (omega (arith, c.if-limit-whole.true, c.expansion_limit-whole.ensures))) run

pub returns : goal.returns
returns g c =
    let run = c.in-Ok.ensures in
    searched_by_one g.A.Reading.gives g.A.Reading.answers g.A.Reading.end g.A.Reading.parity c.args.question.now.setup.now c.args.question.now.start.now c.easy_limit-limit.result g.S.Spread.owner_of g.met.S.Spread.owners_are_workers c.args.spread.now c.in-Ok.answer (omega (arith, c.easy_limit-limit.ensures.within, c.expansion_limit-whole.ensures)) (λ _. c.easy_limit-limit.ensures.few) (inr (c.requires, c.is_bound.ensures.no c.if-is_bound.false)) run
