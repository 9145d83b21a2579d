use Rattle.setup_runs.proofs.SolvingLemmas.{searched_alone}
use Rattle.setup_runs.proofs.solving.answer_alone.Goals as goal

pub returns : goal.returns
returns g c =
    let run = rw c.expansion_limit-limit.ensures at c.read_over.ensures in
    searched_alone g.A.Reading.gives g.A.Reading.answers g.A.Reading.end g.A.Reading.parity c.args.question.now.setup.now c.args.question.now.start.now g.S.Spread.owner_of g.met.S.Spread.owners_are_workers c.args.spread.now c.read_over.result c.requires run
