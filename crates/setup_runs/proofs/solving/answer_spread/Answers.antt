use Rattle.batch_runs.specs.Setups.{owner_by}
use Rattle.setup_runs.proofs.SolvingLemmas.{found_so, setup_owners}
use Rattle.setup_runs.proofs.solving.answer_spread.Goals as goal

pub returns : goal.returns
returns g c =
    let run = rw (c.job_for.ensures, c.worker_count.ensures.value) at c.search_by_workers.ensures in
    let setup = c.args.question.now.setup.now in
    record {
      parity = run.parity;
      run = λ together. found_so g.A.Reading.gives setup c.args.question.now.start.now g.S.Spread.owner_of c.owners_are_workers.ensures c.args.spread.now owner_by setup_owners setup.spread c.requires g.A.Reading.end c.search_by_workers.result (run.run together);
      answers = run.answers;
      kept = run.kept;
    }
