use Rattle.std.proofs.Common.{Ok, ap}
use Rattle.hda_run.specs.Jobs.{task_in}
use Rattle.hda_run.proofs.LawLemmas.{not_apart, parity_answers, parity_differs, parity_whole}
use Rattle.hda_run.proofs.alone.read_one_over.Goals as goal

pub returns-then-are_apart-clause-answered : goal.returns-then-are_apart-clause-answered
returns-then-are_apart-clause-answered g c =
    let laws = c.keep_laws.ensures in
    let apart = c.are_apart.ensures.0 c.if-are_apart.true in
    record {
      parity = (λ is. apart, λ other. ap Ok c.of_parity.ensures);
      run = λ together. absurd (apart together);
      answers = parity_answers g.A.Reading.answers g.A.Reading.parity laws.parity (task_in c.args.job) c.plans_keep_the_class.ensures.plans c.goal.ensures.task apart c.of_parity.result c.of_parity.ensures;
      kept = parity_whole g.A.Reading.end g.A.Reading.parity c.of_parity.result laws.end c.of_parity.ensures;
    }

pub returns-clause-answered : goal.returns-clause-answered
returns-clause-answered g c =
    let together = not_apart c.args.job.start c.args.job.goal c.are_apart.result c.are_apart.ensures c.if-are_apart.false in
    record {
      parity = parity_differs g.A.Reading.answers g.A.Reading.parity c.keep_laws.ensures.parity (task_in c.args.job) together c.search_over.result c.search_over.ensures.answers;
      run = λ same. c.search_over.ensures.run;
      answers = c.search_over.ensures.answers;
      kept = c.search_over.ensures.kept;
    }
