use Rattle.std.proofs.Common.{◌⊎◌, Ok, Err, ap, inl, inr}
use Rattle.std.specs.Prelude.{IfOk, Result}
use Rattle.memory.specs.declared.OutOfMemory.{OutOfMemory}
use Rattle.hda_run.specs.Jobs.{task_in}
use Rattle.hda_run.proofs.LawLemmas.{not_apart, parity_answers, parity_differs, parity_whole}
use Rattle.thread_runs.proofs.solving.search_by_workers.Goals as goal

-- what one worker finds is an answer, where it is left to one
left_to_one : {X : Type 0} (by_several by_one : X → Type 0) {Left : Type 0} (result : Result X OutOfMemory) → IfOk result by_one → Left → IfOk result (λ answer. by_several answer ⊎ (by_one answer × Left))
left_to_one by_several by_one (Ok answer) found left = inr (found, left)
left_to_one by_several by_one (Err refused) found left = found

pub returns-then-are_apart : goal.returns-then-are_apart
returns-then-are_apart g c =
    let laws = c.keep_laws.ensures in
    let apart = c.are_apart.ensures.0 c.if-are_apart.true in
    record {
      parity = (λ is. apart, λ other. ap Ok c.of_parity.ensures);
      run = λ together. absurd (apart together);
      answers = parity_answers g.A.Reading.answers g.A.Reading.parity laws.parity (task_in c.args.search.job) c.plans_keep_the_class.ensures.plans c.goal.ensures.task apart c.of_parity.result c.of_parity.ensures;
      kept = parity_whole g.A.Reading.end g.A.Reading.parity c.of_parity.result laws.end c.of_parity.ensures;
    }

pub returns-in-Some : goal.returns-in-Some
returns-in-Some g c =
    let together = not_apart c.args.search.job.start c.args.search.job.goal c.are_apart.result c.are_apart.ensures c.if-are_apart.false in
    record {
      parity = parity_differs g.A.Reading.answers g.A.Reading.parity c.keep_laws.ensures.parity (task_in c.args.search.job) together (Ok c.in-Some.answer) c.in-Some.ensures.answers;
      run = λ same. inl c.in-Some.ensures.run;
      answers = c.in-Some.ensures.answers;
      kept = c.in-Some.ensures.kept;
    }

pub returns : goal.returns
returns g c =
    let together = not_apart c.args.search.job.start c.args.search.job.goal c.are_apart.result c.are_apart.ensures c.if-are_apart.false in
    record {
      parity = parity_differs g.A.Reading.answers g.A.Reading.parity c.keep_laws.ensures.parity (task_in c.args.search.job) together c.search_one.result c.search_one.ensures.answers;
      run = λ same. left_to_one _ _ c.search_one.result c.search_one.ensures.run c.in_default.ensures.left;
      answers = c.search_one.ensures.answers;
      kept = c.search_one.ensures.kept;
    }
