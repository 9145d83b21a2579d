use Rattle.std.proofs.Common.{rules, ◌≤◌}
use Rattle.std.proofs.lemmas.Option.{IfSome_then}
use Rattle.thread_runs.proofs.LawLemmas.{found_given, several_found, none_left, none_started, found_answers, found_whole}
use Rattle.thread_runs.proofs.solving.found_by_threads.Goals as goal

pub returns-in-Ok-clause-run : goal.returns-in-Ok-clause-run
returns-in-Ok-clause-run g c =
    let several : 2 ≤ c.args.search.now.workers = search rules in
    several_found g.A.Reading.gives g.S.Spread.owner_of c.args.search.now.job c.args.search.now.owners.now c.args.search.now.workers several c.in-Ok.found c.in-Ok.ensures

pub returns-in-Ok-clause-left : goal.returns-in-Ok-clause-left
returns-in-Ok-clause-left g c = none_left g.A.Reading.gives g.S.Spread.owner_of c.args.search.now.job c.args.search.now.owners.now c.args.search.now.workers c.in-Ok.found c.in-Ok.ensures

pub returns-in-Ok-clause-answers : goal.returns-in-Ok-clause-answers
returns-in-Ok-clause-answers g c =
    let p = c.args.search.now.job in
    let run = found_given g.A.Reading.gives g.S.Spread.owner_of p c.args.search.now.owners.now c.args.search.now.workers c.in-Ok.found c.in-Ok.ensures in
    IfSome_then c.in-Ok.found run (found_answers g.A.Reading.gives g.S.Spread.owner_of p c.args.search.now.owners.now c.args.search.now.workers c.bound.ensures.lower g.A.Reading.answers c.joined_worlds_answer.ensures.answers)

pub returns-in-Ok-clause-kept : goal.returns-in-Ok-clause-kept
returns-in-Ok-clause-kept g c =
    let p = c.args.search.now.job in
    let run = found_given g.A.Reading.gives g.S.Spread.owner_of p c.args.search.now.owners.now c.args.search.now.workers c.in-Ok.found c.in-Ok.ensures in
    IfSome_then c.in-Ok.found run (found_whole g.A.Reading.gives g.S.Spread.owner_of p c.args.search.now.owners.now c.args.search.now.workers c.bound.ensures.lower g.A.Reading.end c.keep_laws.ensures.bounds)

pub returns-in-Err-clause-left : goal.returns-in-Err-clause-left
returns-in-Err-clause-left g c = none_started g.S.Spread.owner_of c.owners_are_workers.ensures c.args.search.now.job c.args.search.now.owners.now c.args.search.now.workers c.goal.ensures.task c.args.search.now.count
