use Rattle.std.proofs.Common.{rules, ◌<◌, ◌^◌}
use Rattle.batch_runs.proofs.FindingLemmas.{searching_on, searching_finds, searching_fails}
use Rattle.batch_runs.proofs.finding.find_line.Goals as goal

pub lines-preserved : goal.lines-preserved
lines-preserved g c =
    let source = g.S.Source.state in
    searching_on (source c.args.source.now) (source c.lines.source) (source c.next_line.new.source) c.lines.reader c.next_line.new.self c.in-Some.line c.lines.invariant (rw c.in-Some.is at c.in-Ok.ensures) c.in-PassedOver.is

pub returns-in_default-kind : goal.returns-in_default-kind
returns-in_default-kind g c =
    let source = g.S.Source.state in
    let small : c.in-Some.line.number < 2 ^ 64 = search rules in
    searching_finds (source c.args.source.now) (source c.lines.source) (source c.next_line.new.source) c.lines.reader c.next_line.new.self c.in-Some.line c.lines.invariant (rw c.in-Some.is at c.in-Ok.ensures) c.in_default-kind.not-PassedOver small

pub returns-in-Err : goal.returns-in-Err
returns-in-Err g c =
    let source = g.S.Source.state in
    searching_fails (source c.args.source.now) (source c.lines.source) (source c.next_line.new.source) c.lines.reader c.next_line.new.self c.in-Err.failure c.lines.invariant c.in-Err.ensures
