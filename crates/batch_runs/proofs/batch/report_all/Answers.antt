use Rattle.std.proofs.Common.{List, ℕ, ◌≡◌, ◌+◌, rules, refl, sym, ◌∙◌, inl, inr}
use Rattle.board.specs.Boards.{BoardModel}
use Rattle.byte_streams.specs.Streams.{from_to}
use Rattle.batch_runs.specs.Batches.{answer_text}
use Rattle.batch_runs.specs.declared.stats.Solved.{Solved}
use Rattle.batch_runs.proofs.BatchLemmas.{IsRunning-none, IsNext, IsRunning-more, IsRunning-passed, reports_part, hands_so_far, hands_part, CountsKnown-more}
use Rattle.batch_lines.proofs.LineLemmas.{counted_at_once}
use Rattle.batch_runs.proofs.batch.report_all.Goals as goal

pub lines-init : goal.lines-init
lines-init g c =
    let handed : List ℕ → BoardModel → Solved → Type 0 = λ id b solved. g.A.Solver.has_stats c.args.solver.now b solved × g.A.Solver.has_observed c.args.solver.now id solved in
    let source = g.S.Source.state c.args.source.now in
    let sink = g.K.Sink.state c.args.sink.now in
    rw c.new-reader.ensures (record {
      running = IsRunning-none (g.A.Ruled.rules c.args.solver.now) handed source sink;
      taken = counted_at_once source.left 0;
      unfailed = refl;
      flushed = inr refl;
      solver = c.new-answerer.ensures;
    })

pub returns-in_default-send_report-clause-reports : goal.returns-in_default-send_report-clause-reports
returns-in_default-send_report-clause-reports g c =
    let allowed = g.A.Ruled.rules c.args.solver.now in
    let handed : List ℕ → BoardModel → Solved → Type 0 = λ id b solved. g.A.Solver.has_stats c.args.solver.now b solved × g.A.Solver.has_observed c.args.solver.now id solved in
    let source = g.S.Source.state in
    let sink = g.K.Sink.state in
    let read = rw c.in-Some.is at c.in-Ok.ensures in
    let report = rw (c.bytes.ensures, c.lines.invariant.solver) at c.in-Ok-report_line.ensures.report in
    let text : c.as_str.result.now ≡ answer_text c.in-Some.line.number report.0 = c.as_str.ensures.value ∙ report.2 in
    let next : IsNext allowed handed (from_to (source c.lines.source) (source c.next_line.new.source)) c.lines.reader.lines c.in-Some.line.number report.0 =
    record { line = read.0; kind = c.in-Some.line.kind; kept = c.next_line.new.self.kept; taken = read.1; judged = read.2; number = read.3; small = search rules; is = report.1; figures = report.4 } in
    let sent = rw text at c.in_default-send_report.ensures.writes in
    (reports_part allowed handed (source c.args.source.now) (source c.lines.source) (source c.next_line.new.source) (sink c.args.sink.now) (sink c.lines.sink) (sink c.send_report.new.sink) c.lines.reader.lines c.in-Some.line.number c.lines.summary report.0 c.lines.invariant.running next sent.0, read.7.0.1, sent.1)

pub returns-in-Err-clause-figures : goal.returns-in-Err-clause-figures
returns-in-Err-clause-figures g c =
    let allowed = g.A.Ruled.rules c.args.solver.now in
    let handed : List ℕ → BoardModel → Solved → Type 0 = λ id b solved. g.A.Solver.has_stats c.args.solver.now b solved × g.A.Solver.has_observed c.args.solver.now id solved in
    let source = g.S.Source.state in
    let sink = g.K.Sink.state in
    hands_so_far allowed handed (source c.args.source.now) (source c.lines.source) (sink c.args.sink.now) (sink c.lines.sink) c.lines.reader.lines c.lines.summary c.lines.invariant.running

pub returns-in_default-send_report-clause-figures : goal.returns-in_default-send_report-clause-figures
returns-in_default-send_report-clause-figures g c =
    let allowed = g.A.Ruled.rules c.args.solver.now in
    let handed : List ℕ → BoardModel → Solved → Type 0 = λ id b solved. g.A.Solver.has_stats c.args.solver.now b solved × g.A.Solver.has_observed c.args.solver.now id solved in
    let source = g.S.Source.state in
    let sink = g.K.Sink.state in
    let read = rw c.in-Some.is at c.in-Ok.ensures in
    let report = rw (c.bytes.ensures, c.lines.invariant.solver) at c.in-Ok-report_line.ensures.report in
    let text : c.as_str.result.now ≡ answer_text c.in-Some.line.number report.0 = c.as_str.ensures.value ∙ report.2 in
    let next : IsNext allowed handed (from_to (source c.lines.source) (source c.next_line.new.source)) c.lines.reader.lines c.in-Some.line.number report.0 =
    record { line = read.0; kind = c.in-Some.line.kind; kept = c.next_line.new.self.kept; taken = read.1; judged = read.2; number = read.3; small = search rules; is = report.1; figures = report.4 } in
    let sent = rw text at c.in_default-send_report.ensures.writes in
    hands_part allowed handed (source c.args.source.now) (source c.lines.source) (source c.next_line.new.source) (sink c.args.sink.now) (sink c.lines.sink) (sink c.send_report.new.sink) c.lines.reader.lines c.in-Some.line.number c.lines.summary report.0 c.lines.invariant.running next sent.0

pub lines-preserved : goal.lines-preserved
lines-preserved g c =
    let allowed = g.A.Ruled.rules c.args.solver.now in
    let handed : List ℕ → BoardModel → Solved → Type 0 = λ id b solved. g.A.Solver.has_stats c.args.solver.now b solved × g.A.Solver.has_observed c.args.solver.now id solved in
    let source = g.S.Source.state in
    let sink = g.K.Sink.state in
    let read = rw c.in-Some.is at c.in-Ok.ensures in
    let report = rw (c.bytes.ensures, c.lines.invariant.solver) at c.in-Ok-report_line.ensures.report in
    let text : c.as_str.result.now ≡ answer_text c.in-Some.line.number report.0 = c.as_str.ensures.value ∙ report.2 in
    let next : IsNext allowed handed (from_to (source c.lines.source) (source c.next_line.new.source)) c.lines.reader.lines c.in-Some.line.number report.0 =
    record { line = read.0; kind = c.in-Some.line.kind; kept = c.next_line.new.self.kept; taken = read.1; judged = read.2; number = read.3; small = search rules; is = report.1; figures = report.4 } in
    let sent = rw text at c.in-Ok-send_report.ensures.writes in
    record {
      running = rw (read.4, report.3)
          (IsRunning-more allowed handed (source c.args.source.now) (source c.lines.source) (source c.next_line.new.source) (sink c.args.sink.now) (sink c.lines.sink) (sink c.send_report.new.sink) c.lines.reader.lines c.in-Some.line.number c.lines.summary report.0 c.lines.invariant.running next sent.0);
      taken = CountsKnown-more (source c.args.source.now).left (source c.lines.source).left (source c.next_line.new.source).left 0 c.lines.reader.taken c.next_line.new.self.taken c.lines.invariant.taken read.6;
      unfailed = sent.1.1 ∙ sym sent.1.0 ∙ c.lines.invariant.unfailed;
      flushed = inl c.in-Ok-send_report.ensures.last;
      solver = c.in-Ok-report_line.ensures.same ∙ c.lines.invariant.solver;
    }

pub lines-preserved-in-PassedOver : goal.lines-preserved-in-PassedOver
lines-preserved-in-PassedOver g c =
    let allowed = g.A.Ruled.rules c.args.solver.now in
    let handed : List ℕ → BoardModel → Solved → Type 0 = λ id b solved. g.A.Solver.has_stats c.args.solver.now b solved × g.A.Solver.has_observed c.args.solver.now id solved in
    let source = g.S.Source.state in
    let sink = g.K.Sink.state in
    let read = rw c.in-Some.is at c.in-Ok.ensures in
    let at : c.next_line.new.self.lines ≡ c.lines.reader.lines + 1 = read.4 ∙ read.3 in
    record {
      running = IsRunning-passed allowed handed (source c.args.source.now) (source c.lines.source) (source c.next_line.new.source) (sink c.args.sink.now) (sink c.lines.sink) c.lines.reader.lines c.next_line.new.self.lines c.lines.summary read.0 c.next_line.new.self.kept c.in-Some.line.kind c.lines.invariant.running read.1 read.2 at (search rules) c.in-PassedOver.is;
      taken = CountsKnown-more (source c.args.source.now).left (source c.lines.source).left (source c.next_line.new.source).left 0 c.lines.reader.taken c.next_line.new.self.taken c.lines.invariant.taken read.6;
      unfailed = c.lines.invariant.unfailed;
      flushed = c.lines.invariant.flushed;
      solver = c.lines.invariant.solver;
    }
