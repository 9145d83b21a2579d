use Rattle.std.proofs.Common.{◌≡◌, ◌∙◌, refl, subst, sym}
use Rattle.std.specs.Prelude.{codes}
use Rattle.batch_lines.specs.Words.{IsEntry, entry_code}
use Rattle.batch_runs.specs.Batches.Answer.{refused, answered}
use Rattle.batch_runs.specs.Batches.AnswersEntry.{by_fault, by_outcome, by_want}
use Rattle.batch_runs.proofs.answering.Answerer.answer_line.Goals as goal

pub returns-in-Err-clause-report : goal.returns-in-Err-clause-report
returns-in-Err-clause-report g c =
    let fault = c.in-Err.fault in
    let first = rw (c.shape.ensures, c.self.view_is) at (c.in-Err.ensures.fault fault).0 refl in
    (refused (entry_code fault), by_fault fault first, rw c.code.ensures at c.in_ok-text-in-Err.ensures, c.with_refused.ensures, tt)

pub returns-in-Err-end_board-clause-report : goal.returns-in-Err-end_board-clause-report
returns-in-Err-end_board-clause-report g c =
    let entry = c.in-Ok.entry in
    let named = rw (c.shape.ensures, c.self.view_is) at c.in-Ok.ensures.entry in
    (refused (codes "V3"), by_want entry.id.now entry.board named c.in-Err-end_board.ensures.lacking, rw c.code-code.ensures at c.in_ok-text-in-Err-end_board.ensures, c.with_refused-in-Err-end_board.ensures, tt)

pub returns-clause-report : goal.returns-clause-report
returns-clause-report g c =
    let entry = c.in-Ok.entry in
    let named = rw (c.shape.ensures, c.self.view_is) at c.in-Ok.ensures.entry in
    let ending = c.in-Ok-end_board.solved.ending in
    let same : c.self-2.inside.solver.now ≡ c.args.self.now = c.self-2.view_is ∙ c.in-Ok-end_board.ensures.same in
    let handed = subst (λ (s : g.row.A.Denot). g.A.Solver.has_observed s entry.id.now c.in-Ok-end_board.solved) same c.observe.ensures in
    (answered entry.id.now ending, by_outcome entry.id.now entry.board ending named c.in-Ok-end_board.ensures.answered c.in_ok-text.ensures.small, c.in_ok-text.ensures.text, c.with_outcome.ensures, (entry.board, c.in-Ok-end_board.solved, named, (c.in-Ok-end_board.ensures.stats, handed), refl))

pub observe-requires : goal.observe-requires
observe-requires g c =
    let entry = c.in-Ok.entry in
    let named = rw (c.shape.ensures, c.self.view_is) at c.in-Ok.ensures.entry in
    let same : c.self-2.inside.solver.now ≡ c.args.self.now = c.self-2.view_is ∙ c.in-Ok-end_board.ensures.same in
    (c.args.bytes.now, entry.board, subst (λ (s : g.row.A.Denot). IsEntry (g.A.Ruled.rules s).grid c.args.bytes.now entry.id.now entry.board) (sym same) named, subst (λ (s : g.row.A.Denot). g.A.Solver.has_stats s entry.board c.in-Ok-end_board.solved) (sym same) c.in-Ok-end_board.ensures.stats)
