use Rattle.std.proofs.Common.{◌≡◌, ◌∙◌, ap, subst}
use Rattle.byte_streams.specs.Streams.{from_to}
use Rattle.outcomes.specs.declared.outcome.Ending.{Ending}
use Rattle.outcomes.specs.Endings.{without_rows}
use Rattle.batch_runs.specs.ReportReadings.{HasSmallNumbers}
use Rattle.batch_runs.specs.Reports.{outcome_data, report_text}
use Rattle.replay_runs.specs.Replies.{replay_status_of}
use Rattle.replay_runs.proofs.ReadLemmas.{finishes, finishes_part}
use Rattle.replay_runs.proofs.stepping.replay_steps.Goals as goal

pub returns-in_default-clause-replays : goal.returns-in_default-clause-replays
returns-in_default-clause-replays g c = λ begun lines has.
    let sink = g.K.Sink.state in
    let world = g.R.Run.world in
    let text : c.as_str.result.now ≡ report_text (outcome_data c.args.opened.id.now (without_rows c.finish-outcome.result)) = c.as_str.ensures.value ∙ c.in-Ok-outcome_report.ensures.text ∙ ap (λ (ending : Ending). report_text (outcome_data c.args.opened.id.now ending)) c.without_rows-ending.ensures in
    let small : HasSmallNumbers (without_rows c.finish-outcome.result) = subst HasSmallNumbers c.without_rows-ending.ensures c.in-Ok-outcome_report.ensures.small in
    finishes_part (from_to begun (g.S.Source.state c.answer_lines.new.source)) lines (world c.args.opened.run) (world c.answer_lines.new.run) (sink c.args.sink.now) (sink c.answer_lines.new.sink) (sink c.send_report.new.sink) c.args.opened.id.now c.in-Ok.said c.finish-outcome.result (c.in-Ok.ensures.answers begun lines has) (c.finish-outcome.ensures, small) (rw text at c.in_default.ensures.writes)

pub returns-clause-replays : goal.returns-clause-replays
returns-clause-replays g c = λ begun lines has.
    let sink = g.K.Sink.state in
    let world = g.R.Run.world in
    let text : c.as_str.result.now ≡ report_text (outcome_data c.args.opened.id.now (without_rows c.finish-outcome.result)) = c.as_str.ensures.value ∙ c.in-Ok-outcome_report.ensures.text ∙ ap (λ (ending : Ending). report_text (outcome_data c.args.opened.id.now ending)) c.without_rows-ending.ensures in
    let small : HasSmallNumbers (without_rows c.finish-outcome.result) = subst HasSmallNumbers c.without_rows-ending.ensures c.in-Ok-outcome_report.ensures.small in
    finishes (from_to begun (g.S.Source.state c.answer_lines.new.source)) lines (world c.args.opened.run) (world c.answer_lines.new.run) (sink c.args.sink.now) (sink c.answer_lines.new.sink) (sink c.send_report.new.sink) c.args.opened.id.now c.in-Ok.said c.finish-outcome.result c.status_of.result (c.in-Ok.ensures.answers begun lines has) (c.finish-outcome.ensures, small) (rw text at c.in-Ok-send_report.ensures.writes) (c.status_of.ensures ∙ ap (λ (ending : Ending). replay_status_of c.in-Ok.said ending) c.without_rows-ending.ensures)
