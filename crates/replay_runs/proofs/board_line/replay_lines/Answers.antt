use Rattle.std.proofs.Common.{refl, inl, codes, ◌∙◌, ◌∷◌, [], ◌++◌}
use Rattle.std.proofs.KnownBytes.{Appends-nil}
use Rattle.byte_streams.specs.Streams.{change}
use Rattle.replay_runs.proofs.ReadLemmas.{within_bytes, refused, refused_long, played}
use Rattle.replay_runs.proofs.board_line.replay_lines.Goals as goal

pub returns-in-Err-clause-replays : goal.returns-in-Err-clause-replays
returns-in-Err-clause-replays g c =
    let lost = c.in-Err.ensures.1 in
    ((lost.0, lost.1, inl (lost.2, Appends-nil (g.K.Sink.state c.args.sink.now).contents)), refl)

pub returns-in_default-kind-clause-replays : goal.returns-in_default-kind-clause-replays
returns-in_default-kind-clause-replays g c =
    let jobs = g.O.Opener.jobs c.args.opener in
    let found = rw c.in-Some.is at c.in-Ok.ensures.1 in
    let cause = refused_long jobs found.1.1 c.find_line.new.reader.kept c.in-Some.line.kind found.1.4 found.1.2.here c.in_default-kind.not-Within in
    refused jobs (g.S.Source.state c.args.source.now) (g.S.Source.state c.find_line.new.source) (g.K.Sink.state c.args.sink.now) (g.K.Sink.state c.refuse.new.sink) found.1.0 found.1.1 (codes "E12") c.in-Some.line.number c.refuse.result found.1.2 cause found.1.5 found.0 (rw c.code.ensures at c.refuse.ensures.refuses)

pub returns-in-Err-open_run-clause-replays : goal.returns-in-Err-open_run-clause-replays
returns-in-Err-open_run-clause-replays g c =
    let jobs = g.O.Opener.jobs c.args.opener in
    let found = rw c.in-Some.is at c.in-Ok.ensures.1 in
    let within = within_bytes found.1.1 c.find_line.new.reader.kept c.as_slice.result.now c.in-Some.line.kind found.1.4 c.in-Within.is (c.as_slice.ensures.value ∙ c.copy_line-kept.ensures ∙ c.bytes.ensures) in
    refused jobs (g.S.Source.state c.args.source.now) (g.S.Source.state c.find_line.new.source) (g.K.Sink.state c.args.sink.now) (g.K.Sink.state c.refuse-in-Err-open_run.new.sink) found.1.0 found.1.1 c.in-Err-open_run.code.now c.in-Some.line.number c.refuse-in-Err-open_run.result found.1.2 (c.in-Err-open_run.ensures.refused found.1.1 within) found.1.5 found.0 c.refuse-in-Err-open_run.ensures.refuses

pub returns-clause-replays : goal.returns-clause-replays
returns-clause-replays g c =
    let jobs = g.O.Opener.jobs c.args.opener in
    let found = rw c.in-Some.is at c.in-Ok.ensures.1 in
    let within = within_bytes found.1.1 c.find_line.new.reader.kept c.as_slice.result.now c.in-Some.line.kind found.1.4 c.in-Within.is (c.as_slice.ensures.value ∙ c.copy_line-kept.ensures ∙ c.bytes.ensures) in
    let opened = c.in-Ok-open_run.opened in
    played c.runs_keep_sound.ensures.answer jobs (change g.S.Source.state c.args.source.now c.replay_steps.new.source) (change g.K.Sink.state c.args.sink.now c.replay_steps.new.sink) found.1.0 found.1.1 opened.id.now (g.R.Run.world opened.run) c.replay_steps.result
    found.1.2.before (c.in-Ok-open_run.ensures.opened found.1.1 within) (c.replay_steps.ensures.replays (g.S.Source.state c.args.source.now) (found.1.0 ++ found.1.1 ∷ []) found.1.3)
