use Rattle.std.proofs.Common.{sym, subst, ◌∙◌}
use Rattle.byte_streams.specs.Streams.{change}
use Rattle.batch_runs.specs.Setups.{owner_by}
use Rattle.batch_runs.specs.declared.setup.SpreadKind.{SpreadKind}
use Rattle.replay_runs.specs.Openings.{jobs_by}
use Rattle.replay_runs.specs.Replays.{Replays}
use Rattle.replay_runs.proofs.replay.run_replay.Goals as goal

pub returns-in-Zobrist-clause-replays : goal.returns-in-Zobrist-clause-replays
returns-in-Zobrist-clause-replays g c =
    subst (λ (kind : SpreadKind). Replays (jobs_by (owner_by kind) c.args.setup.now) (change g.S.Source.state c.args.source.now c.replay_spread.new.source) (change g.K.Sink.state c.args.sink.now c.replay_spread.new.sink) c.replay_spread.result) (sym (sym c.spread_kind.ensures ∙ c.in-Zobrist.is)) c.replay_spread.ensures.replays

pub returns-in-Blank-clause-replays : goal.returns-in-Blank-clause-replays
returns-in-Blank-clause-replays g c =
    subst (λ (kind : SpreadKind). Replays (jobs_by (owner_by kind) c.args.setup.now) (change g.S.Source.state c.args.source.now c.replay_spread-in-Blank.new.source) (change g.K.Sink.state c.args.sink.now c.replay_spread-in-Blank.new.sink) c.replay_spread-in-Blank.result) (sym (sym c.spread_kind.ensures ∙ c.in-Blank.is)) c.replay_spread-in-Blank.ensures.replays

pub returns-in-Abstract-clause-replays : goal.returns-in-Abstract-clause-replays
returns-in-Abstract-clause-replays g c =
    subst (λ (kind : SpreadKind). Replays (jobs_by (owner_by kind) c.args.setup.now) (change g.S.Source.state c.args.source.now c.replay_spread-in-Abstract.new.source) (change g.K.Sink.state c.args.sink.now c.replay_spread-in-Abstract.new.sink) c.replay_spread-in-Abstract.result) (sym (sym c.spread_kind.ensures ∙ c.in-Abstract.is)) c.replay_spread-in-Abstract.ensures.replays
