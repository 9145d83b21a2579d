use Rattle.hda_run.proofs.parts.deliver_from.Goals as goal

pub returns-clause-step : goal.returns-clause-step
returns-clause-step c = c.deliver.ensures.step c.args.lane.now c.deliver.new.lane (record { given = λ packet is. is; empty = λ is. is; kept = λ is. is })
