use Rattle.hda_run.proofs.parts.send_on.Goals as goal

pub returns-clause-step : goal.returns-clause-step
returns-clause-step c = c.send.ensures.step c.args.lane.now c.send.new.lane (record { taken = λ packet is. is; full = λ is. is; kept = λ is. is })
