use Rattle.batch_cli.proofs.commands.command_for.Goals as goal

pub returns-in-Help-clause-command : goal.returns-in-Help-clause-command
returns-in-Help-clause-command g c = rw c.in-Help.is (λ source sink ending ended. (ended.run.0, record { between = ended.between; ran = ended.ran; run = ended.run.1; flush = ended.flush }))

pub returns-in-Version-clause-command : goal.returns-in-Version-clause-command
returns-in-Version-clause-command g c = rw c.in-Version.is (λ source sink ending ended. (ended.run.0, record { between = ended.between; ran = ended.ran; run = ended.run.1; flush = ended.flush }))

pub returns-in-Boards-clause-command : goal.returns-in-Boards-clause-command
returns-in-Boards-clause-command g c = rw c.in-Boards.is (λ source sink ending ended. (ended.run.0, record { between = ended.between; ran = ended.ran; run = ended.run.1; flush = ended.flush }))
