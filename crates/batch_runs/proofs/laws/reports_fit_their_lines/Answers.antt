use Rattle.batch_runs.proofs.TruthLemmas.{refused_board, refused_line, board_told, no_ending, passed_counted, reported_name}
use Rattle.batch_runs.proofs.laws.reports_fit_their_lines.Goals as goal

pub returns-clause-boards : goal.returns-clause-boards
returns-clause-boards g c = refused_board (g.A.Ruled.rules c.args.asked.now)

pub returns-clause-faults : goal.returns-clause-faults
returns-clause-faults g c = refused_line (g.A.Ruled.rules c.args.asked.now)

pub returns-clause-endings : goal.returns-clause-endings
returns-clause-endings g c = board_told (g.A.Ruled.rules c.args.asked.now)

pub returns-clause-no_ending : goal.returns-clause-no_ending
returns-clause-no_ending g c = no_ending (g.A.Ruled.rules c.args.asked.now)

pub returns-clause-numbers : goal.returns-clause-numbers
returns-clause-numbers g c = passed_counted

pub returns-clause-named : goal.returns-clause-named
returns-clause-named g c = reported_name
