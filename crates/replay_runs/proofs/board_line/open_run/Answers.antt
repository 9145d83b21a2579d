use Rattle.std.proofs.Common.{refl, inr}
use Rattle.replay_runs.proofs.ReadLemmas.{refused_fault, names_by}
use Rattle.replay_runs.proofs.board_line.open_run.Goals as goal

pub returns-in-Err-clause-refused : goal.returns-in-Err-clause-refused
returns-in-Err-clause-refused g c = λ line within.
    rw c.code.ensures (refused_fault (g.O.Opener.jobs c.args.opener) line c.args.bytes.now c.in-Err.fault within (rw c.requires ((c.in-Err.ensures.fault c.in-Err.fault).0 refl)))

pub returns-in-Ok-open-clause-opened : goal.returns-in-Ok-open-clause-opened
returns-in-Ok-open-clause-opened g c = λ line within. record {
  board = c.in-Ok.entry.board;
  via = c.in-Ok-open.ensures.opened.0;
  named = names_by (g.O.Opener.jobs c.args.opener) line c.args.bytes.now c.in-Ok.entry.id.now c.in-Ok.entry.board within (rw c.requires c.in-Ok.ensures.entry);
  opens = c.in-Ok-open.ensures.opened.1;
  guided = c.in-Ok-open.ensures.guided;
}

pub returns-in-Err-open-clause-refused : goal.returns-in-Err-open-clause-refused
returns-in-Err-open-clause-refused g c = λ line within.
    rw c.code-in-Err-open.ensures (inr (c.in-Ok.entry.id.now, c.in-Ok.entry.board, names_by (g.O.Opener.jobs c.args.opener) line c.args.bytes.now c.in-Ok.entry.id.now c.in-Ok.entry.board within (rw c.requires c.in-Ok.ensures.entry), c.in-Err-open.ensures.lacking, refl))
