use Rattle.std.proofs.Common.{codes}
use Rattle.clap.specs.Words.{found_of}
use Rattle.command_line.proofs.ParseLemmas.{word_read, if_none, no_spread, other_spread}
use Rattle.command_line.proofs.values.spread_in.Goals as goal

pub returns-then-eq-clause-value : goal.returns-then-eq-clause-value
returns-then-eq-clause-value c = word_read (found_of c.args.matches.now) (codes "spread") c.in_ok-text.text.now (codes "zobrist") c.eq.result c.in_ok-text.ensures c.eq.ensures c.if-eq.true

pub returns-then-eq-2-clause-value : goal.returns-then-eq-2-clause-value
returns-then-eq-2-clause-value c = word_read (found_of c.args.matches.now) (codes "spread") c.in_ok-text.text.now (codes "blank") c.eq-2.result c.in_ok-text.ensures c.eq-2.ensures c.if-eq-2.true

pub returns-then-eq-3-clause-value : goal.returns-then-eq-3-clause-value
returns-then-eq-3-clause-value c = word_read (found_of c.args.matches.now) (codes "spread") c.in_ok-text.text.now (codes "abstract") c.eq-3.result c.in_ok-text.ensures c.eq-3.ensures c.if-eq-3.true

pub returns-in_err-text-clause-none : goal.returns-in_err-text-clause-none
returns-in_err-text-clause-none c = if_none c.from_residual.result _ (no_spread (found_of c.args.matches.now) c.in_err-text.ensures)

pub returns-clause-none : goal.returns-clause-none
returns-clause-none c = other_spread (found_of c.args.matches.now) c.in_ok-text.text.now c.in_ok-text.ensures c.if-eq.ensures c.if-eq-2.ensures c.if-eq-3.ensures
