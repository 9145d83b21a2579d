use Rattle.std.proofs.Common.{length, sym, ◌∙◌, arith}
use Rattle.std.proofs.lemmas.Bool.{eqb-false}
use Rattle.std.proofs.lemmas.List.{take_all}
use Rattle.batch_lines.proofs.LineLemmas.{return_dropped, nothing_dropped}
use Rattle.batch_lines.proofs.lines.length_without_return.Goals as goal

pub returns-then-bytes-last-eq13 : goal.returns-then-bytes-last-eq13
returns-then-bytes-last-eq13 c = return_dropped c.args.bytes.now (omega (arith, eqb-false (length c.args.bytes.now) 0 (sym c.is_empty.ensures ∙ c.if-is_empty.false))) c.if-bytes-last-eq13.true

pub returns : goal.returns
returns c = take_all (length c.args.bytes.now) c.args.bytes.now (omega arith) ∙ sym (nothing_dropped c.args.bytes.now (λ some. c.if-bytes-last-eq13.false))
