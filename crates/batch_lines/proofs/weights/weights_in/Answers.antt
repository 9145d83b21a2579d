use Rattle.std.proofs.Common.{map, ap, ◌∙◌, arith, rules}
use Rattle.std.proofs.lemmas.Iterator.{YieldsList-from_take}
use Rattle.std.proofs.lemmas.Iterator.Splits.{YieldsList-from_str_split}
use Rattle.std.proofs.lemmas.Iterator.Consumers.{YieldsList-end}
use Rattle.batch_lines.specs.Texts.{weight_number}
use Rattle.batch_lines.proofs.TextLemmas.{read_each}
use Rattle.batch_lines.proofs.weights.weights_in.Goals as goal

pub returns : goal.returns
returns c =
    let all = YieldsList-end (YieldsList-from_take 26 (YieldsList-from_str_split 44 c.args.text.now (omega arith) (search rules) (search rules) (search rules)) (search rules)) c.words.yielded _ c.words.yielded_by _ _ c.in-None.is c.next.ensures.steps in
    c.words.invariant.2 ∙ read_each weight_number c.words.yielded ∙ ap (map weight_number) all.0
