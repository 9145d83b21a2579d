use Rattle.std.proofs.Common.{◌∙◌, rules, tests}
use Rattle.std.proofs.lemmas.Iterator.{YieldsList-from_slice}
use Rattle.std.proofs.lemmas.Iterator.Search.{position_from_yields_List}
use Rattle.batch_lines.specs.Lines.{is_blank}
use Rattle.batch_lines.proofs.WordLemmas.{position_or_end}
use Rattle.batch_lines.proofs.words.word_length.Goals as goal

pub returns : goal.returns
returns c =
    c.unwrap_or.ensures ∙ position_or_end (is_blank) c.args.bytes.now c.position.result
    (position_from_yields_List (is_blank) _ _ c.position.result c.position.ensures.ran (YieldsList-from_slice c.args.bytes.now c.iter.ensures.rest) (λ x b q k. search (rules, tests)))
