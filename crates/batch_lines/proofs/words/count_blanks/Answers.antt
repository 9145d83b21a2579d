use Rattle.std.proofs.Common.{◌∙◌, rules, tests, not}
use Rattle.std.proofs.lemmas.Iterator.{YieldsList-from_slice}
use Rattle.std.proofs.lemmas.Iterator.Search.{position_from_yields_List}
use Rattle.batch_lines.specs.Lines.{is_blank}
use Rattle.batch_lines.proofs.WordLemmas.{position_or_end}
use Rattle.batch_lines.proofs.words.count_blanks.Goals as goal

pub returns-clause-value : goal.returns-clause-value
returns-clause-value c =
    c.unwrap_or.ensures ∙ position_or_end (λ byte. not (is_blank byte)) c.args.bytes.now c.position.result
    (position_from_yields_List (λ byte. not (is_blank byte)) _ _ c.position.result c.position.ensures.ran (YieldsList-from_slice c.args.bytes.now c.iter.ensures.rest) (λ x b q k. search (rules, tests)))
