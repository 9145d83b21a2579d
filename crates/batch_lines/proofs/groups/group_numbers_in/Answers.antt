use Rattle.std.proofs.Common.{take, ap, sym, ◌∙◌, arith}
use Rattle.std.proofs.lemmas.List.{take-map}
use Rattle.batch_lines.specs.TileNumbers.{tile_number}
use Rattle.batch_lines.specs.Texts.{comma_words}
use Rattle.batch_lines.proofs.TextLemmas.{numbers_of_words}
use Rattle.batch_lines.proofs.groups.group_numbers_in.Goals as goal

pub returns : goal.returns
returns c = c.numbers_in.ensures ∙ sym (take-map tile_number 26 (comma_words c.args.text.now)) ∙ ap (take 26) (numbers_of_words c.args.text.now (grind (arith, c.if-is_empty.ensures)))
