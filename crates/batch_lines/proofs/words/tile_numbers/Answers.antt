use Rattle.std.proofs.Common.{List, ℕ, ◌<◌, ◌∙◌, ap, sym, subst, arith, rules, length}
use Rattle.batch_lines.specs.TileNumbers.{tile_number}
use Rattle.batch_lines.proofs.FaultLemmas.{AreRead, AreRead-none, AreRead-more, AreRead-end, AreRead-full}
use Rattle.batch_lines.proofs.words.tile_numbers.Goals as goal

pub words-init : goal.words-init
words-init c = (subst (λ (ns : List ℕ). AreRead c.args.text.now c.args.text.now ns) (sym c.new-numbers.ensures) (AreRead-none c.args.text.now), c.utf8.text)

pub words-preserved : goal.words-preserved
words-preserved c =
    let some : 0 < length c.cut_word.result.0.now = grind (arith, c.if-is_empty.ensures) in
    let room : length c.words.numbers.items < 26 = omega arith in
    let more = AreRead-more c.args.text.now c.words.rest.now c.cut_word.result.1.now c.cut_word.result.0.now c.words.numbers.items c.tile_number.result c.words.invariant.0 room c.cut_word.ensures.word some c.cut_word.ensures.rest (c.tile_number.ensures ∙ ap tile_number c.as_bytes.ensures.value) in
    (subst (λ (ns : List ℕ). AreRead c.args.text.now c.cut_word.result.1.now ns) (sym c.push.ensures.items) more, search rules)

pub words-smaller : goal.words-smaller
words-smaller c = omega (arith, c.push.ensures.len)

pub returns-then-is_empty : goal.returns-then-is_empty
returns-then-is_empty c = AreRead-end c.args.text.now c.words.rest.now c.cut_word.result.0.now c.words.numbers.items c.words.invariant.0 c.cut_word.ensures.word (grind (arith, c.if-is_empty.ensures))

pub returns : goal.returns
returns c = AreRead-full c.args.text.now c.words.rest.now c.words.numbers.items c.words.invariant.0 (omega arith)
