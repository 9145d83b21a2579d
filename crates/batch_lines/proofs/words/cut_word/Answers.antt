use Rattle.std.proofs.Common.{◌∙◌, ap, arith}
use Rattle.batch_lines.specs.Words.{words_of}
use Rattle.batch_lines.proofs.WordLemmas.{IsCut-counted, cut_within, start_boundary, end_boundary, first_is, others_are}
use Rattle.batch_lines.proofs.words.cut_word.Goals as goal

pub overflow_add-end : goal.overflow_add-end
overflow_add-end c = let most = cut_within c.args.text.now c.count_blanks-start.result c.word_length.result (IsCut-counted c.args.text.now c.as_bytes-bytes.result.now c.count_blanks-start.result c.word_length.result c.as_bytes-bytes.ensures.value c.count_blanks-start.ensures.value c.word_length.ensures) in omega arith

pub range-requires-clause-start_boundary : goal.range-requires-clause-start_boundary
range-requires-clause-start_boundary c = λ some. start_boundary c.args.text.now c.count_blanks-start.result c.word_length.result c.utf8.text (IsCut-counted c.args.text.now c.as_bytes-bytes.result.now c.count_blanks-start.result c.word_length.result c.as_bytes-bytes.ensures.value c.count_blanks-start.ensures.value c.word_length.ensures)

pub range-requires-clause-end_boundary : goal.range-requires-clause-end_boundary
range-requires-clause-end_boundary c = end_boundary c.args.text.now c.count_blanks-start.result c.word_length.result (IsCut-counted c.args.text.now c.as_bytes-bytes.result.now c.count_blanks-start.result c.word_length.result c.as_bytes-bytes.ensures.value c.count_blanks-start.ensures.value c.word_length.ensures)

pub range_from-requires : goal.range_from-requires
range_from-requires c = λ some. end_boundary c.args.text.now c.count_blanks-start.result c.word_length.result (IsCut-counted c.args.text.now c.as_bytes-bytes.result.now c.count_blanks-start.result c.word_length.result c.as_bytes-bytes.ensures.value c.count_blanks-start.ensures.value c.word_length.ensures)

pub returns-clause-word : goal.returns-clause-word
returns-clause-word c = c.range.ensures.value ∙ first_is c.args.text.now c.count_blanks-start.result c.word_length.result (IsCut-counted c.args.text.now c.as_bytes-bytes.result.now c.count_blanks-start.result c.word_length.result c.as_bytes-bytes.ensures.value c.count_blanks-start.ensures.value c.word_length.ensures)

pub returns-clause-rest : goal.returns-clause-rest
returns-clause-rest c = ap words_of c.range_from.ensures.value ∙ others_are c.args.text.now c.count_blanks-start.result c.word_length.result (IsCut-counted c.args.text.now c.as_bytes-bytes.result.now c.count_blanks-start.result c.word_length.result c.as_bytes-bytes.ensures.value c.count_blanks-start.ensures.value c.word_length.ensures)
