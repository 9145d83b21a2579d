use Rattle.std.proofs.Common.{ℕ, List, ◌≤◌, ◌∙◌, ap, subst, refl}
use Rattle.batch_lines.specs.Words.{words_of, id_of}
use Rattle.batch_lines.proofs.FaultLemmas.{tiles_read, entry_is, no_fault, entry_fault}
use Rattle.batch_lines.proofs.words.read_entry.Goals as goal

pub returns-in-Ok-from_tiles-clause-entry : goal.returns-in-Ok-from_tiles-clause-entry
returns-in-Ok-from_tiles-clause-entry c =
    let read = tiles_read c.args.line.now c.in-Ok.text.now c.cut_word.result.1.now c.tile_numbers-numbers.result.items c.as_slice.result.now c.in-Ok.ensures.cases.0 c.cut_word.ensures.rest c.tile_numbers-numbers.ensures c.as_slice.ensures.value in
    let named = c.cut_word.ensures.word ∙ ap (λ (bs : List ℕ). id_of (words_of bs)) c.in-Ok.ensures.cases.0 in
    entry_is c.args.shape c.args.line.now c.cut_word.result.0.now c.as_slice.result.now c.in-Ok-from_tiles.board (subst (λ (n : ℕ). n ≤ 25) c.cells.ensures.value c.cells.ensures.high) read c.in-Ok.ensures.cases.1 named (c.in-Ok-from_tiles.ensures.accepted.0 refl) c.in-Ok-from_tiles.ensures.value

pub returns-in-Ok-from_tiles-clause-fault : goal.returns-in-Ok-from_tiles-clause-fault
returns-in-Ok-from_tiles-clause-fault c =
    let read = tiles_read c.args.line.now c.in-Ok.text.now c.cut_word.result.1.now c.tile_numbers-numbers.result.items c.as_slice.result.now c.in-Ok.ensures.cases.0 c.cut_word.ensures.rest c.tile_numbers-numbers.ensures c.as_slice.ensures.value in
    no_fault c.args.shape c.args.line.now c.as_slice.result.now c.in-Ok-from_tiles.board _ (subst (λ (n : ℕ). n ≤ 25) c.cells.ensures.value c.cells.ensures.high) read c.in-Ok.ensures.cases.1 c.in-Ok-from_tiles.ensures.fault

pub returns-in-Err-clause-fault : goal.returns-in-Err-clause-fault
returns-in-Err-clause-fault c =
    let read = tiles_read c.args.line.now c.in-Ok.text.now c.cut_word.result.1.now c.tile_numbers-numbers.result.items c.as_slice.result.now c.in-Ok.ensures.cases.0 c.cut_word.ensures.rest c.tile_numbers-numbers.ensures c.as_slice.ensures.value in
    entry_fault c.args.shape c.args.line.now c.as_slice.result.now c.in-Err.fault (subst (λ (n : ℕ). n ≤ 25) c.cells.ensures.value c.cells.ensures.high) read c.in-Ok.ensures.cases.1 c.in-Err.ensures.fault
