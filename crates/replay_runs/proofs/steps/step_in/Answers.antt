use Rattle.std.proofs.Common.{ℕ, arith}
use Rattle.replay_runs.specs.Steps.{IsNumberWord}
use Rattle.replay_runs.proofs.StepLemmas.{alone_says, paired_says, two_words, three_words, unsaid, no_bytes, said_by}
use Rattle.replay_runs.proofs.steps.step_in.Goals as goal

pub returns-in_default : goal.returns-in_default
returns-in_default c =
    let never : (n : ℕ) → ¬ IsNumberWord c.as_bytes.result.now n = λ n said. c.in_default.not-Some n ((c.number_of.ensures n).1 said) in
    unsaid c.args.text.now c.cut_word.result.1.now c.cut_word-2.result.0.now c.cut_word.ensures.rest c.cut_word-2.ensures.word (rw c.as_bytes.ensures.value at never)

pub returns-then-is_empty : goal.returns-then-is_empty
returns-then-is_empty c =
    let said = rw c.as_bytes.ensures.value at ((c.number_of.ensures c.in-Some.worker).0 c.in-Some.is) in
    let none = no_bytes c.cut_word-3.result.0.now (grind (arith, c.if-is_empty.ensures)) in
    let are = two_words c.args.text.now c.cut_word.result.1.now c.cut_word-2.result.1.now c.cut_word.result.0.now c.cut_word-2.result.0.now c.cut_word-3.result.0.now c.in-Some.worker c.cut_word.ensures.word c.cut_word.ensures.rest c.cut_word-2.ensures.word c.cut_word-2.ensures.rest c.cut_word-3.ensures.word said none in
    said_by c.alone.result c.alone.ensures (alone_says _ c.cut_word.result.0.now c.cut_word-2.result.0.now c.in-Some.worker are said)

pub returns : goal.returns
returns c =
    let said = rw c.as_bytes.ensures.value at ((c.number_of.ensures c.in-Some.worker).0 c.in-Some.is) in
    let none = no_bytes c.cut_word-4.result.0.now (grind (arith, c.if-not-is_empty.ensures)) in
    let are = three_words c.args.text.now c.cut_word.result.1.now c.cut_word-2.result.1.now c.cut_word-3.result.1.now c.cut_word.result.0.now c.cut_word-2.result.0.now c.cut_word-3.result.0.now c.cut_word-4.result.0.now c.in-Some.worker c.cut_word.ensures.word c.cut_word.ensures.rest c.cut_word-2.ensures.word c.cut_word-2.ensures.rest c.cut_word-3.ensures.word c.cut_word-3.ensures.rest c.cut_word-4.ensures.word said (grind (arith, c.if-is_empty.ensures)) none in
    said_by c.paired.result c.paired.ensures (paired_says _ c.cut_word.result.0.now c.cut_word-2.result.0.now c.cut_word-3.result.0.now c.in-Some.worker are said)
