use Rattle.std.proofs.Common.{◌∷◌, ◌++◌, refl, codes}
use Rattle.outcomes.specs.declared.outcome.Want.TheVariants.{Stated}
use Rattle.world_model.specs.declared.steps.HaltCause.TheVariants.{Limit, Memory, Start}
use Rattle.batch_lines.specs.Words.{words_of}
use Rattle.replay_runs.proofs.WorkedLemmas.{number_said, one_said, two_said, halt_said}
use Rattle.replay_runs.proofs.worked.said.Goals as goal

pub returns-clause-kinds : goal.returns-clause-kinds
returns-clause-kinds c = (
  one_said (words_of (codes "expand 0")) (codes "expand") (codes "0") 0 refl (number_said (codes "0") 0 refl refl refl refl),
  one_said (words_of (codes "settle 1")) (codes "settle") (codes "1") 1 refl (number_said (codes "1") 1 refl refl refl refl),
  two_said (words_of (codes "send 0 1")) (codes "send") (codes "0") (codes "1") 0 1 refl (number_said (codes "0") 0 refl refl refl refl) (number_said (codes "1") 1 refl refl refl refl),
  two_said (words_of (codes "deliver 0 1")) (codes "deliver") (codes "0") (codes "1") 0 1 refl (number_said (codes "0") 0 refl refl refl refl) (number_said (codes "1") 1 refl refl refl refl),
  one_said (words_of (codes "draw 2")) (codes "draw") (codes "2") 2 refl (number_said (codes "2") 2 refl refl refl refl),
  one_said (words_of (codes "announce 3")) (codes "announce") (codes "3") 3 refl (number_said (codes "3") 3 refl refl refl refl),
  one_said (words_of (codes "grant 15")) (codes "grant") (codes "15") 15 refl (number_said (codes "15") 15 refl refl refl refl),
  one_said (words_of (codes "rest 16")) (codes "rest") (codes "16") 16 refl (number_said (codes "16") 16 refl refl refl refl),
  halt_said (words_of (codes "halt 0 limit")) (codes "0") (codes "limit") 0 Limit refl (number_said (codes "0") 0 refl refl refl refl) refl,
  halt_said (words_of (codes "halt 0 memory")) (codes "0") (codes "memory") 0 (Memory Stated) refl (number_said (codes "0") 0 refl refl refl refl) refl,
  halt_said (words_of (codes "halt 0 start")) (codes "0") (codes "start") 0 Start refl (number_said (codes "0") 0 refl refl refl refl) refl,
)

pub returns-clause-spellings : goal.returns-clause-spellings
returns-clause-spellings c = (
  two_said (words_of (codes "  send  0   1 ")) (codes "send") (codes "0") (codes "1") 0 1 refl (number_said (codes "0") 0 refl refl refl refl) (number_said (codes "1") 1 refl refl refl refl),
  two_said (words_of (9 ∷ codes "send" ++ 9 ∷ codes "0" ++ 9 ∷ 32 ∷ codes "1")) (codes "send") (codes "0") (codes "1") 0 1 refl (number_said (codes "0") 0 refl refl refl refl) (number_said (codes "1") 1 refl refl refl refl),
  one_said (words_of (codes "rest 000000007")) (codes "rest") (codes "000000007") 7 refl (number_said (codes "000000007") 7 refl refl refl refl),
  one_said (words_of (codes "rest 999999999")) (codes "rest") (codes "999999999") 999999999 refl (number_said (codes "999999999") 999999999 refl refl refl refl),
)
