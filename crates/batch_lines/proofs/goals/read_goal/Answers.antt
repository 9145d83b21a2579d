use Rattle.std.proofs.Common.{ℕ, ◌≤◌, ◌∙◌, subst}
use Rattle.batch_lines.proofs.FaultLemmas.{read_fault}
use Rattle.batch_lines.specs.Texts.{comma_words}
use Rattle.batch_lines.proofs.TextLemmas.{goal_read}
use Rattle.batch_lines.proofs.goals.read_goal.Goals as goal

pub returns-clause-goal : goal.returns-clause-goal
returns-clause-goal c =
    let few = subst (λ (n : ℕ). n ≤ 25) c.cells.ensures.value c.cells.ensures.high in
    goal_read c.args.shape c.args.text.now c.as_slice.result.now c.from_tiles.result few (c.as_slice.ensures.value ∙ c.numbers_in-numbers.ensures) c.from_tiles.ensures.accepted.0 c.from_tiles.ensures.value

pub returns-clause-fault : goal.returns-clause-fault
returns-clause-fault c = λ fault.
    let few = subst (λ (n : ℕ). n ≤ 25) c.cells.ensures.value c.cells.ensures.high in
    let same = read_fault c.args.shape (comma_words c.args.text.now) c.as_slice.result.now few (c.as_slice.ensures.value ∙ c.numbers_in-numbers.ensures) fault in
    let exact = c.from_tiles.ensures.fault fault in
    ((λ is. same.0 (exact.0 is)), (λ first. exact.1 (same.1 first)))
