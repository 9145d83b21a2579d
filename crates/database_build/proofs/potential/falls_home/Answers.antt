use Rattle.std.proofs.Common.{◌≡◌, sym, ◌∙◌, ap, refl, arith}
use Rattle.std.proofs.lemmas.Bool.{false≢true}
use Rattle.pattern_index.specs.Groups.{size_of}
use Rattle.database_build.proofs.FoldLemmas.{potential_from_ranks, ranks_from_potential}
use Rattle.database_build.proofs.potential.falls_home.Goals as goal

pub returns-then-not-falls_slowly : goal.returns-then-not-falls_slowly
returns-then-not-falls_slowly c = (
  (λ h. absurd (false≢true h)),
  (λ all. absurd (false≢true (sym c.if-not-falls_slowly.true ∙ c.falls_slowly.ensures.1 (ranks_from_potential c.args.table.now c.args.weights.now c.args.goal.now c.requires.grid all c.loop-rank.rank)))),
)

pub returns : goal.returns
returns c =
    let size : c.size-size.result ≡ size_of c.args.table.now.selection = c.size-size.ensures.value ∙ ap size_of c.group.ensures.value in (
      (λ h. potential_from_ranks c.args.table.now c.args.weights.now c.args.goal.now c.requires.grid (c.is_zero_at_goal.ensures.0 c.if-not-is_zero_at_goal.false) (λ k k_in. c.loop-rank.invariant k (omega arith))),
      (λ h. refl),
    )
