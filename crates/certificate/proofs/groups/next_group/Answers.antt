use Rattle.std.proofs.Common.{sym, ◌∙◌, refl}
use Rattle.std.proofs.lemmas.Bool.{false≢true}
use Rattle.certificate.proofs.ReaderLemmas.{not_flipped, not_flipped_back}
use Rattle.certificate.proofs.GroupLemmas.{next_differs, next_same}
use Rattle.certificate.proofs.groups.next_group.Goals as goal

pub returns-then-ne-clause-accepted : goal.returns-then-ne-clause-accepted
returns-then-ne-clause-accepted c = (
  λ e. absurd (false≢true e),
  λ n. absurd (next_differs c.args.shape c.args.before.now c.args.tiles.now c.tiles.result.now c.in-Ok.group c.in-Ok.ensures.tiles c.in-Ok.ensures.group c.tiles.ensures.value (not_flipped _ (sym c.ne.ensures ∙ c.if-ne.true)) n),
)

pub returns-clause-accepted : goal.returns-clause-accepted
returns-clause-accepted c = (
  λ e. next_same c.args.shape c.args.before.now c.args.tiles.now c.tiles.result.now c.in-Ok.group c.in-Ok.ensures.grid c.in-Ok.ensures.group c.tiles.ensures.value (not_flipped_back _ (sym c.ne.ensures ∙ c.if-ne.false)) (c.is_apart.ensures.0 c.if-not-is_apart.false),
  λ n. refl,
)
