use Rattle.std.proofs.Common.{◌%◌, ℕ, ◌∙◌, ap, sym}
use Rattle.owners.proofs.OwnerLemmas.{blank_moved}
use Rattle.owners.proofs.spread.ByBlankSpread.owner_after.Goals as goal

pub returns : goal.returns
returns c = λ b has. c.worker_of.ensures.value ∙ ap (λ (k : ℕ). k % c.args.workers) (sym (blank_moved c.requires.moved.0 b c.args.moved c.requires.moved.1 has))
