use Rattle.std.proofs.Common.{subst, sym}
use Rattle.database_build.specs.Folds.{AreLeastOf}
use Rattle.database_build.proofs.LeastLemmas.{kept_fold}
use Rattle.database_build.proofs.folding.fold.Goals as goal

pub returns : goal.returns
returns c =
    let are = subst (AreLeastOf c.args.table) (sym c.deref.ensures.value) c.in_ok-least.ensures in
    kept_fold c.args.table c.group.result.now c.deref.result.now c.in_ok-entries.entries c.of_group.result c.group.ensures.value are c.in_ok-entries.ensures.entries c.in_ok-entries.ensures.values c.of_group.ensures
