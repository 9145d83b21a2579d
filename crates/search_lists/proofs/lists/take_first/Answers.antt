use Rattle.std.proofs.Common.{ℕ, sym, subst}
use Rattle.open_buckets.specs.OpenLists.{TakesEntry}
use Rattle.search_lists.proofs.lists.take_first.Goals as goal

pub returns : goal.returns
returns c =
    let taken = c.in-Some.ensures in
    let same = c.the_next_is_taken.ensures c.args.first.f taken.0 (c.args.first.place, c.args.first.cost) c.in-Some.field-0 c.args.waiting.now c.take_lowest.new.self c.requires.first taken.2 in
    subst (λ (x : ℕ × (ℕ × ℕ)). TakesEntry x.0 x.1 c.args.waiting.now c.take_lowest.new.self) (λ t. (sym same.0 t, sym same.1 t)) taken.2
