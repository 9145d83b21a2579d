use Rattle.std.proofs.Common.{◌≡◌, ◌∙◌, ap, None, replicate, take, ℕ, Option, List}
use Rattle.std.proofs.lemmas.List.{take-replicate}
use Rattle.quiescence.proofs.book.Book.new.Goals as goal

pub returns : goal.returns
returns g c =
    let full : c.from_array_in-floors.result.items ≡ replicate 16 None = c.from_array_in-floors.ensures.items in
    let first : c.truncate.new.self.items ≡ take c.args.workers (replicate 16 None) = c.truncate.ensures.items ∙ ap (λ (xs : List (Option ℕ)). take c.args.workers xs) full in
    let floors : c.truncate.new.self.items ≡ replicate c.args.workers None = first ∙ take-replicate c.args.workers 16 None c.requires.few in
    λ i. record {
      credit = c.args.credit;
      best = c.new.ensures i;
      floors = floors i;
      granted = c.requires.none i;
      limit = c.args.limit;
      stop = None;
    }
