use Rattle.std.proofs.Common.{rules, ◌≡◌, ◌≢◌, ℕ, ◌<◌, [], length, get_or, sym, ap, ◌∙◌, ⊎_elim, arith}
use Rattle.std.proofs.lemmas.Bool.{cases_eq}
use Rattle.std.proofs.lemmas.List.{length-map}
use Rattle.worker_core.specs.Workers.{packets_of}
use Rattle.worker_core.proofs.GuideLemmas.{nothing, packet_read}
use Rattle.worker_core.proofs.packets.are_empty.Goals as goal

pub packets-preserved : goal.packets-preserved
packets-preserved c = λ k d lt.
    let xs = c.args.packets.now in
    let q = c.index-packets-to.result in
    let inside : c.packets.to < length c.args.packets.now = search rules in
    let zero : length c.index-packets-to.result.items ≡ 0 = search rules in
    ⊎_elim
    (λ (here : k ≡ c.packets.to). ap (λ (i : ℕ). get_or (packets_of xs) i d) here ∙ packet_read xs c.packets.to q d inside c.index-packets-to.is ∙ nothing q.items zero)
    (λ (other : k ≢ c.packets.to). c.packets.invariant k d (omega (arith, lt, other)))
    (cases_eq k c.packets.to)

pub returns-then-not-is_empty : goal.returns-then-not-is_empty
returns-then-not-is_empty c =
    let xs = c.args.packets.now in
    let q = c.index-packets-to.result in
    let inside : c.packets.to < length c.args.packets.now = search rules in
    let some : c.index-packets-to.result.items ≢ [] = search rules in (
      (λ wrong. cc),
      (λ all. absurd (some (sym (packet_read xs c.packets.to q [] inside c.index-packets-to.is) ∙ all c.packets.to [] (simp length-map inside)))),
    )
