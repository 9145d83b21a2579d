use Rattle.std.proofs.Common.{◌≡◌, ◌+◌, ◌*◌, ◌<◌, List, ℕ, length, refl, sym, ap, ◌∙◌, subst, arith}
use Rattle.std.specs.Int.{bit_not, w64}
use Rattle.std.specs.Int.Bits.{bit_and}
use Rattle.std.specs.Vec.{with_items}
use Rattle.std.proofs.lemmas.Bool.{false≢true}
use Rattle.std.proofs.lemmas.List.{with_items_is}
use Rattle.pattern_index.specs.Laws.{factorial}
use Rattle.pattern_search.specs.Layers.{IsWritten}
use Rattle.pattern_search.specs.declared.layers.Layers.{Layers}
use Rattle.pattern_search.proofs.LayerLemmas.{fresh_are, fresh_below, value_within, word_none, word_passed}
use Rattle.pattern_search.proofs.layers.Layers.pass_word.Goals as goal

pub returns-then-fresh-eq0 : goal.returns-then-fresh-eq0
returns-then-fresh-eq0 c =
    let l = c.args.self.now in
    let has = fresh_are l c.args.region c.args.place c.word.result c.word-2.result c.word.ensures c.word-2.ensures (omega arith) in
    record { passed = word_none l c.args.region c.args.place (bit_and c.word.result (bit_not w64 c.word-2.result)) c.requires.layers.layers c.requires.layers.inside c.requires.place has c.args.cost c.if-fresh-eq0.true; same = λ _. refl }

pub write_values-requires : goal.write_values-requires
write_values-requires c =
    let l = c.args.self.now in
    let has = fresh_are l c.args.region c.args.place c.word.result c.word-2.result c.word.ensures c.word-2.ensures (omega arith) in
    let at : c.args.region * c.size.result + 64 * c.args.place ≡ c.args.region * factorial l.graph.regions.count + 64 * c.args.place = ap (λ n. c.args.region * n + 64 * c.args.place) (c.size.ensures ∙ c.requires.layers.layers.sound.orders.passes.size) in
    λ bit here. subst (λ (xs : List ℕ). c.args.region * c.size.result + 64 * c.args.place + bit < length xs) (sym c.deref_mut.ensures.value) (value_within l c.args.region c.args.place (bit_and c.word.result (bit_not w64 c.word-2.result)) c.requires.layers.layers c.requires.layers.inside c.requires.place has (c.args.region * c.size.result + 64 * c.args.place) bit at here)

pub insert_next-requires-clause-bits : goal.insert_next-requires-clause-bits
insert_next-requires-clause-bits c =
    let l = c.args.self.now in
    let has = fresh_are l c.args.region c.args.place c.word.result c.word-2.result c.word.ensures c.word-2.ensures (omega arith) in
    fresh_below l c.args.region c.args.place (bit_and c.word.result (bit_not w64 c.word-2.result)) c.requires.layers.layers c.requires.layers.inside c.requires.place has

pub returns : goal.returns
returns c =
    let l = c.args.self.now in
    let has = fresh_are l c.args.region c.args.place c.word.result c.word-2.result c.word.ensures c.word-2.ensures (omega arith) in
    let at : c.args.region * c.size.result + 64 * c.args.place ≡ c.args.region * factorial l.graph.regions.count + 64 * c.args.place = ap (λ n. c.args.region * n + 64 * c.args.place) (c.size.ensures ∙ c.requires.layers.layers.sound.orders.passes.size) in
    let written = subst (λ (xs : List ℕ). IsWritten (c.args.region * c.size.result + 64 * c.args.place) (bit_and c.word.result (bit_not w64 c.word-2.result)) c.args.cost xs c.write_values.new.values) c.deref_mut.ensures.value c.write_values.ensures in
    let items : (with_items l.values c.write_values.new.values).items ≡ c.write_values.new.values = with_items_is l.values c.write_values.new.values (let ok = l.values.ok in omega (arith, written.size)) in
    let after : Layers = record { graph = l.graph; values = with_items l.values c.write_values.new.values; seen = c.insert_all.new.self; now = l.now; next = c.insert_next.new.next } in
    record {
      passed = word_passed l c.args.region c.args.place (bit_and c.word.result (bit_not w64 c.word-2.result)) c.requires.layers.layers c.requires.layers.inside c.requires.place has (c.args.region * c.size.result + 64 * c.args.place) c.args.cost after at refl refl (subst (λ (xs : List ℕ). IsWritten (c.args.region * c.size.result + 64 * c.args.place) (bit_and c.word.result (bit_not w64 c.word-2.result)) c.args.cost l.values.items xs) (sym items) written)
          c.insert_all.ensures c.insert_next.ensures.union c.insert_next.ensures.next;
      same = λ e. absurd (false≢true (sym e));
    }
