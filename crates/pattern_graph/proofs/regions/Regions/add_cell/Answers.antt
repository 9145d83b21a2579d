use Rattle.std.proofs.Common.{◌≡◌, ℕ, ◌+◌, ◌*◌, ◌<◌, ◌≤◌, List, [], ◌∷◌, ◌++◌, length, refl, sym, ap, ◌∙◌, subst, arith, get_or, Some}
use Rattle.std.specs.Prelude.{slice_get}
use Rattle.board.specs.Shapes.{cell_count}
use Rattle.std.proofs.lemmas.Bool.{false≢true}
use Rattle.std.proofs.lemmas.Slice.{pushed}
use Rattle.std.proofs.lemmas.List.{get_or_read}
use Rattle.pattern_graph.specs.declared.regions.Home.{Home}
use Rattle.pattern_graph.specs.Regions.{IsFree}
use Rattle.pattern_graph.specs.Numberings.{AreNumberedTo}
use Rattle.pattern_graph.proofs.RegionLemmas.{with_region, with_new_region, label_region, when_pushed}
use Rattle.pattern_graph.proofs.regions.Regions.add_cell.Goals as goal

pub returns-then-stands_on-clause-numbered : goal.returns-then-stands_on-clause-numbered
returns-then-stands_on-clause-numbered c =
    when_pushed c.push.result (λ (xs : List ℕ). AreNumberedTo c.args.self.now.shape (length c.args.cells.now) c.args.cells.now c.args.labels.now xs c.args.self.now.homes.items c.args.set (c.args.cell + 1)) c.args.self.now.numbers.items c.push.new.items.items _ c.push.ensures.items
    (with_region c.args.self.now.shape c.args.cells.now c.args.labels.now c.args.self.now.numbers.items c.args.self.now.homes.items c.args.set c.args.cell c.requires.inside c.requires.numbered _ c.requires.row.listing
    (λ free. absurd (free.free (c.stands_on.ensures.0 c.if-stands_on.true))))

pub returns-then-label-cell-clause-numbered : goal.returns-then-label-cell-clause-numbered
returns-then-label-cell-clause-numbered c =
    let free : IsFree c.args.self.now.shape c.args.cells.now c.args.cell = record { inside = c.requires.inside; free = λ on. false≢true (sym c.if-stands_on.false ∙ c.stands_on.ensures.1 on) } in
    let region = label_region c.args.self.now.shape c.args.cells.now c.args.labels.now c.args.self.now.numbers.items c.args.self.now.homes.items c.args.set c.args.cell c.requires.inside c.requires.numbered c.requires.row.settled free c.if-label-cell.true in
    let row : c.args.set * c.cells-count.result ≡ c.args.set * cell_count c.args.self.now.shape = ap (λ (k : ℕ). c.args.set * k) c.cells-count.ensures.value in
    let size = c.requires.numbered.size in
    let less : get_or c.args.labels.now c.args.cell 0 < c.args.cell = c.if-label-cell.true in
    let is : c.index-number.result.now ≡ get_or c.args.self.now.numbers.items (c.args.set * cell_count c.args.self.now.shape + get_or c.args.labels.now c.args.cell 0) 0 =
    get_or_read c.args.self.now.numbers.items (c.args.set * c.cells-count.result + get_or c.args.labels.now c.args.cell 0) c.index-number.result.now (omega arith) c.index-number.ensures 0
    ∙ ap (λ (k : ℕ). get_or c.args.self.now.numbers.items (k + get_or c.args.labels.now c.args.cell 0) 0) row in
    when_pushed c.push-then-label-cell.result (λ (xs : List ℕ). AreNumberedTo c.args.self.now.shape (length c.args.cells.now) c.args.cells.now c.args.labels.now xs c.args.self.now.homes.items c.args.set (c.args.cell + 1)) c.args.self.now.numbers.items c.push-then-label-cell.new.items.items _ c.push-then-label-cell.ensures.items
    (with_region c.args.self.now.shape c.args.cells.now c.args.labels.now c.args.self.now.numbers.items c.args.self.now.homes.items c.args.set c.args.cell c.requires.inside c.requires.numbered c.index-number.result.now c.requires.row.listing
    (λ _. subst (λ (x : ℕ). slice_get c.args.self.now.homes.items x ≡ Some (record { set = c.args.set; cell = get_or c.args.labels.now c.args.cell 0 })) (sym is) region))

pub returns-clause-numbered : goal.returns-clause-numbered
returns-clause-numbered c =
    let free : IsFree c.args.self.now.shape c.args.cells.now c.args.cell = record { inside = c.requires.inside; free = λ on. false≢true (sym c.if-stands_on.false ∙ c.stands_on.ensures.1 on) } in
    let low = (c.requires.row.settled.are.each c.args.cell free).low in
    let le : c.args.cell ≤ get_or c.args.labels.now c.args.cell 0 = c.if-label-cell.false in
    let own : get_or c.args.labels.now c.args.cell 0 ≡ c.args.cell = omega arith in
    let home : Home = record { set = c.args.set; cell = c.args.cell } in
    let homes : c.push-2.new.items.items ≡ c.args.self.now.homes.items ++ home ∷ [] = pushed (home ∷ []) refl c.in_ok-push.was c.push-2.ensures.items in
    let count : c.len-region.result ≡ length c.args.self.now.homes.items = omega (arith, c.args.self.now.homes.ok.0) in
    when_pushed c.push-3.result (λ (xs : List ℕ). AreNumberedTo c.args.self.now.shape (length c.args.cells.now) c.args.cells.now c.args.labels.now xs c.push-2.new.items.items c.args.set (c.args.cell + 1)) c.args.self.now.numbers.items c.push-3.new.items.items c.len-region.result c.push-3.ensures.items
    (subst (λ (hs : List Home). AreNumberedTo c.args.self.now.shape (length c.args.cells.now) c.args.cells.now c.args.labels.now (c.args.self.now.numbers.items ++ c.len-region.result ∷ []) hs c.args.set (c.args.cell + 1)) (sym homes)
    (subst (λ (x : ℕ). AreNumberedTo c.args.self.now.shape (length c.args.cells.now) c.args.cells.now c.args.labels.now (c.args.self.now.numbers.items ++ x ∷ []) (c.args.self.now.homes.items ++ home ∷ []) c.args.set (c.args.cell + 1)) (sym count)
    (with_new_region c.args.self.now.shape c.args.cells.now c.args.labels.now c.args.self.now.numbers.items c.args.self.now.homes.items c.args.set c.args.cell c.requires.inside c.requires.numbered c.requires.row.cells_are free own)))
