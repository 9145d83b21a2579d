use Rattle.std.proofs.Common.{◌≡◌, ◌≤◌, [], ◌∷◌, ℕ, length, take, refl}
use Rattle.std.proofs.lemmas.List.{length-take-le}
use Rattle.std.proofs.lemmas.Option.{slice_get_read}
use Rattle.std.proofs.lemmas.Result.{on_ok_weaker}
use Rattle.pattern_graph.proofs.EdgeLemmas.{home_within, written_rising, written_added}
use Rattle.pattern_graph.proofs.edges.add_region.Goals as goal

-- the first `count` of nine cells
first_length : (count : ℕ) → count ≤ 9 → length (take {A = ℕ} count (0 ∷ 0 ∷ 0 ∷ 0 ∷ 0 ∷ 0 ∷ 0 ∷ 0 ∷ 0 ∷ [])) ≡ count
first_length count short = length-take-le {A = ℕ} count (0 ∷ 0 ∷ 0 ∷ 0 ∷ 0 ∷ 0 ∷ 0 ∷ 0 ∷ 0 ∷ []) short

pub write_set-requires-clause-below : goal.write_set-requires-clause-below
write_set-requires-clause-below c =
    let r = c.args.regions.now in
    let at = slice_get_read r.homes.items (length r.homes.items) c.args.region c.index.result.now refl c.requires.inside c.index.ensures in
    home_within r c.requires.regions.regions c.args.region c.index.result.now at c.cells.result _ c.cells.ensures.value (first_length r.count c.requires.regions.regions.short)

pub add_edges-requires : goal.add_edges-requires
add_edges-requires c =
    let r = c.args.regions.now in
    let at = slice_get_read r.homes.items (length r.homes.items) c.args.region c.index.result.now refl c.requires.inside c.index.ensures in
    record { regions = c.requires.regions; cells = written_rising r c.requires.regions.regions c.args.region c.index.result.now at c.write_set.new.set _ c.cells.result _ c.cells.ensures.value (first_length r.count c.requires.regions.regions.short) c.write_set.ensures }

pub returns : goal.returns
returns c =
    let r = c.args.regions.now in
    let at = slice_get_read r.homes.items (length r.homes.items) c.args.region c.index.result.now refl c.requires.inside c.index.ensures in
    on_ok_weaker c.add_edges.result
    (written_added r c.requires.regions.regions c.args.region c.index.result.now at c.write_set.new.set _ c.cells.result _ c.cells.ensures.value (first_length r.count c.requires.regions.regions.short) c.write_set.ensures c.args.edges.now.items c.add_edges.new.edges.items)
    c.add_edges.ensures
