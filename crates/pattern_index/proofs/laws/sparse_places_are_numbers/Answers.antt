use Rattle.std.proofs.Common.{◌<◌, ◌^◌, sym, ap, ◌∙◌, subst}
use Rattle.std.proofs.lemmas.List.Elements.{recursion_from_All}
use Rattle.board.specs.Shapes.{cell_count}
use Rattle.pattern_index.specs.Sparse.{sparse_of, digits_in, sparse_in}
use Rattle.pattern_index.proofs.RankLemmas.{below_in, differ_from_pairs}
use Rattle.pattern_index.proofs.PlaceLemmas.{place_listing}
use Rattle.pattern_index.proofs.SparseLemmas.{sparse_below, digits_back, moved}
use Rattle.pattern_index.proofs.laws.sparse_places_are_numbers.Goals as goal

pub returns-clause-below : goal.returns-clause-below
returns-clause-below c = λ g v view.
    subst (λ k. sparse_in g.grid v < cell_count g.grid ^ k) view.one_each (sparse_below (cell_count g.grid) v.cells (below_in (cell_count g.grid) v.cells (place_listing g.grid g.tiles v view)))

pub returns-clause-differ : goal.returns-clause-differ
returns-clause-differ c = λ g v w view other.
    let n = cell_count g.grid in
    let one = digits_back n v.cells (below_in n v.cells (place_listing g.grid g.tiles v view)) in
    let two = digits_back n w.cells (below_in n w.cells (place_listing g.grid g.tiles w other)) in
    (λ same. sym one ∙ (λ i. digits_in n ((view.one_each ∙ sym other.one_each) i) (same i)) ∙ two, λ e. ap (sparse_of n) e)

pub returns-clause-moved : goal.returns-clause-moved
returns-clause-moved c = λ g before after tile selection others. moved (cell_count g.grid) tile before after others g.tiles (recursion_from_All (λ t. 0 < t) g.tiles (λ k d k_in. (selection.group.tiles k d k_in).0)) (differ_from_pairs g.tiles selection.group.different)
