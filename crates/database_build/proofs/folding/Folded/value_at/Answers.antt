use Rattle.std.proofs.Common.{arith, refl, ap, ◌∙◌}
use Rattle.pattern_index.specs.Sparse.{sparse_in}
use Rattle.pattern_index.specs.Views.{view_at}
use Rattle.database_build.specs.Folds.{FoldedModel}
use Rattle.database_build.proofs.FoldLemmas.{byte_read, bytes_size, view_read, view_within, word_read, words_size}
use Rattle.database_build.proofs.folding.Folded.value_at.Goals as goal

pub index-requires-in-Bytes : goal.index-requires-in-Bytes
index-requires-in-Bytes c =
    let low = view_within c.args.self.now c.self.inside.group c.self.inside.entries c.self.view_is c.self.invariant.1 (view_at c.args.self.now.selection.tiles c.args.cells.now) c.sparse_place_at.result c.requires (c.sparse_place_at.ensures ∙ ap (λ (f : FoldedModel). sparse_in c.self.inside.group.grid (view_at f.selection.tiles c.args.cells.now)) c.self.view_is) in
    let size = bytes_size c.self.inside.group c.self.inside.entries c.self.invariant.1 c.in-Bytes.bytes.items c.in-Bytes.bytes c.in-Bytes.is refl in
    omega (arith, low, size, c.in-Bytes.bytes.ok.0)

pub index-requires-in-Words : goal.index-requires-in-Words
index-requires-in-Words c =
    let low = view_within c.args.self.now c.self.inside.group c.self.inside.entries c.self.view_is c.self.invariant.1 (view_at c.args.self.now.selection.tiles c.args.cells.now) c.sparse_place_at-in-Words.result c.requires (c.sparse_place_at-in-Words.ensures ∙ ap (λ (f : FoldedModel). sparse_in c.self.inside.group.grid (view_at f.selection.tiles c.args.cells.now)) c.self.view_is) in
    let size = words_size c.self.inside.group c.self.inside.entries c.self.invariant.1 c.in-Words.words.items c.in-Words.words c.in-Words.is refl in
    omega (arith, low, size, c.in-Words.words.ok.0)

pub returns-in-Bytes : goal.returns-in-Bytes
returns-in-Bytes c =
    let there = c.sparse_place_at.ensures ∙ ap (λ (f : FoldedModel). sparse_in c.self.inside.group.grid (view_at f.selection.tiles c.args.cells.now)) c.self.view_is in
    let low = view_within c.args.self.now c.self.inside.group c.self.inside.entries c.self.view_is c.self.invariant.1 (view_at c.args.self.now.selection.tiles c.args.cells.now) c.sparse_place_at.result c.requires there in
    view_read c.args.self.now c.self.inside.group c.self.inside.entries c.self.view_is c.self.invariant.1 (view_at c.args.self.now.selection.tiles c.args.cells.now) c.sparse_place_at.result c.widened.result c.requires there
    (byte_read c.self.inside.group c.self.inside.entries c.self.invariant.1 c.in-Bytes.bytes.items c.sparse_place_at.result low c.in-Bytes.bytes c.index-in-Bytes.result.now c.widened.result c.in-Bytes.is refl c.index-in-Bytes.ensures c.widened.ensures)

pub returns-in-Words : goal.returns-in-Words
returns-in-Words c =
    let there = c.sparse_place_at-in-Words.ensures ∙ ap (λ (f : FoldedModel). sparse_in c.self.inside.group.grid (view_at f.selection.tiles c.args.cells.now)) c.self.view_is in
    let low = view_within c.args.self.now c.self.inside.group c.self.inside.entries c.self.view_is c.self.invariant.1 (view_at c.args.self.now.selection.tiles c.args.cells.now) c.sparse_place_at-in-Words.result c.requires there in
    view_read c.args.self.now c.self.inside.group c.self.inside.entries c.self.view_is c.self.invariant.1 (view_at c.args.self.now.selection.tiles c.args.cells.now) c.sparse_place_at-in-Words.result c.index-in-Words.result.now c.requires there
    (word_read c.self.inside.group c.self.inside.entries c.self.invariant.1 c.in-Words.words.items c.sparse_place_at-in-Words.result low c.in-Words.words c.index-in-Words.result.now c.in-Words.is refl c.index-in-Words.ensures)
