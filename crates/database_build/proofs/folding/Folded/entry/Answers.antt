use Rattle.std.proofs.Common.{◌<◌, arith, refl, sym, subst}
use Rattle.pattern_index.specs.Groups.{folded_size_of}
use Rattle.database_build.specs.Folds.{FoldedModel}
use Rattle.database_build.proofs.FoldLemmas.{byte_read, bytes_size, place_read, word_read, words_size}
use Rattle.database_build.proofs.folding.Folded.entry.Goals as goal

pub sparse_at-requires : goal.sparse_at-requires
sparse_at-requires c = subst (λ (f : FoldedModel). c.args.place < folded_size_of f.selection) (sym c.self.view_is) c.requires

pub sparse_at-requires-in-Words : goal.sparse_at-requires-in-Words
sparse_at-requires-in-Words c = subst (λ (f : FoldedModel). c.args.place < folded_size_of f.selection) (sym c.self.view_is) c.requires

pub index-requires-in-Bytes : goal.index-requires-in-Bytes
index-requires-in-Bytes c =
    let low = c.sparse_at.ensures.below in
    let size = bytes_size c.self.inside.group c.self.inside.entries c.self.invariant.1 c.in-Bytes.bytes.items c.in-Bytes.bytes c.in-Bytes.is refl in
    omega (arith, low, size, c.in-Bytes.bytes.ok.0)

pub index-requires-in-Words : goal.index-requires-in-Words
index-requires-in-Words c =
    let low = c.sparse_at-in-Words.ensures.below in
    let size = words_size c.self.inside.group c.self.inside.entries c.self.invariant.1 c.in-Words.words.items c.in-Words.words c.in-Words.is refl in
    omega (arith, low, size, c.in-Words.words.ok.0)

pub returns-in-Bytes : goal.returns-in-Bytes
returns-in-Bytes c =
    place_read c.args.self.now c.self.inside.group c.self.inside.entries c.self.view_is c.self.invariant.1 c.args.place c.sparse_at.result c.widened.result c.requires c.sparse_at.ensures.value
    (byte_read c.self.inside.group c.self.inside.entries c.self.invariant.1 c.in-Bytes.bytes.items c.sparse_at.result c.sparse_at.ensures.below c.in-Bytes.bytes c.index-in-Bytes.result.now c.widened.result c.in-Bytes.is refl c.index-in-Bytes.ensures c.widened.ensures)

pub returns-in-Words : goal.returns-in-Words
returns-in-Words c =
    place_read c.args.self.now c.self.inside.group c.self.inside.entries c.self.view_is c.self.invariant.1 c.args.place c.sparse_at-in-Words.result c.index-in-Words.result.now c.requires c.sparse_at-in-Words.ensures.value
    (word_read c.self.inside.group c.self.inside.entries c.self.invariant.1 c.in-Words.words.items c.sparse_at-in-Words.result c.sparse_at-in-Words.ensures.below c.in-Words.words c.index-in-Words.result.now c.in-Words.is refl c.index-in-Words.ensures)
