use Rattle.std.proofs.Common.{◌∙◌, sym}
use Rattle.std.proofs.lemmas.Bool.{false≢true}
use Rattle.std.proofs.lemmas.List.{length-replicate}
use Rattle.pattern_index.specs.Sparse.{sparse_size_of}
use Rattle.pattern_search.specs.declared.finding.TheConstants.{NO_VALUE}
use Rattle.database_build.proofs.EntryLemmas.{bytes_least, least_few, not_more, others_kept, tiles_placed, words_least, words_needed}
use Rattle.database_build.proofs.entries.keep_least.Goals as goal

pub returns-then-not-are_small-clause-entries : goal.returns-then-not-are_small-clause-entries
returns-then-not-are_small-clause-entries c = (
  record {
    few = not_more c.args.group.now (λ more. false≢true (c.if-has_many_places.ensures.1 more));
    size = c.in_ok-words.ensures.size ∙ length-replicate (sparse_size_of c.args.group.now) NO_VALUE;
    others = others_kept c.args.group.now c.args.least.now c.in_ok-words.words.items NO_VALUE c.in_ok-words.ensures;
  },
  words_needed c.args.group.now c.args.least.now c.in_ok-words.words.items c.requires c.in_ok-words.ensures.written (λ small. false≢true (sym c.if-not-are_small.true ∙ c.are_small.ensures.1 small)),
)

pub returns-then-not-are_small-clause-values : goal.returns-then-not-are_small-clause-values
returns-then-not-are_small-clause-values c v view =
    words_least c.args.group.now v view c.args.least.now c.in_ok-words.words.items (c.in_ok-words.ensures.written v.cells (tiles_placed c.args.group.now v view))

pub narrow_all-requires : goal.narrow_all-requires
narrow_all-requires c = least_few c.args.group.now c.args.least.now c.requires (λ more. false≢true (c.if-has_many_places.ensures.1 more))

pub returns-clause-entries : goal.returns-clause-entries
returns-clause-entries c = record {
  few = not_more c.args.group.now (λ more. false≢true (c.if-has_many_places.ensures.1 more));
  size = c.in_ok-bytes.ensures.size ∙ length-replicate (sparse_size_of c.args.group.now) 255;
  others = others_kept c.args.group.now c.deref.result.now c.in_ok-bytes.bytes.items 255 c.in_ok-bytes.ensures;
}

pub returns-clause-values : goal.returns-clause-values
returns-clause-values c v view =
    bytes_least c.args.group.now v view c.args.least.now c.deref.result.now c.in_ok-bytes.bytes.items c.requires (c.are_small.ensures.0 c.if-not-are_small.false) (c.deref.ensures.value ∙ c.in_ok-narrow.ensures)
    (c.in_ok-bytes.ensures.written v.cells (tiles_placed c.args.group.now v view))
