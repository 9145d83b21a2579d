use Rattle.pattern_index.specs.Sparse.{sparse_size_of}
use Rattle.database_build.proofs.EntryLemmas.{written_again}
use Rattle.database_build.proofs.entries.fill_places.Goals as goal

pub returns : goal.returns
returns g c =
    written_again {A = g.row.T.Denot} c.args.group.now c.args.least.now c.deref_mut.result.now c.write_places.new.places c.in_ok-places.places.items c.args.filler c.in_ok-places.places.len c.sparse_size.result (sparse_size_of c.args.group.now)
    c.in_ok-places.places.ok.0 c.deref_mut.ensures.value c.in_ok-places.ensures.items c.sparse_size.ensures c.write_places.ensures
