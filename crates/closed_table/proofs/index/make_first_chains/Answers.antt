use Rattle.std.proofs.Common.{refl}
use Rattle.closed_table.proofs.IndexLemmas.{first_chains}
use Rattle.closed_table.proofs.index.make_first_chains.Goals as goal

pub returns-clause-grown : goal.returns-clause-grown
returns-clause-grown c =
    let s = c.args.index.now in
    record {
      indexed = first_chains s.slots s.links s.buckets s.len c.requires.none c.requires.room c.requires.clear;
      len = refl;
      slots = refl;
      links = refl;
      buckets = refl;
    }
