use Rattle.database_build.proofs.EntryLemmas.{filled_again}
use Rattle.database_build.proofs.entries.fill_slots.Goals as goal

pub returns : goal.returns
returns g c =
    filled_again {A = g.row.T.Denot} c.args.group.now c.args.regions.now c.args.nodes.now c.deref_mut.result.now c.write_slots.new.slots c.in_ok-slots.slots.items c.args.filler c.in_ok-slots.slots.len c.slot_count.result c.requires.nodes.regions
    c.in_ok-slots.slots.ok.0 c.deref_mut.ensures.value c.in_ok-slots.ensures.items c.slot_count.ensures c.write_slots.ensures
