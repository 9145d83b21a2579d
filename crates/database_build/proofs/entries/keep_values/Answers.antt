use Rattle.std.proofs.Common.{◌∙◌, arith}
use Rattle.database_build.proofs.EntryLemmas.{bytes_kept, nodes_low, slots_all, slots_size, words_kept}
use Rattle.database_build.proofs.entries.keep_values.Goals as goal

pub returns-then-not-are_small-clause-entries : goal.returns-then-not-are_small-clause-entries
returns-then-not-are_small-clause-entries c = slots_size c.args.group.now c.args.regions.now c.requires.nodes.regions c.in_ok-words.words.items c.in_ok-words.ensures.size

pub returns-clause-entries : goal.returns-clause-entries
returns-clause-entries c = slots_size c.args.group.now c.args.regions.now c.requires.nodes.regions c.in_ok-bytes.bytes.items c.in_ok-bytes.ensures.size

pub returns-then-not-are_small-clause-values : goal.returns-then-not-are_small-clause-values
returns-then-not-are_small-clause-values c v view =
    words_kept c.args.group.now c.args.regions.now c.requires.nodes.regions v view c.args.nodes.now c.in_ok-words.words.items (slots_all c.args.group.now c.args.regions.now c.requires.nodes.regions v view c.args.nodes.now c.in_ok-words.words.items c.in_ok-words.ensures)

pub narrow_all-requires : goal.narrow_all-requires
narrow_all-requires c =
    let low = nodes_low c.args.group.now c.args.regions.now c.requires.nodes.regions in
    let nodes = c.requires.nodes.one_each in
    let count = c.slot_count.ensures in
    let few = c.if-slot_count-gt-MOST_SLOTS.false in
    omega (arith, low, nodes, count, few)

pub returns-clause-values : goal.returns-clause-values
returns-clause-values c v view =
    bytes_kept c.args.group.now c.args.regions.now c.requires.nodes.regions v view c.args.nodes.now c.deref.result.now c.in_ok-bytes.bytes.items c.requires.nodes.one_each
    (c.are_small.ensures.0 c.if-not-are_small.false) (c.deref.ensures.value ∙ c.in_ok-narrow.ensures) (slots_all c.args.group.now c.args.regions.now c.requires.nodes.regions v view c.deref.result.now c.in_ok-bytes.bytes.items c.in_ok-bytes.ensures)
