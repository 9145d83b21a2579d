use Rattle.std.proofs.Common.{arith}
use Rattle.database_build.proofs.EntryLemmas.{byte_read, bytes_within, slot_there, word_read, words_within}
use Rattle.database_build.proofs.table.Table.slot_value.Goals as goal

pub index-requires-in-Bytes : goal.index-requires-in-Bytes
index-requires-in-Bytes c =
    let low = bytes_within c.args.self.now c.self.inside.group c.self.inside.entries c.self.view_is c.self.invariant c.requires.0 c.requires.1 c.args.slot
    (slot_there c.args.self.now c.self.inside.group c.self.inside.entries c.self.view_is c.self.invariant c.requires.0 c.args.slot c.requires.2)
    c.in-Bytes.bytes c.in-Bytes.is in
    omega (arith, low, c.in-Bytes.bytes.ok.0)

pub index-requires-in-Words : goal.index-requires-in-Words
index-requires-in-Words c =
    let low = words_within c.args.self.now c.self.inside.group c.self.inside.entries c.self.view_is c.self.invariant c.requires.0 c.requires.1 c.args.slot
    (slot_there c.args.self.now c.self.inside.group c.self.inside.entries c.self.view_is c.self.invariant c.requires.0 c.args.slot c.requires.2)
    c.in-Words.words c.in-Words.is in
    omega (arith, low, c.in-Words.words.ok.0)

pub returns-in-Bytes : goal.returns-in-Bytes
returns-in-Bytes c = λ v view at.
    byte_read c.args.self.now c.self.inside.group c.self.inside.entries c.self.view_is c.self.invariant v view c.args.slot
    (slot_there c.args.self.now c.self.inside.group c.self.inside.entries c.self.view_is c.self.invariant v c.args.slot at)
    c.in-Bytes.bytes c.index-in-Bytes.result.now c.widened.result c.in-Bytes.is c.index-in-Bytes.ensures c.widened.ensures

pub returns-in-Words : goal.returns-in-Words
returns-in-Words c = λ v view at.
    word_read c.args.self.now c.self.inside.group c.self.inside.entries c.self.view_is c.self.invariant v view c.args.slot
    (slot_there c.args.self.now c.self.inside.group c.self.inside.entries c.self.view_is c.self.invariant v c.args.slot at)
    c.in-Words.words c.index-in-Words.result.now c.in-Words.is c.index-in-Words.ensures
