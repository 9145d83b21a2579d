use Rattle.std.proofs.Common.{◌<◌, ◌∙◌, ℕ, true, refl, sym, ap}
use Rattle.std.specs.Prelude.{slice_index}
use Rattle.world_model.specs.declared.parts.Known.{Known}
use Rattle.closed_table.specs.Tables.{table_closure}
use Rattle.closed_table.specs.Chains.{row_of_slot}
use Rattle.closed_table.proofs.SlotLemmas.{place_lt, key_there, known_there, sound_there, table_there}
use Rattle.closed_table.proofs.table.Closed.mark_expanded_at.Goals as goal

pub invariant_of-self : goal.invariant_of-self
invariant_of-self c =
    let key : ℕ = slice_index c.args.self.now.keys c.args.place in
    let lt : c.args.place < c.self.inside.index.len = place_lt c.self.inside c.self.invariant c.args.self.now c.self.view_is c.args.place c.requires in
    let there = key_there c.self.inside c.self.invariant c.args.self.now c.self.view_is c.args.place lt in
    let marked : Known = record (row_of_slot c.at_mut-marked.result.now).1 { expanded = true } in
    sound_there c.self.inside c.self.invariant c.args.self.now c.self.view_is key c.args.place lt there c.at_mut-marked.result.now c.at_mut-marked.ensures.value marked _ refl

pub returns : goal.returns
returns c =
    let key : ℕ = slice_index c.args.self.now.keys c.args.place in
    let lt : c.args.place < c.self.inside.index.len = place_lt c.self.inside c.self.invariant c.args.self.now c.self.view_is c.args.place c.requires in
    let there = key_there c.self.inside c.self.invariant c.args.self.now c.self.view_is c.args.place lt in
    let known = known_there c.self.inside c.self.invariant c.args.self.now c.self.view_is key c.args.place lt there c.at_mut-marked.result.now c.at_mut-marked.ensures.value in
    let marked : Known = record (row_of_slot c.at_mut-marked.result.now).1 { expanded = true } in
    table_there c.self.inside c.self.invariant c.args.self.now c.self.view_is key c.args.place lt there c.at_mut-marked.result.now c.at_mut-marked.ensures.value marked _ refl
    ∙ sym (ap (λ o. table_closure c.args.self.now key o) known)
