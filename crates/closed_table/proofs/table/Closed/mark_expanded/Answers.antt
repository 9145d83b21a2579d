use Rattle.std.proofs.Common.{◌∙◌, Option, None, true, refl, sym, ap, subst}
use Rattle.std.specs.Prelude.{IsSome}
use Rattle.world_model.specs.declared.parts.Known.{Known}
use Rattle.closed_table.specs.Tables.{table_closure}
use Rattle.closed_table.specs.Chains.{row_of_slot}
use Rattle.closed_table.proofs.SlotLemmas.{none_known, known_there, sound_there, table_there}
use Rattle.closed_table.proofs.table.Closed.mark_expanded.Goals as goal

pub unreachable-requires : goal.unreachable-requires
unreachable-requires c =
    let none = none_known c.self.inside c.self.invariant c.args.self.now c.self.view_is c.args.key c.in_default.ensures in
    let never : IsSome {T = Known} None = subst (λ (o : Option Known). IsSome o) none c.requires in
    cc

pub invariant_of-self : goal.invariant_of-self
invariant_of-self c =
    let marked : Known = record (row_of_slot c.at_mut-slot.result.now).1 { expanded = true } in
    sound_there c.self.inside c.self.invariant c.args.self.now c.self.view_is c.args.key c.in-Some.place c.in-Some.ensures.0 c.in-Some.ensures.1 c.at_mut-slot.result.now c.at_mut-slot.ensures.value marked _ refl

pub returns : goal.returns
returns c =
    let known = known_there c.self.inside c.self.invariant c.args.self.now c.self.view_is c.args.key c.in-Some.place c.in-Some.ensures.0 c.in-Some.ensures.1 c.at_mut-slot.result.now c.at_mut-slot.ensures.value in
    let marked : Known = record (row_of_slot c.at_mut-slot.result.now).1 { expanded = true } in
    table_there c.self.inside c.self.invariant c.args.self.now c.self.view_is c.args.key c.in-Some.place c.in-Some.ensures.0 c.in-Some.ensures.1 c.at_mut-slot.result.now c.at_mut-slot.ensures.value marked _ refl
    ∙ sym (ap (λ o. table_closure c.args.self.now c.args.key o) known)
