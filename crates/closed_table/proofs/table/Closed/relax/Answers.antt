use Rattle.std.proofs.Common.{◌≡◌, ◌<◌, ◌+◌, ◌-◌, ◌∙◌, ◌++◌, ◌∷◌, [], refl, sym, ap, arith}
use Rattle.std.specs.Prelude.{slice_get}
use Rattle.std.specs.FinMap as map
use Rattle.world_model.specs.declared.parts.Known.{Known}
use Rattle.closed_table.specs.Tables.{ClosedModel, relaxation_answer}
use Rattle.closed_table.specs.Chains.{row_of_slot, rows_of_slots}
use Rattle.closed_table.proofs.CountLemmas.{count_le}
use Rattle.closed_table.proofs.SlotLemmas.{none_known, has_room, listed_there, known_there, sound_there, table_there}
use Rattle.closed_table.proofs.TableLemmas.{unknown, pushed, table_new, table_lower, table_kept, met_at, kept_is, lower_is}
use Rattle.closed_table.proofs.table.Closed.relax.Goals as goal

pub add-requires-clause-chains : goal.add-requires-clause-chains
add-requires-clause-chains c =
    let room : 0 < c.self.inside.room = has_room c.self.inside c.self.invariant c.args.self.now c.self.view_is c.args.key c.in_default.ensures c.requires in
    let more = count_le (c.self.inside.index.len + 1) (c.self.inside.index.len + c.self.inside.room) (omega arith) in
    record {
      indexed = c.self.invariant.indexed;
      room = let le = c.self.invariant.buckets in omega arith;
      clear = c.self.invariant.clear;
    }

pub add-requires-clause-place : goal.add-requires-clause-place
add-requires-clause-place c =
    let room : 0 < c.self.inside.room = has_room c.self.inside c.self.invariant c.args.self.now c.self.view_is c.args.key c.in_default.ensures c.requires in
    let slots = c.self.invariant.slots in
    let links = c.self.invariant.links in
    let few = c.self.invariant.few in
    record { within = omega arith; small = omega arith }

pub overflow_sub-self : goal.overflow_sub-self
overflow_sub-self c =
    let room : 0 < c.self.inside.room = has_room c.self.inside c.self.invariant c.args.self.now c.self.view_is c.args.key c.in_default.ensures c.requires in
    omega arith

pub invariant_of-self : goal.invariant_of-self
invariant_of-self c =
    let s = c.self.inside.index in
    let room : 0 < c.self.inside.room = has_room c.self.inside c.self.invariant c.args.self.now c.self.view_is c.args.key c.in_default.ensures c.requires in
    let len : c.add.new.index.len ≡ s.len + 1 = c.add.ensures.grown.len in
    record {
      indexed = c.add.ensures.grown.indexed;
      slots = let le = c.self.invariant.slots in let e = c.add.ensures.grown.slots in omega arith;
      links = let le = c.self.invariant.links in let e = c.add.ensures.grown.links in omega arith;
      buckets = let le = c.self.invariant.buckets in let e = c.add.ensures.grown.buckets in let more = count_le (c.add.new.index.len + (c.self.inside.room - 1)) (s.len + c.self.inside.room) (omega arith) in omega arith;
      few = let le = c.self.invariant.few in omega arith;
      clear = λ none. absurd (omega arith);
    }

pub returns-in_default-clause-answer : goal.returns-in_default-clause-answer
returns-in_default-clause-answer c =
    ap (λ o. relaxation_answer o c.args.cost) (sym (none_known c.self.inside c.self.invariant c.args.self.now c.self.view_is c.args.key c.in_default.ensures))

pub returns-in_default-clause-table : goal.returns-in_default-clause-table
returns-in_default-clause-table c =
    let s = c.self.inside.index in
    let none = none_known c.self.inside c.self.invariant c.args.self.now c.self.view_is c.args.key c.in_default.ensures in
    let entry : Known = met_at c.args.cost c.args.via in
    pushed (rows_of_slots s.slots s.len) (rows_of_slots c.add.new.index.slots c.add.new.index.len) c.args.key (c.self.inside.room - 1) entry c.add.ensures.rows (unknown s.slots s.len c.self.invariant.indexed.in_slots c.args.key c.in_default.ensures)
    ∙ ap (λ (t : ClosedModel). record { keys = t.keys ++ c.args.key ∷ []; known = map.insert t.known c.args.key entry; room = t.room - 1 }) c.self.view_is
    ∙ sym (table_new c.args.self.now c.args.key c.args.cost c.args.via none)

pub returns-then-slot-cost-clause-answer : goal.returns-then-slot-cost-clause-answer
returns-then-slot-cost-clause-answer c =
    let known = known_there c.self.inside c.self.invariant c.args.self.now c.self.view_is c.args.key c.in-Some.place c.in-Some.ensures.0 c.in-Some.ensures.1 c.at-slot.result.now c.at-slot.ensures in
    sym (ap (λ o. relaxation_answer o c.args.cost) known ∙ kept_is (row_of_slot c.at-slot.result.now).1 c.args.cost c.if-slot-cost.true)

pub invariant_of-self-2 : goal.invariant_of-self-2
invariant_of-self-2 c =
    sound_there c.self.inside c.self.invariant c.args.self.now c.self.view_is c.args.key c.in-Some.place c.in-Some.ensures.0 c.in-Some.ensures.1 c.at_mut-slot.result.now c.at_mut-slot.ensures.value (met_at c.args.cost c.args.via) _ refl

pub returns-clause-answer : goal.returns-clause-answer
returns-clause-answer c =
    let known = known_there c.self.inside c.self.invariant c.args.self.now c.self.view_is c.args.key c.in-Some.place c.in-Some.ensures.0 c.in-Some.ensures.1 c.at-slot.result.now c.at-slot.ensures in
    sym (ap (λ o. relaxation_answer o c.args.cost) known ∙ lower_is (row_of_slot c.at-slot.result.now).1 c.args.cost c.if-slot-cost.false)

pub returns-clause-table : goal.returns-clause-table
returns-clause-table c =
    let known = known_there c.self.inside c.self.invariant c.args.self.now c.self.view_is c.args.key c.in-Some.place c.in-Some.ensures.0 c.in-Some.ensures.1 c.at-slot.result.now c.at-slot.ensures in
    table_there c.self.inside c.self.invariant c.args.self.now c.self.view_is c.args.key c.in-Some.place c.in-Some.ensures.0 c.in-Some.ensures.1 c.at_mut-slot.result.now c.at_mut-slot.ensures.value (met_at c.args.cost c.args.via) _ refl
    ∙ sym (table_lower c.args.self.now c.args.key c.args.cost c.args.via (row_of_slot c.at-slot.result.now).1 known c.if-slot-cost.false)

pub returns-clause-place : goal.returns-clause-place
returns-clause-place c =
    ap (λ (t : ClosedModel). slice_get t.keys c.in-Some.place) (table_there c.self.inside c.self.invariant c.args.self.now c.self.view_is c.args.key c.in-Some.place c.in-Some.ensures.0 c.in-Some.ensures.1 c.at_mut-slot.result.now c.at_mut-slot.ensures.value (met_at c.args.cost c.args.via) _ refl)
    ∙ listed_there c.self.inside c.self.invariant c.args.self.now c.self.view_is c.args.key c.in-Some.place c.in-Some.ensures.0 c.in-Some.ensures.1

pub returns-then-slot-cost-clause-table : goal.returns-then-slot-cost-clause-table
returns-then-slot-cost-clause-table c =
    let known = known_there c.self.inside c.self.invariant c.args.self.now c.self.view_is c.args.key c.in-Some.place c.in-Some.ensures.0 c.in-Some.ensures.1 c.at-slot.result.now c.at-slot.ensures in
    sym (table_kept c.args.self.now c.args.key c.args.cost c.args.via (row_of_slot c.at-slot.result.now).1 known c.if-slot-cost.true)

pub returns-then-slot-cost-clause-place : goal.returns-then-slot-cost-clause-place
returns-then-slot-cost-clause-place c =
    listed_there c.self.inside c.self.invariant c.args.self.now c.self.view_is c.args.key c.in-Some.place c.in-Some.ensures.0 c.in-Some.ensures.1
