use Rattle.std.proofs.Common.{rules, arith, ◌≡◌, ◌++◌, ◌∷◌, [], Vec, sym, ◌∙◌, Some, length, replicate}
use Rattle.std.specs.Prelude.{slice_get, slice_index_or}
use Rattle.std.specs.declared.alloc.Global.{Global}
use Rattle.thread_parts.specs.Rings.{SenderModel, ReceiverModel, out_rings, in_rings, sent_lanes, received_lanes, rings_of_outs, rings_of_ins}
use Rattle.thread_parts.specs.Parts.{face}
use Rattle.thread_runs.proofs.TakenLemmas.{each_more}
use Rattle.thread_runs.proofs.LawLemmas.{row_is, row_same, IsFace, joint_of}
use Rattle.thread_runs.proofs.opening.open_parts.Goals as goal

pub open_part-requires-clause-sent : goal.open_part-requires-clause-sent
open_part-requires-clause-sent g c κs within =
    let me = c.workers.me in
    let n = c.args.search.now.workers in
    let row = c.take_row-to_each.result in
    let at : slice_get c.args.rings.outs.items me ≡ Some row = sym (c.workers.invariant.later_outs me (omega arith)) ∙ c.take_row-to_each.ensures.row in
    row_same (λ (v : Vec SenderModel Global). sent_lanes v.items) c.args.rings.outs.items me row at n (replicate n []) c.requires.rings.sent

pub open_part-requires-clause-received : goal.open_part-requires-clause-received
open_part-requires-clause-received g c κs within =
    let me = c.workers.me in
    let n = c.args.search.now.workers in
    let row = c.take_row-from_each.result in
    let at : slice_get c.args.rings.ins.items me ≡ Some row = sym (c.workers.invariant.later_ins me (omega arith)) ∙ c.take_row-from_each.ensures.row in
    row_same (λ (v : Vec ReceiverModel Global). received_lanes v.items) c.args.rings.ins.items me row at n (replicate n []) c.requires.rings.received

pub workers-preserved : goal.workers-preserved
workers-preserved g c =
    let inv = c.workers.invariant in
    let me = c.workers.me in
    let p = c.args.search.now.job in
    let owners = c.args.search.now.owners.now in
    let rings = c.args.rings in
    let parts = c.workers.parts.items in
    let part = c.in_ok-part.part in
    let out = c.take_row-to_each.result in
    let into = c.take_row-from_each.result in
    let at_out : slice_get rings.outs.items me ≡ Some out = sym (inv.later_outs me (omega arith)) ∙ c.take_row-to_each.ensures.row in
    let at_in : slice_get rings.ins.items me ≡ Some into = sym (inv.later_ins me (omega arith)) ∙ c.take_row-from_each.ensures.row in
    let e : c.push_reserved.new.self.items ≡ parts ++ part ∷ [] = search rules in
    let len : length parts ≡ me = search rules in
    let outs_are : slice_index_or (rings_of_outs rings.outs.items) me [] ≡ out_rings out.items = row_is (λ (v : Vec SenderModel Global). out_rings v.items) rings.outs.items me out at_out [] in
    let ins_are : slice_index_or (rings_of_ins rings.ins.items) me [] ≡ in_rings into.items = row_is (λ (v : Vec ReceiverModel Global). in_rings v.items) rings.ins.items me into at_in [] in
    let is : IsFace p owners (rings_of_outs rings.outs.items) (rings_of_ins rings.ins.items) me part = c.in_ok-part.ensures ∙ (λ t. face p owners me (sym outs_are t) (sym ins_are t)) in
    record {
      count = search rules;
      room = search rules;
      outs = search rules;
      ins = search rules;
      tickets = omega (arith, inv.tickets, c.means_for-means.ensures.left);
      seed = λ low. c.means_for-means.ensures.later (omega (arith, low));
      later_outs = λ k low. c.take_row-to_each.ensures.others k (λ same. omega (arith, low, same)) ∙ inv.later_outs k (omega (arith, low));
      later_ins = λ k low. c.take_row-from_each.ensures.others k (λ same. omega (arith, low, same)) ∙ inv.later_ins k (omega (arith, low));
      faces = λ i it h. each_more (IsFace p owners (rings_of_outs rings.outs.items) (rings_of_ins rings.ins.items)) parts part inv.faces (rw len is) i it (rw e at h);
    }

pub returns-clause-joint : goal.returns-clause-joint
returns-clause-joint g c =
    let inv = c.workers.invariant in
    let rings = c.args.rings in
    let n = c.args.search.now.workers in
    let len : length c.workers.parts.items ≡ n = omega arith in
    joint_of c.args.search.now.job c.args.search.now.owners.now n c.workers.parts.items (rings_of_outs rings.outs.items) (rings_of_ins rings.ins.items) len c.requires.rings.paired inv.faces
