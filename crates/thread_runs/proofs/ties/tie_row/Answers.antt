use Rattle.std.proofs.Common.{rules, ◌≡◌, ◌<◌, [], List, length, slice_index_or, ap, sym, ◌∙◌, subst}
use Rattle.std.proofs.lemmas.List.{get_or-map}
use Rattle.thread_parts.specs.Rings.{Ring, IsSameRing, out_rings, in_rings, received_lanes, left_lanes, rings_of_ins, sent_lanes}
use Rattle.world_model.specs.Workers.{Lane}
use Rattle.thread_runs.specs.Lanes.{IsTied}
use Rattle.thread_runs.proofs.TakenLemmas.{in_rings-set, received-set, tied_row, quiet_row, others_row}
use Rattle.thread_runs.proofs.ties.tie_row.Goals as goal

pub tie_ring-requires-after_bounds : goal.tie_ring-requires-after_bounds
tie_ring-requires-after_bounds g c κs within =
    let inv = c.receivers.invariant in
    let x = c.index_mut.result.now in
    let xs = c.receivers.ins.items in
    let j = c.receivers.j in
    let inside : j < length xs = search rules in
    let here : slice_index_or (rings_of_ins xs) j [] ≡ in_rings x.items = get_or-map (λ v. in_rings v.items) xs j x [] inside ∙ ap (λ v. in_rings v.items) (sym c.index_mut.ensures.value) in
    let row : slice_index_or (rings_of_ins c.args.ins.now.items) j [] ≡ in_rings x.items = ap (λ (ls : List (List Ring)). slice_index_or ls j []) (sym inv.in_rings) ∙ here in
    let outs : out_rings c.args.outs.now.items ≡ out_rings c.receivers.outs.items = ap out_rings (sym inv.outs) in
    subst (λ (it : List Ring × List Ring). IsSameRing it.0 j it.1 c.args.i) (λ t. (outs t, row t)) (c.requires j (search rules))

pub receivers-preserved : goal.receivers-preserved
receivers-preserved g c =
    let inv = c.receivers.invariant in
    let x = c.index_mut.result.now in
    let q = c.tie_ring.new.ins in
    let xs = c.receivers.ins.items in
    let j = c.receivers.j in
    let i = c.args.i in
    let at = c.index_mut.ensures.value in
    let e = c.tie_ring.ensures in
    let inside : j < length xs = search rules in
    let sent : sent_lanes c.tie_ring.new.outs.items ≡ sent_lanes c.args.outs.now.items = ap sent_lanes (e.outs ∙ inv.outs) in
    let here = get_or-map (λ v. left_lanes v.items) xs j x [] inside ∙ ap (λ v. left_lanes v.items) (sym at) in
    record {
      book = e.book ∙ inv.book;
      outs = e.outs ∙ inv.outs;
      outs_len = search rules;
      ins_len = search rules;
      in_rings = in_rings-set xs j q x at e.ins.rings ∙ inv.in_rings;
      received = received-set xs j q x at e.ins.received ∙ inv.received;
      tied = tied_row (λ v. received_lanes v.items) (λ v. left_lanes v.items) xs j i q x inside (sent_lanes c.args.outs.now.items)
          (subst (λ (s : List Lane). IsTied (slice_index_or s j []) (slice_index_or (received_lanes q.items) i []) (slice_index_or (left_lanes q.items) i [])) sent e.tied) inv.tied;
      quiet = λ quiet. quiet_row (λ v. received_lanes v.items) (λ v. left_lanes v.items) xs j i q x inside (e.quiet (ap (λ b. b.stop) inv.book ∙ quiet)) (inv.quiet quiet);
      others = λ k m other. others_row (λ v. received_lanes v.items) (λ v. left_lanes v.items) xs j i q x inside here e.ins.others k m other ∙ inv.others k m other;
    }

pub returns-clause-ins : goal.returns-clause-ins
returns-clause-ins g c = let inv = c.receivers.invariant in record { rings = inv.in_rings; received = inv.received; others = inv.others }
