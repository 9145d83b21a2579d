use Rattle.std.proofs.Common.{rules, arith, ◌≡◌, ◌<◌, [], List, length, vec_len, slice_index_or, ap, sym, ◌∙◌, subst}
use Rattle.std.proofs.lemmas.List.{get_or-map, length-map}
use Rattle.thread_parts.specs.Rings.{Ring, IsSameRing, out_rings, in_rings, rings_of_outs, rings_of_ins, sent_lanes, sent_rows, received_rows, left_rows, lane_at}
use Rattle.world_model.specs.Workers.{Lane}
use Rattle.thread_runs.specs.Lanes.{IsTied}
use Rattle.thread_runs.proofs.TakenLemmas.{out_rings-set, sent-set, tied_more, quiet_more}
use Rattle.thread_runs.proofs.ties.tie_all.Goals as goal

pub tie_row-requires-after_bounds : goal.tie_row-requires-after_bounds
tie_row-requires-after_bounds g c κs within = λ j low.
    let inv = c.senders.invariant in
    let x = c.index_mut.result.now in
    let xs = c.senders.outs.items in
    let i = c.senders.i in
    let n = vec_len c.args.ins.now in
    let inside : i < length xs = search rules in
    let here : slice_index_or (rings_of_outs xs) i [] ≡ out_rings x.items = get_or-map (λ v. out_rings v.items) xs i x [] inside ∙ ap (λ v. out_rings v.items) (sym c.index_mut.ensures.value) in
    let outs : slice_index_or (rings_of_outs c.args.outs.now.items) i [] ≡ out_rings x.items = ap (λ (ls : List (List Ring)). slice_index_or ls i []) (sym inv.out_rings) ∙ here in
    let ins : slice_index_or (rings_of_ins c.args.ins.now.items) j [] ≡ slice_index_or (rings_of_ins c.senders.ins.items) j [] = ap (λ (ls : List (List Ring)). slice_index_or ls j []) (sym inv.in_rings) in
    let sender : i < n = omega (arith, inside, inv.outs_len, c.requires.outs_len, length-map c.args.outs.now.items (λ v. out_rings v.items)) in
    let receiver : j < n = search (rules, low) in
    let wide = c.requires.rows_out i sender in
    let deep = c.requires.rows_in j receiver in
    subst (λ (it : List Ring × List Ring). IsSameRing it.0 j it.1 i) (λ t. (outs t, ins t)) (record {
      sender = omega (arith, wide, receiver);
      receiver = omega (arith, deep, sender);
      same = c.requires.pairs i j sender receiver;
    })

pub senders-preserved : goal.senders-preserved
senders-preserved g c =
    let inv = c.senders.invariant in
    let x = c.index_mut.result.now in
    let q = c.tie_row.new.outs in
    let xs = c.senders.outs.items in
    let i = c.senders.i in
    let n = vec_len c.args.ins.now in
    let at = c.index_mut.ensures.value in
    let e = c.tie_row.ensures in
    let sent = sent_rows c.args.outs.now.items in
    let received = received_rows c.args.ins.now.items in
    let left = left_rows c.senders.ins.items in
    let left' = left_rows c.tie_row.new.ins.items in
    let inside : i < length xs = search rules in
    let row : slice_index_or sent i [] ≡ sent_lanes q.items =
    ap (λ (ss : List (List Lane)). slice_index_or ss i []) (sym inv.sent) ∙ (get_or-map (λ v. sent_lanes v.items) xs i x [] inside ∙ (ap (λ v. sent_lanes v.items) (sym at) ∙ ap sent_lanes (sym e.outs))) in
    let many = ap (λ (rs : List (List Ring)). length rs) e.ins.rings in
    record {
      book = e.book ∙ inv.book;
      outs_len = search rules;
      ins_len = omega (arith, many, length-map c.tie_row.new.ins.items (λ v. in_rings v.items), length-map c.senders.ins.items (λ v. in_rings v.items), c.tie_row.new.ins.ok.0, c.senders.ins.ok.0, inv.ins_len);
      out_rings = out_rings-set xs i q x at e.outs ∙ inv.out_rings;
      in_rings = e.ins.rings ∙ inv.in_rings;
      sent = sent-set xs i q x at e.outs ∙ inv.sent;
      received = e.ins.received ∙ inv.received;
      tied = tied_more n i sent received left left' (sent_lanes q.items) row e.ins.others
          (λ j low. subst (λ (rs : List (List Lane)). IsTied (slice_index_or (sent_lanes q.items) j []) (lane_at rs j i) (lane_at left' j i)) (e.ins.received ∙ inv.received) (e.tied j (search rules)))
          (λ a b low within. inv.tied a b low (search rules));
      quiet = λ quiet. quiet_more n i sent received left left' (sent_lanes q.items) row e.ins.others
          (λ j low. e.quiet (ap (λ b. b.stop) inv.book ∙ quiet) j (search rules)) (λ a b low within. inv.quiet quiet a b low (search rules));
    }

pub returns-clause-same : goal.returns-clause-same
returns-clause-same g c =
    let inv = c.senders.invariant in
    record { out_rings = inv.out_rings; sent = inv.sent; in_rings = inv.in_rings; received = inv.received }
