use Rattle.std.proofs.Common.{rules, ℕ, arith, ◌≡◌, ◌++◌, ◌∷◌, [], ap, ◌∙◌, length, subst}
use Rattle.std.proofs.lemmas.List.{map-append, length-map}
use Rattle.thread_parts.specs.Rings.{Ring, SenderModel, ReceiverModel, IsRoomBetween, room_of, out_rings, in_rings, sent_lanes, received_lanes, rings_of_outs, rings_of_ins, sent_rows, received_rows}
use Rattle.thread_parts.proofs.GridLemmas.{nil_row, all_nil_rows, as_wide, rows_more, length_end, grid_more, grid_paired, IsGrid}
use Rattle.thread_parts.proofs.rows.open_rings.Goals as goal

pub rows-preserved : goal.rows-preserved
rows-preserved g c =
    let inv = c.rows.invariant in
    let outs = c.rows.outs.items in
    let row = c.in_ok-row.row in
    let ends = c.in_ok-row.ensures in
    let n = c.args.n in
    let len : length outs ≡ c.rows.from = search rules in
    let wide : length row.items ≡ n = search rules in
    let e : c.push.new.items.items ≡ outs ++ row ∷ [] = search rules in
    let more = ap length e ∙ length_end outs row in (
      omega (arith, more, len, c.push.new.items.ok.0),
      search rules,
      rw (e, map-append (λ row. out_rings row.items) outs (row ∷ [])) (grid_more n c.rows.from (rings_of_outs outs) (rings_of_ins c.rows.ins.items) (rings_of_ins c.open_row.new.ins.items) (out_rings row.items) inv.2
          (length-map outs (λ row. out_rings row.items) ∙ len) (length-map row.items (λ out. out.ring) ∙ wide) (λ j d low. ends.rings j d (omega (arith, low, inv.1)))),
      rw (e, map-append (λ row. sent_lanes row.items) outs (row ∷ [])) (nil_row (sent_rows outs) (sent_lanes row.items) inv.3 ends.sent),
      rw e (rows_more (λ (i j : ℕ) (ring : Ring). IsRoomBetween i j (room_of ring)) (λ row. out_rings row.items) outs row inv.4 (rw len ends.rooms)),
      ends.received inv.5,
    )

pub returns : goal.returns
returns g c =
    let inv = c.rows.invariant in
    let outs = c.rows.outs.items in
    let ins = c.rows.ins.items in
    let n = c.args.n in
    let all : c.rows.from ≡ n = omega arith in
    let len_outs : length outs ≡ n = omega (arith, inv.0, c.rows.outs.ok.0) in
    let len_ins : length ins ≡ n = omega (arith, inv.1, c.rows.ins.ok.0) in
    let many_outs = length-map outs (λ row. out_rings row.items) ∙ len_outs in
    let many_ins = length-map ins (λ row. in_rings row.items) ∙ len_ins in
    record {
      paired = grid_paired n (rings_of_outs outs) (rings_of_ins ins) many_outs many_ins (subst (λ (k : ℕ). IsGrid n k (rings_of_outs outs) (rings_of_ins ins)) all inv.2);
      sent = all_nil_rows (sent_rows outs) n n (length-map outs (λ row. sent_lanes row.items) ∙ len_outs)
          (λ i low. as_wide (λ row. row.items) (λ (out : SenderModel). out.sent) (λ (out : SenderModel). out.ring) outs i ∙ inv.2.rows_out i (omega (arith, low))) inv.3;
      received = all_nil_rows (received_rows ins) n n (length-map ins (λ row. received_lanes row.items) ∙ len_ins)
          (λ j low. as_wide (λ row. row.items) (λ (into : ReceiverModel). into.received) (λ (into : ReceiverModel). into.ring) ins j ∙ (inv.2.rows_in j low ∙ all)) inv.5;
      rooms = inv.4;
    }
