use Rattle.std.proofs.Common.{◌∷◌, ◌++◌, [], sym, ap, ◌∙◌}
use Rattle.world_model.specs.Workers.{Packet}
use Rattle.worker_core.proofs.GuideLemmas.{packet_replaced, packet_read}
use Rattle.worker_core.proofs.taking.put_item.Goals as goal

pub returns : goal.returns
returns c =
    let xs = c.args.packets.now.items in
    let read = packet_read xs c.args.to c.index_mut.result.now [] c.requires.there c.index_mut.ensures.value in
    packet_replaced xs c.args.to c.push.new.self _ (c.push.ensures.items ∙ ap (λ (p : Packet). p ++ c.args.item ∷ []) (sym read))
