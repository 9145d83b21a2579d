use Rattle.std.proofs.Common.{◌<◌, [], length, subst}
use Rattle.std.proofs.lemmas.List.{length-map}
use Rattle.thread_parts.specs.Rings.{SenderModel, ReceiverModel}
use Rattle.thread_parts.proofs.EndLemmas.{map_at_set}
use Rattle.thread_parts.proofs.ties.tie.Goals as goal

pub returns-clause-tied : goal.returns-clause-tied
returns-clause-tied g c =
    let from : c.args.from < length c.args.ins.now.items = subst (λ n. c.args.from < n) (length-map c.args.ins.now.items (λ (e : ReceiverModel). e.ring)) c.requires.receiver in
    let to : c.args.to < length c.args.outs.now.items = subst (λ n. c.args.to < n) (length-map c.args.outs.now.items (λ (e : SenderModel). e.ring)) c.requires.sender in
    let r = map_at_set (λ (e : ReceiverModel). e.received) c.args.ins.now.items c.args.from c.look_beside.new.self [] from in
    let k = map_at_set (λ (e : ReceiverModel). e.left) c.args.ins.now.items c.args.from c.look_beside.new.self [] from in
    let s = map_at_set (λ (e : SenderModel). e.sent) c.args.outs.now.items c.args.to c.look_beside.new.sender [] to in
    rw (r, k, s) c.look_beside.ensures.tied

pub returns-clause-count : goal.returns-clause-count
returns-clause-count g c =
    let from : c.args.from < length c.args.ins.now.items = subst (λ n. c.args.from < n) (length-map c.args.ins.now.items (λ (e : ReceiverModel). e.ring)) c.requires.receiver in
    let k = map_at_set (λ (e : ReceiverModel). e.left) c.args.ins.now.items c.args.from c.look_beside.new.self [] from in
    rw k c.look_beside.ensures.count
