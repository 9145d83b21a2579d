use Rattle.std.proofs.Common.{rules, arith, ◌≡◌, ◌∷◌, [], List, subst, sym, refl}
use Rattle.std.specs.Vec.Iter.{into_iter_items}
use Rattle.thread_parts.specs.Parts.{SealedModel}
use Rattle.thread_runs.proofs.TakenLemmas.{nothing, AreTaken, none_taken, taken_same, taken_more, all_taken}
use Rattle.thread_runs.proofs.apart.take_apart.Goals as goal

pub parts-init : goal.parts-init
parts-init g c =
    let faces = c.args.sealed.items in
    let rest : into_iter_items c.into_iter-one-iterator.result ≡ faces = search rules in
    let taken = none_taken g.S.Spread.owner_of g.C.Tokens.workers faces in
    record {
      next = tt;
      ends = tt;
      count = search rules;
      outs = search rules;
      ins = search rules;
      workers_room = search rules;
      outs_room = search rules;
      ins_room = search rules;
      taken = taken_same g.S.Spread.owner_of g.C.Tokens.workers faces faces (into_iter_items c.into_iter-one-iterator.result) [] c.in_ok-workers.workers.items [] c.in_ok-outs.outs.items [] c.in_ok-ins.ins.items
          (sym rest) (sym c.in_ok-workers.ensures.items) (sym c.in_ok-outs.ensures.items) (sym c.in_ok-ins.ensures.items) taken;
    }

pub parts-preserved : goal.parts-preserved
parts-preserved g c =
    let owner_of = g.S.Spread.owner_of in
    let n = g.C.Tokens.workers in
    let faces = c.args.sealed.items in
    let inv = c.parts.invariant in
    let one = c.in-Some.one in
    let it = c.open-worker.result in
    let next = into_iter_items c.next.new.self in
    let rest : into_iter_items c.parts.one-iterator ≡ one ∷ next = search rules in
    let here = subst (λ (fs : List (SealedModel g.row.S.Denot)). AreTaken owner_of n faces fs c.parts.workers.items c.parts.outs.items c.parts.ins.items) rest inv.taken in
    let more = taken_more owner_of n faces next c.parts.workers.items c.parts.outs.items c.parts.ins.items one here it c.open-worker.ensures.holds c.open-worker.ensures.face in
    record {
      next = tt;
      ends = tt;
      count = search rules;
      outs = search rules;
      ins = search rules;
      workers_room = search rules;
      outs_room = search rules;
      ins_room = search rules;
      taken = taken_same owner_of n faces next next _ c.push_reserved.new.self.items _ c.push_reserved-in-parts.new.self.items _ c.push_reserved-in-parts-2.new.self.items
          refl (sym c.push_reserved.ensures.items) (sym c.push_reserved-in-parts.ensures.items) (sym c.push_reserved-in-parts-2.ensures.items) more;
    }

pub returns : goal.returns
returns g c = λ p owners joint.
    let owner_of = g.S.Spread.owner_of in
    let n = g.C.Tokens.workers in
    let faces = c.args.sealed.items in
    let l = c.in-None.ensures.steps.0 in
    let none : into_iter_items c.parts.one-iterator ≡ [] = nothing (into_iter_items c.parts.one-iterator) (omega (arith, l, c.parts.one-iterator.rest.ok.0)) in
    all_taken owner_of n faces (record { workers = c.parts.workers; outs = c.parts.outs; ins = c.parts.ins })
    (subst (λ (fs : List (SealedModel g.row.S.Denot)). AreTaken owner_of n faces fs c.parts.workers.items c.parts.outs.items c.parts.ins.items) none c.parts.invariant.taken) p owners joint
