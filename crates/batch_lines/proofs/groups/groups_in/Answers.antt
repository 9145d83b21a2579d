use Rattle.std.proofs.Common.{◌≡◌, ◌==◌, ◌∷◌, [], ◌++◌, ℕ, List, Some, map, take, length, ap, refl, sym, subst, ◌∙◌, arith, rules}
use Rattle.std.specs.Prelude.{slice_get}
use Rattle.std.specs.Borrow.{Bor}
use Rattle.std.specs.List.{slice_split}
use Rattle.std.proofs.lemmas.List.{map-append}
use Rattle.std.proofs.lemmas.Option.{slice_get-get_or}
use Rattle.std.proofs.lemmas.Iterator.Splits.{YieldsList-from_str_split}
use Rattle.std.proofs.lemmas.Iterator.Consumers.{YieldsList-end, YieldsList-turn, YieldsList-so_far}
use Rattle.pattern_index.specs.Groups.{GroupModel}
use Rattle.batch_lines.specs.Texts.{AreGroupsOf}
use Rattle.batch_lines.proofs.TextLemmas.{groups_more}
use Rattle.batch_lines.proofs.groups.groups_in.Goals as goal

pub returns-in-Err-clause-fault : goal.returns-in-Err-clause-fault
returns-in-Err-clause-fault c =
    let pieces = YieldsList-from_str_split 47 c.args.text.now (omega arith) (search rules) (search rules) (search rules) in
    let turn = YieldsList-turn pieces c.groups.yielded _ c.groups.yielded_by _ _ c.in-Some.piece c.in-Some.is c.next.ensures.steps in
    let seen = YieldsList-so_far pieces c.groups.yielded _ c.groups.yielded_by in
    let all = slice_split (λ byte. byte == 47) c.args.text.now in
    let at : slice_get all (length c.groups.yielded) ≡ Some c.in-Some.piece.now = slice_get-get_or all (length c.groups.yielded) c.in-Some.piece.now turn.0 ∙ ap Some (sym turn.1) in
    let before : AreGroupsOf c.args.shape (take (length c.groups.yielded) all) c.groups.groups.items = subst (λ (texts : List (List ℕ)). AreGroupsOf c.args.shape texts c.groups.groups.items) seen c.groups.invariant.2 in
    rw (sym c.eq.ensures ∙ c.if-eq.false) (length c.groups.yielded, c.in-Some.piece.now, c.groups.groups.items, at, before, (c.in-Err.ensures.fault c.in-Err.fault).0 refl)

pub returns-in-Err-push-clause-fault : goal.returns-in-Err-push-clause-fault
returns-in-Err-push-clause-fault c =
    let pieces = YieldsList-from_str_split 47 c.args.text.now (omega arith) (search rules) (search rules) (search rules) in
    let turn = YieldsList-turn pieces c.groups.yielded _ c.groups.yielded_by _ _ c.in-Some.piece c.in-Some.is c.next.ensures.steps in
    let seen = YieldsList-so_far pieces c.groups.yielded _ c.groups.yielded_by in
    let all = slice_split (λ byte. byte == 47) c.args.text.now in
    let at : slice_get all (length c.groups.yielded) ≡ Some c.in-Some.piece.now = slice_get-get_or all (length c.groups.yielded) c.in-Some.piece.now turn.0 ∙ ap Some (sym turn.1) in
    let before : AreGroupsOf c.args.shape (take (length c.groups.yielded) all) c.groups.groups.items = subst (λ (texts : List (List ℕ)). AreGroupsOf c.args.shape texts c.groups.groups.items) seen c.groups.invariant.2 in
    rw (sym c.eq.ensures ∙ c.if-eq.false) (length c.groups.yielded, c.in-Some.piece.now, c.groups.groups.items, c.in-Ok.group, at, before, c.in-Ok.ensures.group)

pub groups-preserved : goal.groups-preserved
groups-preserved c =
    let items : c.push.new.items.items ≡ c.groups.groups.items ++ c.in-Ok.group ∷ [] = c.in_default.ensures.items in
    let texts = map-append (λ (piece : Bor (List ℕ)). piece.now) c.groups.yielded (c.in-Some.piece ∷ []) in
    let more = groups_more c.args.shape (map (λ (piece : Bor (List ℕ)). piece.now) c.groups.yielded) c.groups.groups.items c.in-Some.piece.now c.in-Ok.group c.groups.invariant.2 c.in-Ok.ensures.group in (
      tt,
      tt,
      subst (λ (gs : List GroupModel). AreGroupsOf c.args.shape (map (λ (piece : Bor (List ℕ)). piece.now) (c.groups.yielded ++ c.in-Some.piece ∷ [])) gs) (sym items)
          (subst (λ (ts : List (List ℕ)). AreGroupsOf c.args.shape ts (c.groups.groups.items ++ c.in-Ok.group ∷ [])) (sym texts) more),
    )

pub returns-clause-groups : goal.returns-clause-groups
returns-clause-groups c =
    let pieces = YieldsList-from_str_split 47 c.args.text.now (omega arith) (search rules) (search rules) (search rules) in
    let all = YieldsList-end pieces c.groups.yielded _ c.groups.yielded_by _ _ c.in-None.is c.next.ensures.steps in
    rw (sym c.eq.ensures ∙ c.if-eq.false) (subst (λ (texts : List (List ℕ)). AreGroupsOf c.args.shape texts c.groups.groups.items) all.0 c.groups.invariant.2)
