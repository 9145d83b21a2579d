use Rattle.std.proofs.Common.{◌≡◌, Err, refl, subst, sym, ap, List, arith}
use Rattle.std.specs.Prelude.{All}
use Rattle.std.proofs.lemmas.Bool.{false≢true}
use Rattle.pattern_index.specs.Groups.{GroupModel, IsGroup}
use Rattle.pattern_index.specs.Partitions.{AreApart, IsPartitionFault}
use Rattle.pattern_index.specs.declared.faults.PartitionFault.TheVariants.{SharedTile}
use Rattle.pattern_index.proofs.SplitLemmas.{not_so, of_items}
use Rattle.pattern_index.proofs.FaultLemmas.{no_split_fault, one_split_fault}
use Rattle.pattern_index.proofs.partition.Partition.new.Goals as goal

pub returns-then-not-are_apart-clause-accepted : goal.returns-then-not-are_apart-clause-accepted
returns-then-not-are_apart-clause-accepted c = (
  (λ e. absurd (false≢true e)),
  (λ h. absurd (not_so c.are_apart.result c.if-not-are_apart.true (of_items c.deref.result.now c.args.groups.items c.are_apart.result c.deref.ensures.value c.are_apart.ensures.apart) h.1)),
)

pub returns-then-not-are_apart-clause-fault : goal.returns-then-not-are_apart-clause-fault
returns-then-not-are_apart-clause-fault c =
    let size = c.args.groups.ok in
    let len = c.len.ensures in
    let here : IsPartitionFault c.args.groups.items SharedTile =
    (omega arith, not_so c.are_apart.result c.if-not-are_apart.true (of_items c.deref.result.now c.args.groups.items c.are_apart.result c.deref.ensures.value c.are_apart.ensures.apart))
    in
    λ fault. (
      (λ e. let same : SharedTile ≡ fault = cc in subst (IsPartitionFault c.args.groups.items) same here),
      (λ first. ap Err (sym (one_split_fault c.args.groups.items SharedTile fault here first))),
    )

pub invariant_of-result : goal.invariant_of-result
invariant_of-result c =
    let size = c.args.groups.ok in
    let len = c.len.ensures in
    record {
      groups = subst (λ (gs : List GroupModel). All (λ (g : GroupModel). IsGroup g) gs) c.deref.ensures.value (c.are_apart.ensures.groups c.if-not-are_apart.false);
      of_grid = c.requires;
      few = omega arith;
      apart = subst (λ (gs : List GroupModel). AreApart gs) c.deref.ensures.value (c.are_apart.ensures.apart.0 c.if-not-are_apart.false);
    }

pub returns-clause-accepted : goal.returns-clause-accepted
returns-clause-accepted c = let split = invariant_of-result c in ((λ e. (split.few, split.apart)), (λ h. refl))

pub returns-clause-fault : goal.returns-clause-fault
returns-clause-fault c = let split = invariant_of-result c in λ fault. ((λ e. absurd (cc)), (λ first. absurd (no_split_fault c.args.groups.items split.few split.apart fault first)))
