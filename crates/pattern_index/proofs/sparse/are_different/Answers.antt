use Rattle.std.proofs.Common.{◌≢◌, get_or, take, subst, sym, arith}
use Rattle.std.specs.Prelude.{AllPairs, Contains, true}
use Rattle.std.proofs.lemmas.Bool.{false≢true}
use Rattle.std.proofs.lemmas.Bool.Decides.{not_from_Decides}
use Rattle.std.proofs.lemmas.List.{take_all, take_more}
use Rattle.std.proofs.lemmas.List.Elements.{Contains-get_or}
use Rattle.std.proofs.lemmas.List.Quantifiers.{all_pairs_push}
use Rattle.pattern_index.proofs.GroupLemmas.{contains_is}
use Rattle.pattern_index.proofs.SparseLemmas.{repeated}
use Rattle.pattern_index.proofs.sparse.are_different.Goals as goal

pub returns-then-contains : goal.returns-then-contains
returns-then-contains c = (
  λ said. absurd (false≢true said),
  λ differ. absurd (repeated c.args.cells.now c.places.place c.places-test.true ((contains_is (take c.places.place c.args.cells.now) (get_or c.args.cells.now c.places.place 0) c.contains.result c.contains.ensures.cases).0 c.if-contains.true) differ),
)

pub places-preserved : goal.places-preserved
places-preserved c =
    subst (λ xs. AllPairs (λ x y. x ≢ y) xs) (sym (take_more c.args.cells.now c.places.place 0 c.places-test.true))
    (all_pairs_push (λ x y. x ≢ y) (take c.places.place c.args.cells.now) (get_or c.args.cells.now c.places.place 0) c.places.invariant
    (λ k d k_in same. not_from_Decides c.contains.result (contains_is (take c.places.place c.args.cells.now) (get_or c.args.cells.now c.places.place 0) c.contains.result c.contains.ensures.cases) c.if-contains.false (subst (λ t. Contains (take c.places.place c.args.cells.now) t) same (Contains-get_or (take c.places.place c.args.cells.now) k d k_in))))

pub returns : goal.returns
returns c = (λ said. subst (λ xs. AllPairs (λ x y. x ≢ y) xs) (take_all c.places.place c.args.cells.now (omega arith)) c.places.invariant, λ differ. λ i. true)
