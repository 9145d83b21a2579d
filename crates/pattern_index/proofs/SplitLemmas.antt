-- Groups, no two with a tile in common.
use Rattle.std.proofs.Common.{◌≡◌, ◌⊎◌, ℕ, ◌+◌, ◌<◌, Bool, true, false, List, length, take, get_or, refl, sym, ◌∙◌, subst, ⊎_elim, arith}
use Rattle.std.specs.Prelude.{◌↔◌, All, Contains, IsTrue, slice_index_or}
use Rattle.std.proofs.lemmas.Bool.{cases_order, false≢true}
use Rattle.std.proofs.lemmas.List.{take_more, get_or-take, get_or_default, length-take-le}
use Rattle.std.proofs.lemmas.List.Quantifiers.{all_pairs_push}
use Rattle.pattern_index.specs.Groups.{GroupModel}
use Rattle.pattern_index.specs.Partitions.{AreApart, ShareNoTile}

pub test_failed : {P : Type 0} → (P → ⊥) → IsTrue false ↔ P
test_failed none = ((λ h. absurd (false≢true h)), (λ p. absurd (none p)))

pub test_passed : {P : Type 0} → P → IsTrue true ↔ P
test_passed p = ((λ h. p), (λ h. refl))

-- a test that answered false
pub not_so : {P : Type 0} (b : Bool) → b ≡ false → IsTrue b ↔ P → P → ⊥
not_so b e test p = let t : b ≡ true = test.1 p in false≢true (sym e ∙ t)

pub apart_lists : (xs ys : List ℕ) → ((k : ℕ) → k < length xs → Contains ys (get_or xs k 0) → ⊥) → ShareNoTile xs ys
apart_lists xs ys none tile in_xs in_ys = none in_xs.0 in_xs.1 (subst (λ t. Contains ys t) (sym (get_or_default xs in_xs.0 0 tile in_xs.1 ∙ in_xs.2)) in_ys)

-- what a test says of a group that is known by its tiles
pub of_group : (xs : List ℕ) (g : GroupModel) (tiles : List ℕ) (b : Bool) → xs ≡ g.tiles → IsTrue b ↔ ShareNoTile xs tiles → IsTrue b ↔ ShareNoTile g.tiles tiles
of_group xs g tiles b e test = subst (λ ts. IsTrue b ↔ ShareNoTile ts tiles) e test

pub of_items : (xs groups : List GroupModel) (b : Bool) → xs ≡ groups → IsTrue b ↔ AreApart xs → IsTrue b ↔ AreApart groups
of_items xs groups b e test = subst (λ (gs : List GroupModel). IsTrue b ↔ AreApart gs) e test

pub of_tiles : (groups : List GroupModel) (i : ℕ) (xs : List ℕ) (g : GroupModel) (b : Bool) → xs ≡ g.tiles → IsTrue b ↔ All (λ h. ShareNoTile h.tiles xs) (take i groups) → IsTrue b ↔ All (λ h. ShareNoTile h.tiles g.tiles) (take i groups)
of_tiles groups i xs g b e test = subst (λ (ts : List ℕ). IsTrue b ↔ All (λ h. ShareNoTile h.tiles ts) (take i groups)) e test

pub apart_more : (groups : List GroupModel) (i : ℕ) (g : GroupModel) → i < length groups → g ≡ get_or groups i g → All (λ h. ShareNoTile h.tiles g.tiles) (take i groups) → AreApart (take i groups) → AreApart (take (i + 1) groups)
apart_more groups i g i_in is all apart =
    subst (λ (gs : List GroupModel). AreApart gs) (sym (take_more groups i g i_in))
    (all_pairs_push (λ (x y : GroupModel). ShareNoTile x.tiles y.tiles) (take i groups) (get_or groups i g) apart
    (λ k d k_in. subst (λ (y : GroupModel). ShareNoTile (get_or (take i groups) k d).tiles y.tiles) is (all k d k_in)))

pub apart_before : (groups : List GroupModel) (i : ℕ) (g : GroupModel) → i < length groups → g ≡ get_or groups i g → AreApart groups → All (λ h. ShareNoTile h.tiles g.tiles) (take i groups)
apart_before groups i g i_in is apart k d k_in =
    let front = length-take-le i groups (omega arith) in
    let low : k < i = omega arith in
    let same : get_or (take i groups) k d ≡ get_or groups k d = get_or-take i groups k d low in
    let other : get_or groups i d ≡ g = get_or_default groups i d g i_in ∙ sym is in
    subst (λ (x : GroupModel). ShareNoTile x.tiles g.tiles) (sym same) (subst (λ (y : GroupModel). ShareNoTile (get_or groups k d).tiles y.tiles) other (apart k i d low i_in))

-- where groups are apart, each tile is in one of them at most
pub one_group : (groups : List GroupModel) → AreApart groups → (tile i j : ℕ) (d : GroupModel) → i < length groups → j < length groups → Contains (slice_index_or groups i d).tiles tile → Contains (slice_index_or groups j d).tiles tile → i ≡ j
one_group groups apart tile i j d i_in j_in first second =
    ⊎_elim (λ (e : i ≡ j). e)
    (λ (h : (i < j) ⊎ (j < i)). ⊎_elim (λ (lt : i < j). absurd (apart i j d lt j_in tile first second)) (λ (lt : j < i). absurd (apart j i d lt i_in tile second first)) h)
    (cases_order i j)

-- and the other way round
pub apart_groups : (groups : List GroupModel) → ((tile i j : ℕ) (d : GroupModel) → i < length groups → j < length groups → Contains (slice_index_or groups i d).tiles tile → Contains (slice_index_or groups j d).tiles tile → i ≡ j) → AreApart groups
apart_groups groups one i j d lt j_in tile first second = let same = one tile i j d (omega arith) j_in first second in omega arith
