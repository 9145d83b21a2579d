-- The text of groups, with the laws of its reader.
use Rattle.std.proofs.Common.{◌≡◌, ◌⊎◌, inl, inr, ⊎_elim, ℕ, zero, suc, ◌+◌, ◌<◌, ◌≤◌, Bool, true, false, cond, eqb, ltb, leb, List, [], ◌∷◌, ◌++◌, length, get_or, Some, None, Err, refl, sym, ap, subst, ◌∙◌, append-nil, append_assoc, length-append, take, replicate, length-take, arith}
use Rattle.std.specs.Prelude.{All, AllPairs, Contains, ◌&&◌, not}
use Rattle.std.specs.Bool.{Decides}
use Rattle.std.specs.List.{flat_map, list_all, list_any}
use Rattle.std.specs.List.Sorted.{IsPermutation, IsStrictlyIncreasing}
use Rattle.std.specs.Str.{bytes_eq}
use Rattle.std.proofs.lemmas.Bool.{leb-true, le-leb, false≢true}
use Rattle.std.proofs.lemmas.Bool.Decides.{Decides-by_and, Decides-by_or, Decides-and, Decides-not, Decides-eqb, Decides-ltb, Decides-like}
use Rattle.std.proofs.lemmas.List.{get_or-append-add, get_or_append_left, get_or_default}
use Rattle.std.proofs.lemmas.List.Concat.{flat_map-cons}
use Rattle.std.proofs.lemmas.List.Elements.{All-nil, All-cons, All-head, All-tail, All-contains, Decides-contains}
use Rattle.std.proofs.lemmas.List.Kept.{AllPairs-cons, AllPairs-from_increasing}
use Rattle.std.proofs.lemmas.List.Quantifiers.{all_pairs_push}
use Rattle.std.proofs.lemmas.List.Sorted.{Contains-permutation, IsPermutation-sym}
use Rattle.std.proofs.lemmas.Slice.Eq.{bytes_eq-Decides}
use Rattle.board.specs.Shapes.{ShapeModel, IsShape, cell_count}
use Rattle.pattern_index.specs.declared.group.TheConstants.{MAX_SIZE}
use Rattle.pattern_index.specs.Groups.{GroupModel, IsTile, IsGroup, size_of}
use Rattle.pattern_index.specs.Partitions.{PartitionModel, AreApart, ShareNoTile}
use Rattle.pattern_index.proofs.GroupLemmas.{groups_small}
use Rattle.certificate.specs.Certificates.{IsSplitOf}
use Rattle.certificate.specs.Fields.{IsNextGroup, SpellsByte, SpellsTiles, SpellsGroup, SpellsGroups, SpellsAllGroups}
use Rattle.certificate.specs.declared.faults.FormatFault.{FormatFault}
use Rattle.certificate.specs.declared.faults.FormatFault.TheVariants.{OutOfRange}
use Rattle.certificate.specs.Spellings.{group_text}
use Rattle.certificate.specs.Readings.{◌>>=◌, next_reading, IsCutOff, give, byte_within, byte_in, are_tiles, rises, shares_none, group_in, tiles, group, groups, all_groups}
use Rattle.certificate.specs.Laws.{AreBytes}
use Rattle.certificate.proofs.ReaderLemmas.{Law, Law-iff, Both, Law-seq, Known, Law-give, Law-field, field_from, field_short, fine, faulty, one_fails, AreBytes-rest}
use Rattle.certificate.proofs.TextLemmas.{byte_law}
use Rattle.certificate.proofs.CostLemmas.{not_true}

-- ---- the test of a group is what a group is

tiles_Decide : (grid : ShapeModel) (text : List ℕ) → Decides (are_tiles grid text) (All (λ t. IsTile grid t) text)
tiles_Decide grid text =
    Decides-by_and (λ t. ltb 0 t && ltb t (cell_count grid)) (λ t. IsTile grid t) (list_all (λ t. ltb 0 t && ltb t (cell_count grid))) (λ t. Decides-and _ _ (Decides-ltb 0 t) (Decides-ltb t (cell_count grid))) refl (λ _ _. refl) text

head_below : (x : ℕ) (xs : List ℕ) → AllPairs (λ x y. x < y) (x ∷ xs) → All (λ y. x < y) xs
head_below x xs all k d below = all 0 (suc k) d (omega arith) (omega arith)

others_rise : (x : ℕ) (xs : List ℕ) → AllPairs (λ x y. x < y) (x ∷ xs) → AllPairs (λ x y. x < y) xs
others_rise x xs all i j d lt below = all (suc i) (suc j) d (omega arith) (omega arith)

rises_Decide : (xs : List ℕ) → Decides (rises xs) (AllPairs (λ x y. x < y) xs)
rises_Decide [] = (λ e i j d lt below. absurd (omega (arith, below)), λ all. refl)
rises_Decide (x ∷ xs) = Decides-like _ (λ p. AllPairs-cons (λ x y. x < y) x xs p.0 p.1) (λ all. (head_below x xs all, others_rise x xs all))
    (Decides-and _ _ (Decides-by_and (λ y. ltb x y) (λ y. x < y) (list_all (λ y. ltb x y)) (λ y. Decides-ltb x y) refl (λ _ _. refl) xs) (rises_Decide xs))

any_Decides : (xs : List ℕ) (y : ℕ) → Decides (list_any (λ x. eqb x y) xs) (Contains xs y)
any_Decides xs y = Decides-contains xs y _ (Decides-by_or (λ x. eqb x y) (λ x. x ≡ y) (list_any (λ x. eqb x y)) (λ x. Decides-eqb x y) refl (λ _ _. refl) xs)

none_shared : (xs ys : List ℕ) → All (λ y. Contains xs y → ⊥) ys → ShareNoTile xs ys
none_shared xs ys all tile in_xs in_ys = All-contains (λ y. Contains xs y → ⊥) ys tile all in_ys in_xs

none_contained : (xs ys : List ℕ) → ShareNoTile xs ys → All (λ y. Contains xs y → ⊥) ys
none_contained xs ys none k d k_in in_xs = none (get_or ys k d) in_xs (k, k_in, get_or_default ys k (get_or ys k d) d k_in)

shares_Decide : (xs ys : List ℕ) → Decides (shares_none xs ys) (ShareNoTile xs ys)
shares_Decide xs ys = Decides-like _ (none_shared xs ys) (none_contained xs ys)
    (Decides-by_and (λ y. not (list_any (λ x. eqb x y) xs)) (λ y. Contains xs y → ⊥) (list_all (λ y. not (list_any (λ x. eqb x y) xs))) (λ y. Decides-not _ (any_Decides xs y)) refl (λ _ _. refl) ys)

all_apart_Decide : (before : List GroupModel) (text : List ℕ) → Decides (list_all (λ h. shares_none h.tiles text) before) (All (λ h. ShareNoTile h.tiles text) before)
all_apart_Decide before text = Decides-by_and (λ h. shares_none h.tiles text) (λ h. ShareNoTile h.tiles text) (list_all (λ h. shares_none h.tiles text)) (λ h. shares_Decide h.tiles text) refl (λ _ _. refl) before

small_Decides : (g : GroupModel) → Decides (leb (size_of g) MAX_SIZE) (size_of g ≤ MAX_SIZE)
small_Decides g = (λ e. leb-true _ _ e, λ h. le-leb _ _ h)

abbrev at : ShapeModel → List ℕ → GroupModel
at grid text = record { grid = grid; tiles = text }

abbrev tests : ShapeModel → List GroupModel → List ℕ → Bool
tests grid before text = (are_tiles grid text && rises text) && (leb (size_of (at grid text)) MAX_SIZE && list_all (λ h. shares_none h.tiles text) before)

abbrev Passes : ShapeModel → List GroupModel → List ℕ → Type 0
Passes grid before text = (All (λ t. IsTile grid t) text × AllPairs (λ x y. x < y) text) × ((size_of (at grid text) ≤ MAX_SIZE) × All (λ h. ShareNoTile h.tiles text) before)

passed_is : (grid : ShapeModel) (before : List GroupModel) (text : List ℕ) → IsShape grid → 0 < length text → Passes grid before text → IsNextGroup grid before (at grid text)
passed_is grid before text sides some p = record {
  group = record {
    sides = sides;
    group = record { tiles = p.0.0; different = λ i j d lt below same. let less = p.0.1 i j d lt below in absurd (omega (arith, less, same)) };
    rising = λ k below. p.0.1 k (k + 1) 0 (omega arith) below;
    some = some;
    small = p.1.0;
  };
  sides = refl;
  apart = p.1.1;
}

is_passed : (grid : ShapeModel) (before : List GroupModel) (text : List ℕ) → IsNextGroup grid before (at grid text) → Passes grid before text
is_passed grid before text n = ((n.group.group.tiles, AllPairs-from_increasing text n.group.rising), (n.group.small, n.apart))

tests_Decide : (grid : ShapeModel) (before : List GroupModel) (text : List ℕ) → IsShape grid → 0 < length text → Decides (tests grid before text) (IsNextGroup grid before (at grid text))
tests_Decide grid before text sides some = Decides-like _ (passed_is grid before text sides some) (is_passed grid before text)
    (Decides-and _ _ (Decides-and _ _ (tiles_Decide grid text) (rises_Decide text)) (Decides-and _ _ (small_Decides (at grid text)) (all_apart_Decide before text)))

some_is : (g h : GroupModel) → Some g ≡ Some h → g ≡ h
some_is g h e = cc

-- what is no group has no value
pub no_group : (grid : ShapeModel) (before : List GroupModel) (text : List ℕ) → IsShape grid → 0 < length text → ¬ IsNextGroup grid before (record { grid = grid; tiles = text }) → group_in grid before text ≡ None
unfolding group_in
no_group grid before text sides some not_one =
    let fails : tests grid before text ≡ false = not_true (tests grid before text) (λ e. not_one ((tests_Decide grid before text sides some).0 e)) in
    rw fails refl

-- a group has its value
group_back : (grid : ShapeModel) (before : List GroupModel) (g : GroupModel) → IsNextGroup grid before g → group_in grid before g.tiles ≡ Some g
unfolding group_in
group_back grid before g next =
    let same : at grid g.tiles ≡ g = λ i. record { grid = sym next.sides i; tiles = g.tiles } in
    let is : IsNextGroup grid before (at grid g.tiles) = subst (λ (h : GroupModel). IsNextGroup grid before h) (sym same) next in
    let passes : tests grid before g.tiles ≡ true = (tests_Decide grid before g.tiles is.group.sides is.group.some).1 is in
    rw passes (ap (λ (h : GroupModel). Some h) same)

-- what has a value is a group
group_found : (grid : ShapeModel) (before : List GroupModel) (text : List ℕ) (g : GroupModel) → IsShape grid → 0 < length text → group_in grid before text ≡ Some g → IsNextGroup grid before g × (g.tiles ≡ text)
unfolding group_in
group_found grid before text g sides some found = found_by (tests grid before text) refl found
  where
    found_by : (r : Bool) → tests grid before text ≡ r → cond r (Some (at grid text)) None ≡ Some g → IsNextGroup grid before g × (g.tiles ≡ text)
    found_by true is e =
        let same : at grid text ≡ g = some_is (at grid text) g e in
        subst (λ (h : GroupModel). IsNextGroup grid before h × (h.tiles ≡ text)) same ((tests_Decide grid before text sides some).0 is, refl)
    found_by false is e = absurd cc

-- room for the tiles of a group
pub tiles_room : (n : ℕ) → n ≤ 24 → length {A = ℕ} (take n (replicate 24 0)) ≡ n
tiles_room n few = omega (arith, length-take {A = ℕ} n (replicate 24 0))

-- ---- one group

tiles_there : (grid : ShapeModel) (before : List GroupModel) (n : ℕ) (g : GroupModel) (text : List ℕ) → SpellsTiles grid before n g text → (length text ≡ n) × (group_in grid before text ≡ Some g)
tiles_there grid before n g text t = (ap (λ (l : List ℕ). length l) t.is ∙ t.count, ap (group_in grid before) t.is ∙ group_back grid before g t.next)

tiles_back : (grid : ShapeModel) (before : List GroupModel) (n : ℕ) → IsShape grid → 1 ≤ n → (g : GroupModel) (text : List ℕ) → AreBytes text → length text ≡ n → group_in grid before text ≡ Some g → SpellsTiles grid before n g text
tiles_back grid before n sides some g text all len e =
    let p = group_found grid before text g sides (omega (arith, some, len)) e in
    record { next = p.0; count = ap (λ (l : List ℕ). length l) p.1 ∙ len; is = sym p.1 }

pub tiles_law : (grid : ShapeModel) (before : List GroupModel) (n : ℕ) → IsShape grid → 1 ≤ n → Law (tiles grid before n) (SpellsTiles grid before n)
tiles_law grid before n sides some = Law-field OutOfRange n (group_in grid before) (SpellsTiles grid before n) (tiles_there grid before n) (tiles_back grid before n sides some)

pub group_there : (grid : ShapeModel) (before : List GroupModel) (g : GroupModel) (text : List ℕ) → Both (SpellsByte 1 24) (λ n. SpellsTiles grid before n) g text → SpellsGroup grid before g text
group_there grid before g text (n, s, t, b, p, e) = record {
  next = p.next;
  is = e ∙ (λ i. b.is i ++ p.is i) ∙ ap (λ (m : ℕ). m ∷ g.tiles) (sym p.count);
}

group_parts : (grid : ShapeModel) (before : List GroupModel) (g : GroupModel) (text : List ℕ) → SpellsGroup grid before g text → Both (SpellsByte 1 24) (λ n. SpellsTiles grid before n) g text
group_parts grid before g text t =
    let n = length g.tiles in
    let few = groups_small g t.next.group in
    let some = t.next.group.some in
    let b : SpellsByte 1 24 n (n ∷ []) = record { above = omega arith; below = omega (arith, few.0); is = refl } in
    (n, n ∷ [], g.tiles, b, record { next = t.next; count = refl; is = refl }, t.is)

pub group_law : (grid : ShapeModel) (before : List GroupModel) → IsShape grid → Law (group grid before) (SpellsGroup grid before)
unfolding group
group_law grid before sides = Law-iff _ (Both (SpellsByte 1 24) (λ n. SpellsTiles grid before n)) (SpellsGroup grid before) (group_there grid before) (group_parts grid before)
    (Law-seq (byte_within 1 24) _ (SpellsByte 1 24) _ (byte_law 1 24) (λ n _ b. tiles_law grid before n sides b.above))

-- ---- several groups

-- the groups before one share no tile with it
apart_middle : (before : List GroupModel) (g : GroupModel) (others : List GroupModel) → AreApart (before ++ g ∷ others) → All (λ h. ShareNoTile h.tiles g.tiles) before
apart_middle before g others apart k d k_in =
    let whole = before ++ g ∷ others in
    let long : length whole ≡ length before + suc (length others) = length-append before (g ∷ others) in
    let low : get_or whole k d ≡ get_or before k d = get_or_append_left before (g ∷ others) d k k_in in
    let high : get_or whole (length before + 0) d ≡ g = get_or-append-add before (g ∷ others) 0 d in
    let both : ShareNoTile (get_or whole k d).tiles (get_or whole (length before + 0) d).tiles = apart k (length before + 0) d (omega (arith, k_in)) (omega (arith, long)) in
    subst (λ (x : GroupModel). ShareNoTile x.tiles g.tiles) low (subst (λ (y : GroupModel). ShareNoTile (get_or whole k d).tiles y.tiles) high both)

-- a group that shares no tile with those before it is put behind them
pub apart_pushed : (before : List GroupModel) (g : GroupModel) → AreApart before → All (λ h. ShareNoTile h.tiles g.tiles) before → AreApart (before ++ g ∷ [])
apart_pushed before g apart all = all_pairs_push (λ (x y : GroupModel). ShareNoTile x.tiles y.tiles) before g apart (λ k d k_in. all k d k_in)

abbrev GroupsParts : ShapeModel → List GroupModel → ℕ → List GroupModel → List ℕ → Type 0
GroupsParts grid before zero = Known []
GroupsParts grid before (suc n) = Both (SpellsGroup grid before) (λ first. Both (SpellsGroups grid (before ++ first ∷ []) n) (λ others. Known (first ∷ others)))

no_groups : (grid : ShapeModel) (before : List GroupModel) (text : List ℕ) → AreApart before → text ≡ [] → SpellsGroups grid before 0 [] text
no_groups grid before text apart nil = record {
  count = refl;
  groups = All-nil (λ (g : GroupModel). IsGroup g);
  sides = All-nil (λ (g : GroupModel). g.grid ≡ grid);
  apart = subst (λ (gs : List GroupModel). AreApart gs) (sym (append-nil before)) apart;
  is = nil;
}

groups_there : (grid : ShapeModel) (before : List GroupModel) (n : ℕ) → AreApart before → (gs : List GroupModel) (text : List ℕ) → GroupsParts grid before n gs text → SpellsGroups grid before n gs text
groups_there grid before zero apart gs text p = subst (λ (l : List GroupModel). SpellsGroups grid before 0 l text) (sym p.0) (no_groups grid before text apart p.1)
groups_there grid before (suc n) apart gs text (g, s0, t0, first, (others, s1, t1, rest, (known, nil), e1), e0) =
    let made : SpellsGroups grid before (suc n) (g ∷ others) text = record {
      count = ap suc rest.count;
      groups = All-cons (λ (h : GroupModel). IsGroup h) g others first.next.group rest.groups;
      sides = All-cons (λ (h : GroupModel). h.grid ≡ grid) g others first.next.sides rest.sides;
      apart = subst (λ (gs : List GroupModel). AreApart gs) (append_assoc before (g ∷ []) others) rest.apart;
      is = e0 ∙ (λ i. first.is i ++ e1 i) ∙ (λ i. group_text g ++ (rest.is i ++ nil i)) ∙ ap (λ (l : List ℕ). group_text g ++ l) (append-nil (flat_map group_text others)) ∙ sym (flat_map-cons group_text g others);
    } in
    subst (λ (l : List GroupModel). SpellsGroups grid before (suc n) l text) (sym known) made

-- a list that begins with a group
pub first_group : (grid : ShapeModel) (before : List GroupModel) (g : GroupModel) (gs : List GroupModel) → All (λ h. IsGroup h) (g ∷ gs) → All (λ h. h.grid ≡ grid) (g ∷ gs) → AreApart (before ++ g ∷ gs) → SpellsGroup grid before g (group_text g)
first_group grid before g gs all sides apart = record {
  next = record { group = All-head (λ (h : GroupModel). IsGroup h) g gs all; sides = All-head (λ (h : GroupModel). h.grid ≡ grid) g gs sides; apart = apart_middle before g gs apart };
  is = refl;
}

groups_back : (grid : ShapeModel) (before : List GroupModel) (n : ℕ) (gs : List GroupModel) (text : List ℕ) → SpellsGroups grid before n gs text → GroupsParts grid before n gs text
groups_back grid before zero [] text t = (refl, t.is)
groups_back grid before zero (g ∷ gs) text t = absurd (omega (arith, t.count))
groups_back grid before (suc n) [] text t = absurd (omega (arith, t.count))
groups_back grid before (suc n) (g ∷ gs) text t =
    let rest : SpellsGroups grid (before ++ g ∷ []) n gs (flat_map group_text gs) = record {
      count = omega (arith, t.count);
      groups = All-tail (λ (h : GroupModel). IsGroup h) g gs t.groups;
      sides = All-tail (λ (h : GroupModel). h.grid ≡ grid) g gs t.sides;
      apart = subst (λ (l : List GroupModel). AreApart l) (sym (append_assoc before (g ∷ []) gs)) t.apart;
      is = refl;
    } in
    (g, group_text g, flat_map group_text gs, first_group grid before g gs t.groups t.sides t.apart, (gs, flat_map group_text gs, [], rest, (refl, refl), sym (append-nil (flat_map group_text gs))), t.is ∙ flat_map-cons group_text g gs)

pub groups_law : (grid : ShapeModel) (before : List GroupModel) (n : ℕ) → IsShape grid → AreApart before → Law (groups grid before n) (SpellsGroups grid before n)
unfolding groups
groups_law grid before zero sides apart = Law-iff (give []) (Known []) (SpellsGroups grid before zero) (groups_there grid before zero apart) (groups_back grid before zero) (Law-give [])
groups_law grid before (suc n) sides apart = Law-iff _ (GroupsParts grid before (suc n)) (SpellsGroups grid before (suc n)) (groups_there grid before (suc n) apart) (groups_back grid before (suc n))
    (Law-seq (group grid before) _ (SpellsGroup grid before) _ (group_law grid before sides)
    (λ first _ t. Law-seq (groups grid (before ++ first ∷ []) n) _ (SpellsGroups grid (before ++ first ∷ []) n) _ (groups_law grid (before ++ first ∷ []) n sides (apart_pushed before first apart t.next.apart)) (λ others _ _. Law-give (first ∷ others))))

-- ---- all groups, with their number

pub none_apart : AreApart []
none_apart i j d lt below = absurd (omega (arith, below))

abbrev split_at : ShapeModel → List GroupModel → PartitionModel
split_at grid gs = record { grid = grid; groups = gs }

abbrev AllGroupsParts : ShapeModel → PartitionModel → List ℕ → Type 0
AllGroupsParts grid = Both (SpellsByte 0 24) (λ n. Both (SpellsGroups grid [] n) (λ found. Known (split_at grid found)))

pub no_groups_found : (grid : ShapeModel) → SpellsGroups grid [] 0 [] []
no_groups_found grid = no_groups grid [] [] none_apart refl

-- groups that were found are a partition
pub split_found : (grid : ShapeModel) (n : ℕ) (gs : List GroupModel) (text : List ℕ) → n ≤ 24 → SpellsGroups grid [] n gs text → IsSplitOf grid (record { grid = grid; groups = gs })
split_found grid n gs text few t = record { split = record { groups = t.groups; of_grid = t.sides; few = omega (arith, few, t.count); apart = t.apart }; sides = refl }

pub all_groups_there : (grid : ShapeModel) (found : PartitionModel) (text : List ℕ) → AllGroupsParts grid found text → SpellsAllGroups grid found text
all_groups_there grid found text (n, s0, t0, b, (gs, s1, t1, p, (known, nil), e1), e0) =
    let made : SpellsAllGroups grid (split_at grid gs) text = record {
      split = split_found grid n gs s1 b.below p;
      is = e0 ∙ (λ i. b.is i ++ e1 i) ∙ (λ i. n ∷ (p.is i ++ nil i)) ∙ ap (λ (l : List ℕ). n ∷ l) (append-nil (flat_map group_text gs)) ∙ ap (λ (m : ℕ). m ∷ flat_map group_text gs) (sym p.count);
    } in
    subst (λ (z : PartitionModel). SpellsAllGroups grid z text) (sym known) made

pub all_groups_found : (grid : ShapeModel) (n : ℕ) (gs : List GroupModel) (s t : List ℕ) → SpellsByte 0 24 n s → SpellsGroups grid [] n gs t → SpellsAllGroups grid (record { grid = grid; groups = gs }) (s ++ t)
all_groups_found grid n gs s t b p = all_groups_there grid (split_at grid gs) (s ++ t) (n, s, t, b, (gs, t, [], p, (refl, refl), sym (append-nil t)), refl)

all_groups_back : (grid : ShapeModel) (found : PartitionModel) (text : List ℕ) → SpellsAllGroups grid found text → AllGroupsParts grid found text
all_groups_back grid found text t =
    let gs = found.groups in
    let n = length gs in
    let is = t.split.split in
    let b : SpellsByte 0 24 n (n ∷ []) = record { above = omega arith; below = is.few; is = refl } in
    let p : SpellsGroups grid [] n gs (flat_map group_text gs) = record {
      count = refl;
      groups = is.groups;
      sides = subst (λ (grid : ShapeModel). All (λ (g : GroupModel). g.grid ≡ grid) gs) t.split.sides is.of_grid;
      apart = is.apart;
      is = refl;
    } in
    (n, n ∷ [], flat_map group_text gs, b, (gs, flat_map group_text gs, [], p, ((λ i. record { grid = t.split.sides i; groups = gs }), refl), sym (append-nil (flat_map group_text gs))), t.is)

pub all_groups_law : (grid : ShapeModel) → IsShape grid → Law (all_groups grid) (SpellsAllGroups grid)
unfolding all_groups
all_groups_law grid sides = Law-iff _ (AllGroupsParts grid) (SpellsAllGroups grid) (all_groups_there grid) (all_groups_back grid)
    (Law-seq (byte_within 0 24) _ (SpellsByte 0 24) _ (byte_law 0 24) (λ n _ _. Law-seq (groups grid [] n) _ (SpellsGroups grid [] n) _ (groups_law grid [] n sides none_apart) (λ found _ _. Law-give (split_at grid found))))

-- ---- a group after others

-- a group that is found is of a shape
pub shape_of : (grid : ShapeModel) (before : List GroupModel) (g : GroupModel) → IsNextGroup grid before g → IsShape grid
shape_of grid before g next = subst (λ (s : ShapeModel). IsShape s) next.sides next.group.sides

-- ---- what comes before a fault

-- before a faulty field of a group there is nothing of the group, or the number of its tiles
abbrev pub IsGroupHead : List ℕ → Type 0
IsGroupHead head = (head ≡ []) ⊎ ((size : ℕ) × (0 < size) × (size ≤ 24) × (head ≡ size ∷ []))

group_before : (grid : ShapeModel) (before : List GroupModel) (bytes : List ℕ) → AreBytes bytes → (fault : FormatFault) (from : List ℕ) → group grid before bytes ≡ Err (fault, from) → (head : List ℕ) × IsGroupHead head × (bytes ≡ head ++ from)
unfolding group ◌>>=◌
group_before grid before bytes all fault from e =
    ⊎_elim (λ failed. ([], inl refl, field_from OutOfRange 1 (byte_in 1 24) bytes fault from failed))
    (λ r.
    let p = (byte_law 1 24).takes bytes all r.0.0 r.0.1 r.1 in
    let here : r.0.1 ≡ from = field_from OutOfRange r.0.0 (group_in grid before) r.0.1 fault from r.2 in
    (r.0.0 ∷ [], inr (r.0.0, omega (arith, p.1.above), p.1.below, refl), p.2 ∙ (λ i. p.1.is i ++ here i)))
    (one_fails (byte_within 1 24 bytes) (λ n. tiles grid before n) (fault, from) e)

-- before a faulty group there are fewer groups than are due
pub record GroupsBefore (grid : ShapeModel) (before : List GroupModel) (n : ℕ) (bytes from : List ℕ) : Type 0 where
  pub done : List GroupModel
  pub fewer : length done < n
  pub groups : All (λ g. IsGroup g) done
  pub sides : All (λ g. g.grid ≡ grid) done
  pub apart : AreApart (before ++ done)
  pub head : List ℕ
  pub begun : IsGroupHead head
  pub is : bytes ≡ flat_map group_text done ++ (head ++ from)

-- one group, and then those before a faulty one
one_before : (bytes s mid from : List ℕ) (g : GroupModel) (done : List GroupModel) → bytes ≡ s ++ mid → s ≡ group_text g → mid ≡ flat_map group_text done ++ from → bytes ≡ flat_map group_text (g ∷ done) ++ from
one_before bytes s mid from g done parts first others =
    parts ∙ (λ i. first i ++ others i) ∙ sym (append_assoc (group_text g) (flat_map group_text done) from) ∙ ap (λ (l : List ℕ). l ++ from) (sym (flat_map-cons group_text g done))

pub groups_before : (grid : ShapeModel) (before : List GroupModel) (n : ℕ) → IsShape grid → AreApart before → (bytes : List ℕ) → AreBytes bytes → (fault : FormatFault) (from : List ℕ) → groups grid before n bytes ≡ Err (fault, from)
    → GroupsBefore grid before n bytes from
unfolding groups ◌>>=◌ give
groups_before grid before zero sides apart bytes all fault from e = absurd cc
groups_before grid before (suc n) sides apart bytes all fault from e =
    ⊎_elim
    (λ failed.
    let p = group_before grid before bytes all fault from failed in
    record {
      done = [];
      fewer = omega arith;
      groups = All-nil (λ (g : GroupModel). IsGroup g);
      sides = All-nil (λ (g : GroupModel). g.grid ≡ grid);
      apart = subst (λ (gs : List GroupModel). AreApart gs) (sym (append-nil before)) apart;
      head = p.0;
      begun = p.1;
      is = p.2;
    })
    (λ r.
    let g = r.0.0 in
    let p = (group_law grid before sides).takes bytes all g r.0.1 r.1 in
    let left : AreBytes r.0.1 = AreBytes-rest p.0 r.0.1 (subst (λ (l : List ℕ). AreBytes l) p.2 all) in
    ⊎_elim
    (λ failed.
    let q = groups_before grid (before ++ g ∷ []) n sides (apart_pushed before g apart p.1.next.apart) r.0.1 left fault from failed in
    record {
      done = g ∷ q.done;
      fewer = omega (arith, q.fewer);
      groups = All-cons (λ (h : GroupModel). IsGroup h) g q.done p.1.next.group q.groups;
      sides = All-cons (λ (h : GroupModel). h.grid ≡ grid) g q.done p.1.next.sides q.sides;
      apart = subst (λ (gs : List GroupModel). AreApart gs) (append_assoc before (g ∷ []) q.done) q.apart;
      head = q.head;
      begun = q.begun;
      is = one_before bytes p.0 r.0.1 (q.head ++ from) g q.done p.2 p.1.is q.is;
    })
    (λ q. absurd (never (g ∷ q.0.0) q.0.1 q.2))
    (one_fails (groups grid (before ++ g ∷ []) n r.0.1) (λ others. give (g ∷ others)) (fault, from) r.2))
    (one_fails (group grid before bytes) (λ first. groups grid (before ++ first ∷ []) n >>= λ others. give (first ∷ others)) (fault, from) e)
  where
    never : (x : List GroupModel) (l : List ℕ) → fine x l ≡ faulty (List GroupModel) fault from → ⊥
    never x l e = absurd cc

-- ---- groups that are announced and missing

group_missing : (grid : ShapeModel) (before : List GroupModel) (head : List ℕ) → IsGroupHead head → IsCutOff (group grid before) head
unfolding group ◌>>=◌
group_missing grid before head (inl nil) = ([], ap (group grid before) nil ∙ ap (next_reading (λ n. tiles grid before n)) (field_short OutOfRange 1 (byte_in 1 24) [] (omega arith)))
group_missing grid before head (inr (size, some, few, is)) =
    let first : byte_within 1 24 (size ∷ []) ≡ fine size [] = (byte_law 1 24).again size (size ∷ []) [] (record { above = omega (arith, some); below = few; is = refl }) in
    ([], ap (group grid before) is ∙ ap (next_reading (λ n. tiles grid before n)) first ∙ field_short OutOfRange size (group_in grid before) [] some)

-- fewer groups than are due are cut off
pub groups_missing : (grid : ShapeModel) (before : List GroupModel) (n : ℕ) → IsShape grid → AreApart before → (done : List GroupModel) (head : List ℕ) → length done < n → All (λ g. IsGroup g) done → All (λ g. g.grid ≡ grid) done → AreApart (before ++ done) → IsGroupHead head
    → IsCutOff (groups grid before n) (flat_map group_text done ++ head)
unfolding groups ◌>>=◌
groups_missing grid before zero sides apart done head few all of_grid apart' begun = absurd (omega (arith, few))
groups_missing grid before (suc n) sides apart [] head few all of_grid apart' begun =
    let q = group_missing grid before head begun in
    (q.0, ap (next_reading (λ (first : GroupModel). groups grid (before ++ first ∷ []) n >>= λ others. give (first ∷ others))) q.1)
groups_missing grid before (suc n) sides apart (g ∷ done) head few all of_grid apart' begun =
    let here = first_group grid before g done all of_grid apart' in
    let q = groups_missing grid (before ++ g ∷ []) n sides (apart_pushed before g apart here.next.apart) done head (omega (arith, few)) (All-tail (λ (h : GroupModel). IsGroup h) g done all) (All-tail (λ (h : GroupModel). h.grid ≡ grid) g done of_grid)
    (subst (λ (l : List GroupModel). AreApart l) (sym (append_assoc before (g ∷ []) done)) apart') begun in
    let text : flat_map group_text (g ∷ done) ++ head ≡ group_text g ++ (flat_map group_text done ++ head) = ap (λ (l : List ℕ). l ++ head) (flat_map-cons group_text g done) ∙ append_assoc (group_text g) (flat_map group_text done) head in
    let first : group grid before (flat_map group_text (g ∷ done) ++ head) ≡ fine g (flat_map group_text done ++ head) = ap (group grid before) text ∙ (group_law grid before sides).again g (group_text g) (flat_map group_text done ++ head) here in
    (q.0, ap (next_reading (λ (first : GroupModel). groups grid (before ++ first ∷ []) n >>= λ others. give (first ∷ others))) first ∙ ap (next_reading (λ (others : List GroupModel). give (g ∷ others))) q.1)

-- ---- a group's tiles, sorted, are those that were given, where these rise

same_lists : (xs ys : List ℕ) → AllPairs (λ x y. x < y) xs → AllPairs (λ x y. x < y) ys → ((t : ℕ) → Contains xs t → Contains ys t) → ((t : ℕ) → Contains ys t → Contains xs t) → xs ≡ ys
same_lists [] [] up up' there back = refl
same_lists [] (y ∷ ys) up up' there back = absurd (let w = back y (0, omega arith, refl) in omega (arith, w.1))
same_lists (x ∷ xs) [] up up' there back = absurd (let w = there x (0, omega arith, refl) in omega (arith, w.1))
same_lists (x ∷ xs) (y ∷ ys) up up' there back =
    let first : x ≡ y = by_first (there x (0, omega arith, refl)) (back y (0, omega arith, refl)) in
    let rest : xs ≡ ys = same_lists xs ys (others_rise x xs up) (others_rise y ys up')
    (λ t w. behind y ys t (there t (later x xs t w)) (let low = All-contains (λ z. x < z) xs t (head_below x xs up) w in omega (arith, first, low)))
    (λ t w. behind x xs t (back t (later y ys t w)) (let low = All-contains (λ z. y < z) ys t (head_below y ys up') w in omega (arith, first, low))) in
    λ i. first i ∷ rest i
  where
    later : (z : ℕ) (zs : List ℕ) (t : ℕ) → Contains zs t → Contains (z ∷ zs) t
    later z zs t w = (suc w.0, let lt = w.1 in omega arith, w.2)

    behind : (z : ℕ) (zs : List ℕ) (t : ℕ) → Contains (z ∷ zs) t → z < t → Contains zs t
    behind z zs t (zero, lt, is) low = absurd (omega (arith, is, low))
    behind z zs t (suc k, lt, is) low = (k, omega (arith, lt), is)

    by_first : Contains (y ∷ ys) x → Contains (x ∷ xs) y → x ≡ y
    by_first (zero, lt, is) w' = sym is
    by_first (suc k, lt, is) (zero, lt', is') = is'
    by_first (suc k, lt, is) (suc j, lt', is') =
        let high = All-contains (λ z. y < z) ys x (head_below y ys up') (k, omega (arith, lt), is) in
        let high' = All-contains (λ z. x < z) xs y (head_below x xs up) (j, omega (arith, lt'), is') in
        absurd (omega (arith, high, high'))

pub sorted_same : (xs ys : List ℕ) → IsStrictlyIncreasing xs → IsStrictlyIncreasing ys → IsPermutation xs ys → xs ≡ ys
sorted_same xs ys up up' moved = same_lists xs ys (AllPairs-from_increasing xs up) (AllPairs-from_increasing ys up') (λ t. Contains-permutation xs ys t moved) (λ t. Contains-permutation ys xs t (IsPermutation-sym xs ys moved))

-- tiles that are not the sorted ones make no group
pub next_differs : (grid : ShapeModel) (before : List GroupModel) (given seen : List ℕ) (g : GroupModel) → IsPermutation given g.tiles → IsGroup g → seen ≡ g.tiles → bytes_eq seen given ≡ false → IsNextGroup grid before (record { grid = grid; tiles = given }) → ⊥
next_differs grid before given seen g moved is see differ next =
    let same : given ≡ g.tiles = sorted_same given g.tiles next.group.rising is.rising moved in
    let equal : bytes_eq seen given ≡ true = (bytes_eq-Decides seen given).1 (see ∙ sym same) in
    false≢true (sym differ ∙ equal)

-- tiles that are the sorted ones
pub next_same : (grid : ShapeModel) (before : List GroupModel) (given seen : List ℕ) (g : GroupModel) → g.grid ≡ grid → IsGroup g → seen ≡ g.tiles → bytes_eq seen given ≡ true → All (λ h. ShareNoTile h.tiles given) before → IsNextGroup grid before (record { grid = grid; tiles = given })
next_same grid before given seen g sides is see equal apart =
    let tiles_are : g.tiles ≡ given = sym see ∙ (bytes_eq-Decides seen given).0 equal in
    let same : g ≡ at grid given = λ i. record { grid = sides i; tiles = tiles_are i } in
    record { group = subst (λ (h : GroupModel). IsGroup h) same is; sides = refl; apart = apart }
