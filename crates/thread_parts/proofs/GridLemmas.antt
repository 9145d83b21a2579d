-- The rings of a run, row by row.
use Rattle.std.proofs.Common.{◌≡◌, ◌≢◌, ℕ, zero, suc, ◌<◌, ◌≤◌, ◌+◌, List, [], ◌∷◌, ◌++◌, inl, inr, map, set, get_or, slice_get, Some, length, replicate, ap, subst, sym, ◌∙◌, refl, arith, slice_index_or}
use Rattle.std.proofs.lemmas.Option.{slice_get-get_or}
use Rattle.std.proofs.lemmas.Bool.Decides.{eqb_tells}
use Rattle.thread_parts.specs.Rings.{Ring, ArePaired}
use Rattle.std.proofs.lemmas.List.{map-append, length-map, get_or-map}
use Rattle.std.proofs.Math.ListN.{get_or-append}
use Rattle.std.proofs.Math.Seq.{get_or-append_seam}
use Rattle.thread_parts.proofs.EndLemmas.{map_at_set, map_at_other}

-- i rows of n rings were made
pub record IsGrid (n i : ℕ) (outs ins : List (List Ring)) : Type 0 where
  pub rows_out : (a : ℕ) → a < i → length (slice_index_or outs a []) ≡ n
  pub rows_in : (j : ℕ) → j < n → length (slice_index_or ins j []) ≡ i
  pub pairs : (a j : ℕ) → a < i → j < n → slice_get (slice_index_or outs a []) j ≡ slice_get (slice_index_or ins j []) a

module _ {X : Type 0} where
  pub at_end : (xs : List X) (y : X) (i : ℕ) (d : X) → length xs ≡ i → get_or (xs ++ y ∷ []) i d ≡ y
  at_end [] y zero d len = refl
  at_end [] y (suc i) d len = absurd (omega (arith, len))
  at_end (x ∷ xs) y zero d len = absurd (omega (arith, len))
  at_end (x ∷ xs) y (suc i) d len = at_end xs y i d (omega (arith, len))

  pub before_end : (xs : List X) (y : X) (a : ℕ) (d : X) → a < length xs → get_or (xs ++ y ∷ []) a d ≡ get_or xs a d
  before_end [] y a d low = absurd (omega (arith, low))
  before_end (x ∷ xs) y zero d low = refl
  before_end (x ∷ xs) y (suc a) d low = before_end xs y a d (omega (arith, low))

  pub get_end : (xs : List X) (y : X) (i : ℕ) → length xs ≡ i → slice_get (xs ++ y ∷ []) i ≡ Some y
  get_end [] y zero len = refl
  get_end [] y (suc i) len = absurd (omega (arith, len))
  get_end (x ∷ xs) y zero len = absurd (omega (arith, len))
  get_end (x ∷ xs) y (suc i) len = get_end xs y i (omega (arith, len))

  pub get_before : (xs : List X) (y : X) (a : ℕ) → a < length xs → slice_get (xs ++ y ∷ []) a ≡ slice_get xs a
  get_before [] y a low = absurd (omega (arith, low))
  get_before (x ∷ xs) y zero low = refl
  get_before (x ∷ xs) y (suc a) low = get_before xs y a (omega (arith, low))

  pub length_end : (xs : List X) (y : X) → length (xs ++ y ∷ []) ≡ length xs + 1
  length_end [] y = refl
  length_end (x ∷ xs) y = let h = length_end xs y in omega (arith, h)

  pub some_at : (xs : List X) (j : ℕ) → j < length xs → (d : X) × (slice_get xs j ≡ Some d)
  some_at [] j low = absurd (omega (arith, low))
  some_at (x ∷ xs) zero low = (x, refl)
  some_at (x ∷ xs) (suc j) low = some_at xs j (omega (arith, low))

  -- the places other than one that has changed
  pub get_other : (xs : List X) (i k : ℕ) (q : X) → k ≢ i → slice_get (set xs i q) k ≡ slice_get xs k
  get_other [] i k q other = refl
  get_other (x ∷ xs) zero zero q other = absurd (other refl)
  get_other (x ∷ xs) zero (suc k) q other = refl
  get_other (x ∷ xs) (suc i) zero q other = refl
  get_other (x ∷ xs) (suc i) (suc k) q other = get_other xs i k q (λ same. other (ap suc same))

module _ (n i : ℕ) (outs ins ins' : List (List Ring)) (row : List Ring) (grid : IsGrid n i outs ins) (len : length outs ≡ i) (wide : length row ≡ n)
    (more : (j : ℕ) (d : Ring) → j < n → slice_index_or ins' j [] ≡ slice_index_or ins j [] ++ slice_index_or row j d ∷ []) where
  row_pair : (j : ℕ) → j < n → slice_get row j ≡ slice_get (slice_index_or ins' j []) i
  row_pair j low =
      let d = some_at row j (omega (arith, low, wide)) in
      slice_get-get_or row j d.0 (omega (arith, low, wide))
      ∙ sym (ap (λ (r : List Ring). slice_get r i) (more j d.0 low) ∙ get_end (slice_index_or ins j []) (get_or row j d.0) i (grid.rows_in j low))

  old_pair : (a j : ℕ) → a < i → j < n → slice_get (slice_index_or outs a []) j ≡ slice_get (slice_index_or ins' j []) a
  old_pair a j low within =
      let d = some_at row j (omega (arith, within, wide)) in
      grid.pairs a j low within ∙ sym (ap (λ (r : List Ring). slice_get r a) (more j d.0 within) ∙ get_before (slice_index_or ins j []) (get_or row j d.0) a (omega (arith, low, grid.rows_in j within)))

  len_more : (j : ℕ) → j < n → length (slice_index_or ins' j []) ≡ i + 1
  len_more j low =
      let d = some_at row j (omega (arith, low, wide)) in
      ap (λ (r : List Ring). length r) (more j d.0 low) ∙ (length_end (slice_index_or ins j []) (get_or row j d.0) ∙ ap (λ (k : ℕ). k + 1) (grid.rows_in j low))

  -- one more row
  pub grid_more : IsGrid n (i + 1) (outs ++ row ∷ []) ins'
  grid_more = record {
    rows_out = λ a low. (elim (eqb_tells a i) [
      | inl p ↦ rw (p.1, at_end outs row i [] len) wide
      | inr p ↦ rw (before_end outs row a [] (omega (arith, len, low, p.1))) (grid.rows_out a (omega (arith, low, p.1)))
    ]);
    rows_in = len_more;
    pairs = λ a j low within. (elim (eqb_tells a i) [
      | inl p ↦ rw (p.1, at_end outs row i [] len) (row_pair j within)
      | inr p ↦ rw (before_end outs row a [] (omega (arith, len, low, p.1))) (old_pair a j (omega (arith, low, p.1)) within)
    ]);
  }

-- all rows
pub grid_paired : (n : ℕ) (outs ins : List (List Ring)) → length outs ≡ n → length ins ≡ n → IsGrid n n outs ins → ArePaired n outs ins
grid_paired n outs ins a b grid = record { outs_len = a; ins_len = b; rows_out = grid.rows_out; rows_in = grid.rows_in; pairs = grid.pairs }

-- ---- A row of ends that grows by one, and rows where one grows.

-- Each row before the j-th has one element more than in base, as the list of these elements has them; row j, x so far, becomes q.
module _ {X Y R : Type 0} (f : X → List R) (g : Y → R) (xs : List X) (base : List (List R)) (ys : List Y) (j : ℕ) (x q : X) (y : Y)
    (inside : j < length xs) (len : length ys ≡ j) (more : f q ≡ f x ++ g y ∷ []) where
  row_at_end : (d : R) → get_or (map g (ys ++ y ∷ [])) j d ≡ g y
  row_at_end d = ap (λ (l : List R). get_or l j d) (map-append g ys (y ∷ [])) ∙ (ap (λ (k : ℕ). get_or (map g ys ++ g y ∷ []) k d) (sym (length-map ys g ∙ len)) ∙ get_or-append_seam (map g ys) (g y) [] d)

  row_before_end : (k : ℕ) (d : R) → k < j → get_or (map g (ys ++ y ∷ [])) k d ≡ get_or (map g ys) k d
  row_before_end k d below = ap (λ (l : List R). get_or l k d) (map-append g ys (y ∷ [])) ∙ get_or-append (map g ys) (g y ∷ []) d k (omega (arith, length-map ys g))

  pub row_below :
      ((k : ℕ) (d : R) → k < j → get_or (map f xs) k [] ≡ get_or base k [] ++ get_or (map g ys) k d ∷ [])
      → (get_or (map f xs) j [] ≡ get_or base j [])
      → (f x ≡ get_or (map f xs) j [])
      → (k : ℕ) (d : R) → k < j + 1 → get_or (map f (set xs j q)) k [] ≡ get_or base k [] ++ get_or (map g (ys ++ y ∷ [])) k d ∷ []
  row_below below above read k d low = elim (eqb_tells k j) [
    | inl p ↦ rw (p.1, map_at_set f xs j q [] inside, row_at_end d, more) (ap (λ (l : List R). l ++ g y ∷ []) (read ∙ above))
    | inr p ↦ (
        let lt : k < j = omega (arith, p.1) in
        map_at_other f xs j k q [] p.1 ∙ (below k d lt ∙ ap (λ (r : R). get_or base k [] ++ r ∷ []) (sym (row_before_end k d lt))))
  ]

  pub row_above : ((k : ℕ) → j ≤ k → get_or (map f xs) k [] ≡ get_or base k []) → (k : ℕ) → j + 1 ≤ k → get_or (map f (set xs j q)) k [] ≡ get_or base k []
  row_above above k high = let other : k ≢ j = λ e. absurd (omega (arith, e)) in map_at_other f xs j k q [] other ∙ above k (omega arith)

nil_at_end : {Y : Type 0} (ys : List (List Y)) → ((m : ℕ) → get_or ys m [] ≡ []) → (m : ℕ) → get_or (ys ++ [] ∷ []) m [] ≡ []
nil_at_end [] h zero = refl
nil_at_end [] h (suc m) = refl
nil_at_end (y ∷ ys) h zero = h 0
nil_at_end (y ∷ ys) h (suc m) = nil_at_end ys (λ k. h (suc k)) m

-- one more with an empty list
pub nil_pushed : {X Y : Type 0} (f : X → List Y) (xs : List X) (x : X) → f x ≡ [] → ((m : ℕ) → get_or (map f xs) m [] ≡ []) → (m : ℕ) → get_or (map f (xs ++ x ∷ [])) m [] ≡ []
nil_pushed {X} {Y} f xs x none h m = rw (map-append f xs (x ∷ []), none) (nil_at_end (map f xs) h m)

-- one more row of nothing
pub nil_row : {Y : Type 0} (rows : List (List (List Y))) (r : List (List Y)) → ((i j : ℕ) → get_or (get_or rows i []) j [] ≡ []) → ((j : ℕ) → get_or r j [] ≡ []) → (i j : ℕ) → get_or (get_or (rows ++ r ∷ []) i []) j [] ≡ []
nil_row [] r old new zero j = new j
nil_row [] r old new (suc i) j = refl
nil_row (x ∷ rows) r old new zero j = old 0 j
nil_row (x ∷ rows) r old new (suc i) j = nil_row rows r (λ a b. old (suc a) b) new i j

-- a row got one more, by which nothing came
pub nil_rows : {V Y : Type 0} (f : V → List (List Y)) (xs : List V) (j : ℕ) (x q : V) → j < length xs → x ≡ get_or xs j x → f q ≡ f x ++ [] ∷ []
    → ((k m : ℕ) → get_or (get_or (map f xs) k []) m [] ≡ []) → (k m : ℕ) → get_or (get_or (map f (set xs j q)) k []) m [] ≡ []
nil_rows f xs j x q inside here more h k m = elim (eqb_tells k j) [
  | inl p ↦ rw (p.1, map_at_set f xs j q [] inside, more) (nil_at_end (f x) (λ i. (ap (λ l. get_or l i []) (ap f here ∙ sym (get_or-map f xs j x [] inside)) ∙ h j i)) m)
  | inr p ↦ rw (map_at_other f xs j k q [] p.1) (h k m)
]

some_is : {X : Type 0} (a b : X) → Some a ≡ Some b → a ≡ b
some_is a b h = cc

-- what is so of each and of one more at the end
pub each_pushed : {X Y : Type 0} (P : ℕ → Y → Type 0) (f : X → Y) (xs : List X) (x : X) → ((i : ℕ) (y : Y) → slice_get (map f xs) i ≡ Some y → P i y) → P (length xs) (f x) → (i : ℕ) (y : Y) → slice_get (map f (xs ++ x ∷ [])) i ≡ Some y → P i y
each_pushed P f [] x old new zero y at = subst (P 0) (some_is (f x) y at) new
each_pushed P f [] x old new (suc i) y at = absurd (cc at)
each_pushed P f (z ∷ xs) x old new zero y at = old 0 y at
each_pushed P f (z ∷ xs) x old new (suc i) y at = each_pushed (λ (k : ℕ). P (suc k)) f xs x (λ k v h. old (suc k) v h) new i y at

-- the same of rows, with one more at the end
pub rows_more : {X R : Type 0} (P : ℕ → ℕ → R → Type 0) (f : X → List R) (rows : List X) (row : X) → ((i j : ℕ) (r : R) → slice_get (get_or (map f rows) i []) j ≡ Some r → P i j r) → ((j : ℕ) (r : R) → slice_get (f row) j ≡ Some r → P (length rows) j r) → (i j : ℕ) (r : R) → slice_get (get_or (map f (rows ++ row ∷ [])) i []) j ≡ Some r → P i j r
rows_more P f [] row old new zero j r at = new j r at
rows_more P f [] row old new (suc i) j r at = absurd (cc at)
rows_more P f (z ∷ rows) row old new zero j r at = old 0 j r at
rows_more P f (z ∷ rows) row old new (suc i) j r at = rows_more (λ (a b : ℕ). P (suc a) b) f rows row (λ a b c h. old (suc a) b c h) new i j r at

-- a list that has nothing but empty lists
pub all_nil : {Y : Type 0} (rows : List (List Y)) (n : ℕ) → length rows ≡ n → ((i : ℕ) → get_or rows i [] ≡ []) → rows ≡ replicate n []
all_nil [] zero len h = refl
all_nil [] (suc n) len h = absurd (omega (arith, len))
all_nil (r ∷ rows) zero len h = absurd (omega (arith, len))
all_nil (r ∷ rows) (suc n) len h =
    let first : r ≡ [] = h 0 in
    let rest : rows ≡ replicate n [] = all_nil rows n (omega (arith, len)) (λ i. h (suc i)) in
    λ t. first t ∷ rest t

-- and n rows of m such lists each
pub all_nil_rows : {Y : Type 0} (rows : List (List (List Y))) (n m : ℕ) → length rows ≡ n → ((i : ℕ) → i < n → length (get_or rows i []) ≡ m) → ((i j : ℕ) → get_or (get_or rows i []) j [] ≡ []) → rows ≡ replicate n (replicate m [])
all_nil_rows [] zero m len wide h = refl
all_nil_rows [] (suc n) m len wide h = absurd (omega (arith, len))
all_nil_rows (r ∷ rows) zero m len wide h = absurd (omega (arith, len))
all_nil_rows (r ∷ rows) (suc n) m len wide h =
    let first : r ≡ replicate m [] = all_nil r m (wide 0 (omega arith)) (h 0) in
    let rest : rows ≡ replicate n (replicate m []) = all_nil_rows rows n m (omega (arith, len)) (λ i low. wide (suc i) (omega (arith, low))) (λ i j. h (suc i) j) in
    λ t. first t ∷ rest t

-- what is seen of a row's ends in two ways has one length
pub as_wide : {V X Y Z : Type 0} (items : V → List X) (f : X → Y) (g : X → Z) (rows : List V) (i : ℕ) → length (get_or (map (λ row. map f (items row)) rows) i []) ≡ length (get_or (map (λ row. map g (items row)) rows) i [])
as_wide items f g [] i = refl
as_wide items f g (row ∷ rows) zero = length-map (items row) f ∙ sym (length-map (items row) g)
as_wide items f g (row ∷ rows) (suc i) = as_wide items f g rows i
