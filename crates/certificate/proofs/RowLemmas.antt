-- The text of rows, with the laws of its reader, and boards that are rows.
use Rattle.std.proofs.Common.{◌≡◌, ⊎_elim, ℕ, zero, suc, ◌<◌, Bool, true, false, cond, List, [], ◌∷◌, ◌++◌, length, Option, Some, None, Err, refl, sym, ap, subst, ◌∙◌, append-nil, append_assoc, arith, ◌≤◌, All, AllPairs}
use Rattle.std.specs.Prelude.{IfSome, ◌↔◌}
use Rattle.std.specs.List.{flat_map, AllByRecursion}
use Rattle.std.proofs.lemmas.Bool.Decides.{Decides-ltb}
use Rattle.std.proofs.lemmas.List.Concat.{flat_map-cons}
use Rattle.std.proofs.lemmas.List.Elements.{recursion_from_All}
use Rattle.board.specs.Shapes.{ShapeModel, IsShape, cell_count}
use Rattle.board.specs.Boards.{BoardModel, IsBoard}
use Rattle.board.specs.Keys.{key_of, Precedes}
use Rattle.board.proofs.KeyLemmas.{packed_in_order, tiles_small}
use Rattle.board.proofs.NeighbourLemmas.{cells_above}
use Rattle.board.specs.declared.costs.TheConstants.{GREATEST_COST}
use Rattle.board.specs.Laws.{KeysAreInOrder}
use Rattle.certificate.specs.Fields.{SpellsBoard, SpellsNumber, SpellsRow}
use Rattle.certificate.specs.declared.faults.FormatFault.{FormatFault}
use Rattle.certificate.specs.declared.faults.FormatFault.TheVariants.{NotRising, OutOfRange, Truncated}
use Rattle.certificate.specs.Certificates.{Follows, IsBoardOf, IsRow, RiseAfter}
use Rattle.certificate.specs.Spellings.{number_text, row_text}
use Rattle.certificate.specs.Readings.{Reading, ◌>>=◌, next_reading, whole_reading, as_one, IsCutOff, give, number, board, board_from, may_follow, row_order, row, rows}
use Rattle.certificate.specs.Laws.{AreBytes}
use Rattle.certificate.proofs.ReaderLemmas.{Law, Law-iff, Both, Law-seq, Known, Law-give, Law-as_one, as_one_from, field_short, Lasts, Lasts-give, Lasts-seq, Lasts-field, Lasts-as_one, fault_is, err_is, fine, faulty, one_fails, AreBytes-rest}
use Rattle.certificate.proofs.TextLemmas.{number_law, board_law}

-- ---- the text of rows, with the laws of its reader

abbrev pub IsBefore : ShapeModel → Option BoardModel → Type 0
IsBefore grid before = IfSome before (IsBoardOf grid)

in_order : (grid : ShapeModel) (a b : BoardModel) → IsBoardOf grid a → IsBoardOf grid b → (key_of a < key_of b) ↔ Precedes a.tiles b.tiles
in_order grid a b is is' =
    packed_in_order a.tiles b.tiles (is.board.one_each ∙ ap cell_count (is.sides ∙ sym is'.sides) ∙ sym is'.board.one_each) (recursion_from_All (λ x. x < 32) a.tiles (tiles_small a is.board)) (recursion_from_All (λ x. x < 32) b.tiles (tiles_small b is'.board))

pub follows_from_test : (grid : ShapeModel) (before : Option BoardModel) (b : BoardModel) → IsBefore grid before → IsBoardOf grid b → may_follow before b ≡ true → Follows before b
follows_from_test grid None b is is' e = tt
follows_from_test grid (Some a) b is is' e = (in_order grid a b is is').0 ((Decides-ltb (key_of a) (key_of b)).0 e)

pub test_from_follows : (grid : ShapeModel) (before : Option BoardModel) (b : BoardModel) → IsBefore grid before → IsBoardOf grid b → Follows before b → may_follow before b ≡ true
test_from_follows grid None b is is' f = refl
test_from_follows grid (Some a) b is is' f = (Decides-ltb (key_of a) (key_of b)).1 ((in_order grid a b is is').1 f)

pub sides_of : (grid : ShapeModel) (b : BoardModel) → IsBoardOf grid b → IsShape grid
sides_of grid b is = subst (λ (g : ShapeModel). IsShape g) is.sides is.board.sides

-- ---- one row

pub record OrderText (before : Option BoardModel) (r r' : BoardModel × ℕ) (text : List ℕ) : Type 0 where
  pub passes : may_follow before r.0 ≡ true
  pub same : r' ≡ r
  pub nil : text ≡ []

order_law : (before : Option BoardModel) (r : BoardModel × ℕ) → Law (row_order before r) (OrderText before r)
unfolding row_order
order_law before r = record {
  again = λ r' text rest p. ap (λ (b : Bool). cond b (fine r (text ++ rest)) (faulty (BoardModel × ℕ) NotRising (text ++ rest))) p.passes ∙ (λ i. fine (sym p.same i) (p.nil i ++ rest));
  takes = λ bytes all r' rest e. by_test bytes r' rest (may_follow before r.0) refl e;
}
  where
    by_test : (bytes : List ℕ) (r' : BoardModel × ℕ) (rest : List ℕ) (b : Bool) → may_follow before r.0 ≡ b → cond b (fine r bytes) (faulty (BoardModel × ℕ) NotRising bytes) ≡ fine r' rest → (text : List ℕ) × OrderText before r r' text × (bytes ≡ text ++ rest)
    by_test bytes r' rest false is e = absurd cc
    by_test bytes r' rest true is e =
        let p : (BoardModel × ℕ) × List ℕ = (r, bytes) in
        let q : (BoardModel × ℕ) × List ℕ = (r', rest) in
        let same : p ≡ q = cc in
        ([], record { passes = is; same = ap (λ (z : (BoardModel × ℕ) × List ℕ). z.0) (sym same); nil = refl }, ap (λ (z : (BoardModel × ℕ) × List ℕ). z.1) same)

abbrev RowParts : ShapeModel → Option BoardModel → BoardModel × ℕ → List ℕ → Type 0
RowParts grid before = Both (SpellsBoard grid) (λ b. Both SpellsNumber (λ g. OrderText before (b, g)))

row_there : (grid : ShapeModel) (before : Option BoardModel) → IsBefore grid before → (r : BoardModel × ℕ) (text : List ℕ) → RowParts grid before r text → SpellsRow grid before r text
row_there grid before is r text (b, s0, t0, p, (g, s1, t1, n, up, e1), e0) =
    let made : SpellsRow grid before (b, g) text = record {
      row = record { board = p.board; cost = n.within };
      follows = follows_from_test grid before b is p.board up.passes;
      is = e0 ∙ (λ i. p.is i ++ e1 i) ∙ (λ i. b.tiles ++ (n.is i ++ up.nil i)) ∙ ap (λ (l : List ℕ). b.tiles ++ l) (append-nil (number_text g));
    } in
    subst (λ (r : BoardModel × ℕ). SpellsRow grid before r text) (sym up.same) made

row_back : (grid : ShapeModel) (before : Option BoardModel) → IsBefore grid before → (r : BoardModel × ℕ) (text : List ℕ) → SpellsRow grid before r text → RowParts grid before r text
row_back grid before is r text t = (r.0, r.0.tiles, number_text r.1, record { board = t.row.board; is = refl }, (r.1, number_text r.1, [], record { within = t.row.cost; is = refl }, record { passes = test_from_follows grid before r.0 is t.row.board t.follows; same = refl; nil = refl }, sym (append-nil (number_text r.1))), t.is)

pub row_law : (grid : ShapeModel) (before : Option BoardModel) → IsShape grid → IsBefore grid before → Law (row grid before) (SpellsRow grid before)
unfolding row
row_law grid before sides is = Law-as_one _ (SpellsRow grid before)
    (Law-iff _ (RowParts grid before) (SpellsRow grid before) (row_there grid before is) (row_back grid before is) (Law-seq (board grid) _ (SpellsBoard grid) _ (board_law grid sides) (λ b _ _. Law-seq number _ SpellsNumber _ number_law (λ g _ _. order_law before (b, g)))))

pub row_from : (grid : ShapeModel) (before : Option BoardModel) (bytes : List ℕ) (fault : FormatFault) (from : List ℕ) → row grid before bytes ≡ Err (fault, from) → bytes ≡ from
unfolding row
row_from grid before bytes fault from e = as_one_from _ bytes fault from e

-- ---- several rows

pub record RowsText (grid : ShapeModel) (before : Option BoardModel) (n : ℕ) (rs : List (BoardModel × ℕ)) (text : List ℕ) : Type 0 where
  pub count : length rs ≡ n
  pub rows : AllByRecursion (IsRow grid) rs
  pub rising : RiseAfter before rs
  pub is : text ≡ flat_map row_text rs

abbrev RowsParts : ShapeModel → Option BoardModel → ℕ → List (BoardModel × ℕ) → List ℕ → Type 0
RowsParts grid before zero = Known []
RowsParts grid before (suc n) = Both (SpellsRow grid before) (λ first. Both (RowsText grid (Some first.0) n) (λ others. Known (first ∷ others)))

rows_there : (grid : ShapeModel) (before : Option BoardModel) (n : ℕ) (rs : List (BoardModel × ℕ)) (text : List ℕ) → RowsParts grid before n rs text → RowsText grid before n rs text
rows_there grid before zero rs text p =
    let made : RowsText grid before 0 [] text = record { count = refl; rows = tt; rising = tt; is = p.1 } in
    subst (λ (l : List (BoardModel × ℕ)). RowsText grid before 0 l text) (sym p.0) made
rows_there grid before (suc n) rs text (r, s0, t0, first, (others, s1, t1, rest, (known, nil), e1), e0) =
    let made : RowsText grid before (suc n) (r ∷ others) text = record {
      count = ap suc rest.count;
      rows = (first.row, rest.rows);
      rising = (first.follows, rest.rising);
      is = e0 ∙ (λ i. first.is i ++ e1 i) ∙ (λ i. row_text r ++ (rest.is i ++ nil i)) ∙ ap (λ (l : List ℕ). row_text r ++ l) (append-nil (flat_map row_text others)) ∙ sym (flat_map-cons row_text r others);
    } in
    subst (λ (l : List (BoardModel × ℕ)). RowsText grid before (suc n) l text) (sym known) made

rows_back : (grid : ShapeModel) (before : Option BoardModel) (n : ℕ) (rs : List (BoardModel × ℕ)) (text : List ℕ) → RowsText grid before n rs text → RowsParts grid before n rs text
rows_back grid before zero [] text t = (refl, t.is)
rows_back grid before zero (r ∷ rs) text t = absurd (omega (arith, t.count))
rows_back grid before (suc n) [] text t = absurd (omega (arith, t.count))
rows_back grid before (suc n) (r ∷ rs) text t =
    (r, row_text r, flat_map row_text rs, record { row = t.rows.0; follows = t.rising.0; is = refl }, (rs, flat_map row_text rs, [], record { count = omega (arith, t.count); rows = t.rows.1; rising = t.rising.1; is = refl }, (refl, refl), sym (append-nil (flat_map row_text rs))), t.is ∙ flat_map-cons row_text r rs)

pub rows_law : (grid : ShapeModel) (before : Option BoardModel) (n : ℕ) → IsShape grid → IsBefore grid before → Law (rows grid before n) (RowsText grid before n)
unfolding rows
rows_law grid before zero sides is = Law-iff (give []) (Known []) (RowsText grid before zero) (rows_there grid before zero) (rows_back grid before zero) (Law-give [])
rows_law grid before (suc n) sides is = Law-iff _ (RowsParts grid before (suc n)) (RowsText grid before (suc n)) (rows_there grid before (suc n)) (rows_back grid before (suc n))
    (Law-seq (row grid before) _ (SpellsRow grid before) _ (row_law grid before sides is)
    (λ first _ t. Law-seq (rows grid (Some first.0) n) _ (RowsText grid (Some first.0) n) _ (rows_law grid (Some first.0) n sides t.row.board) (λ others _ _. Law-give (first ∷ others))))

-- one row, and then those before a faulty one
row_before : (bytes s mid from : List ℕ) (r : BoardModel × ℕ) (done : List (BoardModel × ℕ)) → bytes ≡ s ++ mid → s ≡ row_text r → mid ≡ flat_map row_text done ++ from → bytes ≡ flat_map row_text (r ∷ done) ++ from
row_before bytes s mid from r done parts first others =
    parts ∙ (λ i. first i ++ others i) ∙ sym (append_assoc (row_text r) (flat_map row_text done) from) ∙ ap (λ (l : List ℕ). l ++ from) (sym (flat_map-cons row_text r done))

-- before a faulty row there are fewer rows than are due
pub record RowsBefore (grid : ShapeModel) (before : Option BoardModel) (n : ℕ) (bytes from : List ℕ) : Type 0 where
  pub done : List (BoardModel × ℕ)
  pub fewer : length done < n
  pub rows : AllByRecursion (IsRow grid) done
  pub rising : RiseAfter before done
  pub is : bytes ≡ flat_map row_text done ++ from

pub rows_before : (grid : ShapeModel) (before : Option BoardModel) (n : ℕ) → IsShape grid → IsBefore grid before → (bytes : List ℕ) → AreBytes bytes → (fault : FormatFault) (from : List ℕ) → rows grid before n bytes ≡ Err (fault, from)
    → RowsBefore grid before n bytes from
unfolding rows ◌>>=◌ give
rows_before grid before zero sides is bytes all fault from e = absurd cc
rows_before grid before (suc n) sides is bytes all fault from e =
    ⊎_elim (λ failed. record { done = []; fewer = omega arith; rows = tt; rising = tt; is = row_from grid before bytes fault from failed })
    (λ r.
    let p = (row_law grid before sides is).takes bytes all r.0.0 r.0.1 r.1 in
    let left : AreBytes r.0.1 = AreBytes-rest p.0 r.0.1 (subst (λ (l : List ℕ). AreBytes l) p.2 all) in
    ⊎_elim
    (λ failed.
    let q = rows_before grid (Some r.0.0.0) n sides p.1.row.board r.0.1 left fault from failed in
    record {
      done = r.0.0 ∷ q.done;
      fewer = omega (arith, q.fewer);
      rows = (p.1.row, q.rows);
      rising = (p.1.follows, q.rising);
      is = row_before bytes p.0 r.0.1 from r.0.0 q.done p.2 p.1.is q.is;
    })
    (λ q. absurd (never (r.0.0 ∷ q.0.0) q.0.1 q.2))
    (one_fails (rows grid (Some r.0.0.0) n r.0.1) (λ others. give (r.0.0 ∷ others)) (fault, from) r.2))
    (one_fails (row grid before bytes) (λ first. rows grid (Some first.0) n >>= λ others. give (first ∷ others)) (fault, from) e)
  where
    never : (x : List (BoardModel × ℕ)) (l : List ℕ) → fine x l ≡ faulty (List (BoardModel × ℕ)) fault from → ⊥
    never x l e = absurd cc

-- ---- what is found stays where more bytes follow

order_lasts : (before : Option BoardModel) (r : BoardModel × ℕ) → Lasts (row_order before r)
unfolding row_order give
order_lasts before r = record {
  finds = λ bytes more x rest e. there bytes more x rest (may_follow before r.0) e;
  refuses = λ bytes more f from other e. wrong bytes more f from (may_follow before r.0) e;
}
  where
    there : (bytes more : List ℕ) (x : BoardModel × ℕ) (rest : List ℕ) (b : Bool) → cond b (fine r bytes) (faulty (BoardModel × ℕ) NotRising bytes) ≡ fine x rest → cond b (fine r (bytes ++ more)) (faulty (BoardModel × ℕ) NotRising (bytes ++ more)) ≡ fine x (rest ++ more)
    there bytes more x rest true e = (Lasts-give r).finds bytes more x rest e
    there bytes more x rest false e = absurd cc

    wrong : (bytes more : List ℕ) (f : FormatFault) (from : List ℕ) (b : Bool) → cond b (fine r bytes) (faulty (BoardModel × ℕ) NotRising bytes) ≡ faulty (BoardModel × ℕ) f from → cond b (fine r (bytes ++ more)) (faulty (BoardModel × ℕ) NotRising (bytes ++ more)) ≡ faulty (BoardModel × ℕ) f (from ++ more)
    wrong bytes more f from true e = absurd cc
    wrong bytes more f from false e = λ i. faulty (BoardModel × ℕ) (fault_is (BoardModel × ℕ) NotRising f bytes from e i) (err_is (BoardModel × ℕ) NotRising f bytes from e i ++ more)

row_lasts : (grid : ShapeModel) (before : Option BoardModel) → Lasts (row grid before)
unfolding row
row_lasts grid before = Lasts-as_one _ (Lasts-seq (board grid) _ (Lasts-field OutOfRange _ _) (λ b. Lasts-seq number _ (Lasts-field OutOfRange _ _) (λ g. order_lasts before (b, g))))

pub rows_last : (grid : ShapeModel) (before : Option BoardModel) (n : ℕ) → Lasts (rows grid before n)
unfolding rows
rows_last grid before zero = Lasts-give []
rows_last grid before (suc n) = Lasts-seq (row grid before) _ (row_lasts grid before) (λ first. Lasts-seq (rows grid (Some first.0) n) _ (rows_last grid (Some first.0) n) (λ others. Lasts-give (first ∷ others)))

-- ---- rows that are announced and missing

row_missing : (grid : ShapeModel) (before : Option BoardModel) → IsShape grid → row grid before [] ≡ faulty (BoardModel × ℕ) Truncated []
unfolding row as_one ◌>>=◌
row_missing grid before sides =
    ap (λ (r : Reading BoardModel). whole_reading [] (next_reading (λ b. number >>= λ g. row_order before (b, g)) r)) (field_short OutOfRange (cell_count grid) (board_from grid) [] (cells_above grid sides))

-- fewer rows than are due are cut off
pub rows_missing : (grid : ShapeModel) (before : Option BoardModel) (n : ℕ) → IsShape grid → IsBefore grid before → (done : List (BoardModel × ℕ)) → length done < n → AllByRecursion (IsRow grid) done → RiseAfter before done
    → IsCutOff (rows grid before n) (flat_map row_text done)
unfolding rows ◌>>=◌
rows_missing grid before zero sides is done few fit rising = absurd (omega (arith, few))
rows_missing grid before (suc n) sides is [] few fit rising = ([], ap (next_reading (λ (first : BoardModel × ℕ). rows grid (Some first.0) n >>= λ others. give (first ∷ others))) (row_missing grid before sides))
rows_missing grid before (suc n) sides is (r ∷ done) few fit rising =
    let q = rows_missing grid (Some r.0) n sides fit.0.board done (omega (arith, few)) fit.1 rising.1 in
    let first : row grid before (flat_map row_text (r ∷ done)) ≡ fine r (flat_map row_text done) =
    ap (row grid before) (flat_map-cons row_text r done) ∙ (row_law grid before sides is).again r (row_text r) (flat_map row_text done) (record { row = fit.0; follows = rising.0; is = refl }) in
    (q.0, ap (next_reading (λ (first : BoardModel × ℕ). rows grid (Some first.0) n >>= λ others. give (first ∷ others))) first ∙ ap (next_reading (λ (others : List (BoardModel × ℕ)). give (r ∷ others))) q.1)

-- ---- boards that rise by key, each with a cost, are rows of a certificate

-- they rise by their lists of tiles
module _ (order : KeysAreInOrder) (grid : ShapeModel) where
  rise_after : (b : BoardModel) (rows : List (BoardModel × ℕ)) → IsBoard b → b.grid ≡ grid → All (λ row. key_of b < key_of row.0) rows → All (λ row. IsBoard row.0 × (row.0.grid ≡ grid)) rows → AllPairs (λ row later. key_of row.0 < key_of later.0) rows → RiseAfter (Some b) rows
  rise_after b [] is sides first boards rising = tt
  rise_after b (row ∷ rows) is sides first boards rising =
      let here = boards 0 row (omega arith) in (
        (order b row.0 is here.0 (sides ∙ sym here.1)).0 (first 0 row (omega arith)),
        rise_after row.0 rows here.0 here.1 (λ k d in_range. rising 0 (suc k) d (omega arith) (omega (arith, in_range))) (λ k d in_range. boards (suc k) d (omega (arith, in_range))) (λ i j d before in_range. rising (suc i) (suc j) d (omega (arith, before)) (omega (arith, in_range))),
      )

  pub rise : (rows : List (BoardModel × ℕ)) → All (λ row. IsBoard row.0 × (row.0.grid ≡ grid)) rows → AllPairs (λ row later. key_of row.0 < key_of later.0) rows → RiseAfter None rows
  rise [] boards rising = tt
  rise (row ∷ rows) boards rising =
      let here = boards 0 row (omega arith) in
      (tt, rise_after row.0 rows here.0 here.1 (λ k d in_range. rising 0 (suc k) d (omega arith) (omega (arith, in_range))) (λ k d in_range. boards (suc k) d (omega (arith, in_range))) (λ i j d before in_range. rising (suc i) (suc j) d (omega (arith, before)) (omega (arith, in_range))))

-- each is a row that can be written
pub rows_fit : (grid : ShapeModel) (rows : List (BoardModel × ℕ)) → All (λ row. IsBoard row.0 × (row.0.grid ≡ grid)) rows → All (λ row. row.1 ≤ GREATEST_COST) rows → AllByRecursion (IsRow grid) rows
rows_fit grid rows boards low = recursion_from_All (IsRow grid) rows (λ k d in_range. record { board = record { board = (boards k d in_range).0; sides = (boards k d in_range).1 }; cost = low k d in_range })
