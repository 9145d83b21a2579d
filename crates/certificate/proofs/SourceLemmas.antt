-- Readers of a source that follow one another: the first refuses, or a later one does.
use Rattle.std.proofs.Common.{◌≡◌, ⊎_elim, Bool, false, cond, ℕ, zero, suc, ◌+◌, ◌<◌, List, [], ◌∷◌, ◌++◌, length, get_or, take, drop, map, Option, Some, None, Result, Ok, Err, refl, sym, ap, subst, ◌∙◌, append_assoc, append-nil, arith}
use Rattle.std.specs.Prelude.{IfSome, All}
use Rattle.std.specs.List.{flat_map, AllByRecursion}
use Rattle.std.proofs.KnownBytes.{Consumes-nil, Consumes-trans}
use Rattle.std.proofs.lemmas.List.{drop_more, take-append-drop}
use Rattle.std.proofs.lemmas.List.Concat.{flat_map-cons}
use Rattle.std.proofs.lemmas.List.Elements.{All-tail}
use Rattle.board.specs.declared.moves.Move.{Move}
use Rattle.board.specs.Shapes.{ShapeModel, IsShape}
use Rattle.board.specs.declared.costs.TheConstants.{GREATEST_COST}
use Rattle.board.specs.Boards.{BoardModel}
use Rattle.pattern_index.specs.Groups.{GroupModel, IsGroup}
use Rattle.pattern_index.specs.Partitions.{AreApart}
use Rattle.certificate.specs.Fields.{SpellsBoard, SpellsGroup, SpellsNumber, SpellsRow}
use Rattle.certificate.specs.declared.faults.FormatFault.{FormatFault}
use Rattle.certificate.specs.declared.faults.ReadFault.{ReadFault}
use Rattle.memory.specs.declared.OutOfMemory.{OutOfMemory}
use Rattle.certificate.specs.declared.faults.ReadFault.TheVariants.{Format, Failed, NoMemory}
use Rattle.certificate.specs.declared.faults.FormatFault.TheVariants.{Truncated, OutOfRange, NotRising}
use Rattle.certificate.specs.Certificates.{Follows, IsBoardOf, IsWithinLimit, IsRow, RiseAfter}
use Rattle.board.specs.Letters.{letter_of}
use Rattle.certificate.specs.Spellings.{group_text, number_text, row_text}
use Rattle.certificate.specs.Readings.{Reader, ◌>>=◌, next_reading, give, as_one, whole_reading, IsFaultOf, IsCutOff, HasNoFault, byte_within, byte_in, board, number, number_in, tiles, group, groups, may_follow, row_order, letter, letter_in, letters, row, rows, end}
use Rattle.byte_streams.specs.Streams.{SourceState, Change}
use Rattle.byte_streams.specs.Source.{Takes}
use Rattle.byte_streams.specs.Streams.{from_to}
use Rattle.certificate.specs.Sources.{Finds, StopsAt, RefusesAt, RefusesInput, ReadsField, RefusesAtEnd}
use Rattle.certificate.proofs.ReaderLemmas.{if_begun, if_left, if_format, all_after, field_short, last_split, not_order, Law, fine, faulty, one_fails}
use Rattle.certificate.proofs.TextLemmas.{letter_law, board_law, number_law, four_bytes}
use Rattle.certificate.proofs.RowLemmas.{row_law, sides_of, IsBefore}
use Rattle.certificate.proofs.GroupLemmas.{apart_pushed, first_group, group_law, none_apart, shape_of}

-- ---- what is passed on from a later reader to the whole

stops_carried : {X Y : Type 0} (r : Reader X) (s : Reader Y) (B C : List ℕ → Type 0) (text : List ℕ) (a b c : SourceState) → Takes (from_to a b) text → ((l : List ℕ) (g : FormatFault) → IsFaultOf r l g → IsFaultOf s (text ++ l) g) → ((l : List ℕ) → B l → C (text ++ l)) → (seen : List ℕ) (f : ReadFault)
    → StopsAt r B (from_to b c) seen f → StopsAt s C (from_to a c) (text ++ seen) f
stops_carried r s B C text a b c taken fault sound seen (Format g) w = record {
  at_end = λ e. all_after a.left b.left text seen taken (w.at_end e);
  at_byte = λ other. let p = w.at_byte other in (text ++ p.0, p.1, ap (λ (l : List ℕ). text ++ l) p.2 ∙ sym (append_assoc text p.0 (p.1 ∷ [])), sound p.0 p.3);
}
stops_carried r s B C text a b c taken fault sound seen Failed w = sound seen w
stops_carried r s B C text a b c taken fault sound seen (NoMemory refused) w = fault seen Truncated w

carried : {X Y : Type 0} (r : Reader X) (s : Reader Y) (B C : List ℕ → Type 0) (text : List ℕ) (a b c : SourceState) (f : ReadFault) → Takes (from_to a b) text → ((l : List ℕ) (g : FormatFault) → IsFaultOf r l g → IsFaultOf s (text ++ l) g)
    → ((l : List ℕ) → B l → C (text ++ l)) → RefusesAt r B (from_to b c) f → RefusesAt s C (from_to a c) f
carried r s B C text a b c f taken fault sound w = record {
  seen = text ++ w.seen;
  taken = Consumes-trans a.left b.left c.left text w.seen taken w.taken;
  is = if_format f (λ g. IsFaultOf r w.seen g) (λ g. IsFaultOf s (text ++ w.seen) g) (λ g p. fault w.seen g p) w.is;
  first = if_format f (λ g. IfSome b.left (λ input. IsFaultOf r input g)) (λ g. IfSome a.left (λ input. IsFaultOf s input g))
      (λ g p. if_left a.left b.left text (λ input. IsFaultOf r input g) (λ input. IsFaultOf s input g) taken (λ l q. fault l g q) p) w.first;
  stops = stops_carried r s B C text a b c taken fault sound w.seen f w.stops;
  failed = w.failed;
}

-- where what a reader finds wrong is wrong in the whole
carried_cut : {X Y : Type 0} (r : Reader X) (s : Reader Y) (text : List ℕ) (a b c : SourceState) (f : ReadFault) → Takes (from_to a b) text → ((l : List ℕ) (g : FormatFault) → IsFaultOf r l g → IsFaultOf s (text ++ l) g) → RefusesInput r (from_to b c) f → RefusesInput s (from_to a c) f
carried_cut r s text a b c f taken fault w = carried r s (λ bytes. IsCutOff r bytes) (λ bytes. IsCutOff s bytes) text a b c f taken fault (λ l cut. fault l Truncated cut) w

first_fault : {X Y : Type 0} (a : Reader X) (k : X → Reader Y) (l : List ℕ) (g : FormatFault) → IsFaultOf a l g → IsFaultOf (a >>= k) l g
unfolding ◌>>=◌
first_fault a k l g p = (p.0, ap (next_reading k) p.1)

pub first_refuses : {X Y : Type 0} {a : Reader X} (k : X → Reader Y) {source : Change SourceState} {f : ReadFault} → RefusesInput a source f → RefusesInput (a >>= k) source f
first_refuses {a = a} k {source = source} {f = f} r = carried_cut a (a >>= k) [] source.before source.before source.after f (Consumes-nil source.before.left) (λ l g p. first_fault a k l g p) r

again_at : {X Y : Type 0} (a : Reader X) (k : X → Reader Y) (A : X → List ℕ → Type 0) → Law a A → (x : X) (text : List ℕ) → A x text → (l : List ℕ) → (a >>= k) (text ++ l) ≡ k x l
unfolding ◌>>=◌
again_at a k A law x text t l = ap (next_reading k) (law.again x text l t)

pub then_refuses : {X Y : Type 0} {a : Reader X} (k : X → Reader Y) {A : X → List ℕ → Type 0} {old mid new : SourceState} {f : ReadFault} {x : X} → Law a A → Finds A (from_to old mid) x → RefusesInput (k x) (from_to mid new) f → RefusesInput (a >>= k) (from_to old new) f
then_refuses {a = a} k {A = A} {old = old} {mid = mid} {new = new} {f = f} {x = x} law p r = carried_cut (k x) (a >>= k) p.text old mid new f p.taken (λ l g q. (q.0, again_at a k A law x p.text p.spells l ∙ q.1)) r

pub as_one_refuses : {X : Type 0} {r : Reader X} {source : Change SourceState} {f : ReadFault} → RefusesInput r source f → RefusesInput (as_one r) source f
unfolding as_one
as_one_refuses {r = reader} {source = source} {f = f} r = carried_cut reader (as_one reader) [] source.before source.before source.after f (Consumes-nil source.before.left) (λ l g p. blamed_at l g p) r
  where
    blamed_at : (l : List ℕ) (g : FormatFault) → IsFaultOf reader l g → IsFaultOf (as_one reader) l g
    blamed_at l g p = (l, ap (whole_reading l) p.1)

-- ---- what was found, said otherwise, and one after the other

pub found_as : {X Y : Type 0} {A : X → List ℕ → Type 0} {B : Y → List ℕ → Type 0} {source : Change SourceState} {x : X} {y : Y} → ((text : List ℕ) → A x text → B y text) → Finds A source x → Finds B source y
found_as h p = record { text = p.text; spells = h p.text p.spells; taken = p.taken; on = p.on }

pub found_after : {X Y Z : Type 0} {A : X → List ℕ → Type 0} {B : Y → List ℕ → Type 0} {C : Z → List ℕ → Type 0} {a b c : SourceState} {x : X} {y : Y} {z : Z} → ((s t : List ℕ) → A x s → B y t → C z (s ++ t)) → Finds A (from_to a b) x → Finds B (from_to b c) y
    → Finds C (from_to a c) z
found_after {a = a} {b = b} {c = c} h p q = record {
  text = p.text ++ q.text;
  spells = h p.text q.text p.spells q.spells;
  taken = Consumes-trans a.left b.left c.left p.text q.text p.taken q.taken;
  on = (p.on.0, q.on.1);
}

-- a first field was found, and a second reader ends the whole
pub reads_after : {X Y Z : Type 0} {a : Reader X} (k : X → Reader Y) {A : X → List ℕ → Type 0} (B C : Z → List ℕ → Type 0) {old mid : SourceState} (new : SourceState) {x : X} (r : Result Z ReadFault)
    → Law a A → ((z : Z) (s t : List ℕ) → A x s → B z t → C z (s ++ t)) → Finds A (from_to old mid) x → ReadsField (k x) B (from_to mid new) r → ReadsField (a >>= k) C (from_to old new) r
reads_after k B C new (Ok z) law both p q = found_after (both z) p q
reads_after k B C new (Err f) law both p q = then_refuses k law p q

-- ---- the end, and what is looked for there

one_fault : {X : Type 0} (r : Reader X) (l : List ℕ) (f g : FormatFault) → IsFaultOf r l f → IsFaultOf r l g → g ≡ f
one_fault {X = X} r l f g p q =
    let x : FormatFault × List ℕ = (f, p.0) in
    let y : FormatFault × List ℕ = (g, q.0) in
    let both : faulty X f p.0 ≡ faulty X g q.0 = sym p.1 ∙ q.1 in
    let same : x ≡ y = cc in
    ap (λ (z : FormatFault × List ℕ). z.0) (sym same)

pub before_end : {X : Type 0} {r : Reader X} {source : Change SourceState} {f : ReadFault} → RefusesInput r source f → RefusesAtEnd r source f
before_end {r = reader} {source = source} {f = f} r =
    carried reader reader (λ bytes. IsCutOff reader bytes) (λ bytes. HasNoFault reader bytes) [] source.before source.before source.after f (Consumes-nil source.before.left) (λ l g p. p) (λ l cut g p. one_fault reader l Truncated g cut p) r

pub then_at_end : {X Y : Type 0} {a : Reader X} (k : X → Reader Y) {A : X → List ℕ → Type 0} {old mid new : SourceState} {f : ReadFault} {x : X} → Law a A → Finds A (from_to old mid) x → RefusesAtEnd (k x) (from_to mid new) f → RefusesAtEnd (a >>= k) (from_to old new) f
then_at_end {a = a} k {A = A} {old = old} {mid = mid} {new = new} {f = f} {x = x} law p r =
    carried (k x) (a >>= k) (λ bytes. HasNoFault (k x) bytes) (λ bytes. HasNoFault (a >>= k) bytes) p.text old mid new f p.taken (λ l g q. (q.0, again_at a k A law x p.text p.spells l ∙ q.1))
    (λ l sound g q. sound g (q.0, sym (again_at a k A law x p.text p.spells l) ∙ q.1)) r

-- nothing is read after the end
pub end_refuses : {Y : Type 0} (value : Unit {0} → Y) {source : Change SourceState} {f : ReadFault} → RefusesAtEnd end source f → RefusesAtEnd (end >>= λ u. give (value u)) source f
unfolding ◌>>=◌ give
end_refuses {Y = Y} value {source = source} {f = f} r =
    carried end (end >>= λ u. give (value u)) (λ bytes. HasNoFault end bytes) (λ bytes. HasNoFault (end >>= λ u. give (value u)) bytes) [] source.before source.before source.after f (Consumes-nil source.before.left)
    (λ l g p. first_fault end (λ u. give (value u)) l g p) (λ l sound g p. by_end l sound g p) r
  where
    never : (y : Y) (l : List ℕ) (g : FormatFault) (from : List ℕ) → fine y l ≡ faulty Y g from → ⊥
    never y l g from e = absurd cc

    by_end : (l : List ℕ) → HasNoFault end l → HasNoFault (end >>= λ u. give (value u)) l
    by_end l sound g p = ⊎_elim (λ failed. sound g (p.0, failed)) (λ q. absurd (never (value q.0.0) q.0.1 g p.0 q.2)) (one_fails (end l) (λ (u : Unit {0}). give (value u)) (g, p.0) p.1)

-- ---- a row that does not come after the one before it

row_falls : (grid : ShapeModel) (before : Option BoardModel) → IsShape grid → (b : BoardModel) (n : ℕ) → IsBoardOf grid b → IsWithinLimit n → may_follow before b ≡ false → (rest : List ℕ) → IsFaultOf (row grid before) (b.tiles ++ (number_text n ++ rest)) NotRising
unfolding row row_order as_one
row_falls grid before sides b n is within falls rest =
    let bytes = b.tiles ++ (number_text n ++ rest) in
    let late : row_order before (b, n) rest ≡ faulty (BoardModel × ℕ) NotRising rest = ap (λ (up : Bool). cond up (fine (b, n) rest) (faulty (BoardModel × ℕ) NotRising rest)) falls in (
      bytes,
      ap (whole_reading bytes)
          (again_at (board grid) (λ b. number >>= λ n. row_order before (b, n)) (SpellsBoard grid) (board_law grid sides) b b.tiles (record { board = is; is = refl }) (number_text n ++ rest)
          ∙ again_at number (λ n. row_order before (b, n)) SpellsNumber number_law n (number_text n) (record { within = within; is = refl }) rest ∙ late),
    )

row_cut : (grid : ShapeModel) (before : Option BoardModel) → IsShape grid → (b : BoardModel) → IsBoardOf grid b → (rest : List ℕ) → length rest < 4 → IsCutOff (row grid before) (b.tiles ++ rest)
unfolding row as_one
row_cut grid before sides b is rest few =
    let bytes = b.tiles ++ rest in
    let cut = first_fault number (λ n. row_order before (b, n)) rest Truncated (rest, field_short OutOfRange 4 (number_in GREATEST_COST) rest few) in
    (bytes, ap (whole_reading bytes) (again_at (board grid) (λ b. number >>= λ n. row_order before (b, n)) (SpellsBoard grid) (board_law grid sides) b b.tiles (record { board = is; is = refl }) rest ∙ cut.1))

pub row_refuses : (grid : ShapeModel) (before : Option BoardModel) (b : BoardModel) (n : ℕ) (old mid new : SourceState) → Finds (SpellsBoard grid) (from_to old mid) b → Finds SpellsNumber (from_to mid new) n → may_follow before b ≡ false → RefusesInput (row grid before) (from_to old new) (Format NotRising)
row_refuses grid before b n old mid new p q falls =
    let is = p.spells.board in
    let sides = sides_of grid b is in
    let within = q.spells.within in
    let taken : Takes (from_to old new) (b.tiles ++ number_text n) = subst (λ (l : List ℕ). Takes (from_to old new) l) (λ i. p.spells.is i ++ q.spells.is i) (Consumes-trans old.left mid.left new.left p.text q.text p.taken q.taken) in
    record {
      seen = b.tiles ++ number_text n;
      taken = taken;
      is = subst (λ (l : List ℕ). IsFaultOf (row grid before) (b.tiles ++ l) NotRising) (append-nil (number_text n)) (row_falls grid before sides b n is within falls []);
      first = if_begun old.left new.left (b.tiles ++ number_text n) (λ input. IsFaultOf (row grid before) input NotRising) taken
          (λ rest. subst (λ (l : List ℕ). IsFaultOf (row grid before) l NotRising) (sym (append_assoc b.tiles (number_text n) rest)) (row_falls grid before sides b n is within falls rest));
      stops = record {
        at_end = λ e. absurd (not_order e);
        at_byte = λ _.
            let p = last_split (number_text n) (omega (arith, four_bytes n)) in
            (b.tiles ++ p.0, p.1, ap (λ (l : List ℕ). b.tiles ++ l) p.2 ∙ sym (append_assoc b.tiles p.0 (p.1 ∷ [])), row_cut grid before sides b is p.0 (omega (arith, p.3, four_bytes n)));
      };
      failed = q.on.1;
    }

-- ---- several letters

letters_at : (done : List Move) (n : ℕ) (rest : List ℕ) (f : FormatFault × List ℕ) → length done < n → letter rest ≡ Err f → letters n (map letter_of done ++ rest) ≡ Err f
unfolding letters ◌>>=◌
letters_at done zero rest f fewer fails = absurd (omega (arith, fewer))
letters_at [] (suc n) rest f fewer fails = ap (next_reading (λ m. letters n >>= λ ms. give (m ∷ ms))) fails
letters_at (m ∷ done) (suc n) rest f fewer fails =
    ap (next_reading (λ m. letters n >>= λ ms. give (m ∷ ms))) (letter_law.again m (letter_of m ∷ []) (map letter_of done ++ rest) refl)
    ∙ ap (next_reading (λ ms. give (m ∷ ms))) (letters_at done n rest f (omega (arith, fewer)) fails)

pub letters_refuse : (done : List Move) (n : ℕ) (old mid new : SourceState) (f : ReadFault) → length done < n → Takes (from_to old mid) (map letter_of done) → RefusesInput letter (from_to mid new) f → RefusesInput (letters n) (from_to old new) f
letters_refuse done n old mid new f fewer taken r = carried_cut letter (letters n) (map letter_of done) old mid new f taken (λ l g p. (p.0, letters_at done n l (g, p.0) fewer p.1)) r

-- ---- several groups

pub groups_text_pushed : (gs : List GroupModel) (g : GroupModel) → flat_map group_text (gs ++ g ∷ []) ≡ flat_map group_text gs ++ group_text g
groups_text_pushed [] g = flat_map-cons group_text g [] ∙ append-nil (group_text g)
groups_text_pushed (h ∷ gs) g = flat_map-cons group_text h (gs ++ g ∷ []) ∙ ap (λ (l : List ℕ). group_text h ++ l) (groups_text_pushed gs g) ∙ sym (append_assoc (group_text h) (flat_map group_text gs) (group_text g)) ∙ ap (λ (l : List ℕ). l ++ group_text g) (sym (flat_map-cons group_text h gs))

groups_at : (grid : ShapeModel) (before done : List GroupModel) (n : ℕ) (rest : List ℕ) (f : FormatFault × List ℕ) → AreApart before → length done < n → All (λ g. IsGroup g) done → All (λ g. g.grid ≡ grid) done → AreApart (before ++ done)
    → group grid (before ++ done) rest ≡ Err f → groups grid before n (flat_map group_text done ++ rest) ≡ Err f
unfolding groups ◌>>=◌
groups_at grid before done zero rest f apart fewer all sides both fails = absurd (omega (arith, fewer))
groups_at grid before [] (suc n) rest f apart fewer all sides both fails =
    ap (next_reading (λ first. groups grid (before ++ first ∷ []) n >>= λ others. give (first ∷ others))) (subst (λ (l : List GroupModel). group grid l rest ≡ Err f) (append-nil before) fails)
groups_at grid before (g ∷ done) (suc n) rest f apart fewer all sides both fails =
    let text : flat_map group_text (g ∷ done) ++ rest ≡ group_text g ++ (flat_map group_text done ++ rest) = ap (λ (l : List ℕ). l ++ rest) (flat_map-cons group_text g done) ∙ append_assoc (group_text g) (flat_map group_text done) rest in
    let t : SpellsGroup grid before g (group_text g) = first_group grid before g done all sides both in
    let more : AreApart ((before ++ g ∷ []) ++ done) = subst (λ (l : List GroupModel). AreApart l) (sym (append_assoc before (g ∷ []) done)) both in
    let later : group grid ((before ++ g ∷ []) ++ done) rest ≡ Err f = subst (λ (l : List GroupModel). group grid l rest ≡ Err f) (sym (append_assoc before (g ∷ []) done)) fails in
    ap (groups grid before (suc n)) text
    ∙ ap (next_reading (λ first. groups grid (before ++ first ∷ []) n >>= λ others. give (first ∷ others))) ((group_law grid before (shape_of grid before g t.next)).again g (group_text g) (flat_map group_text done ++ rest) t)
    ∙ ap (next_reading (λ others. give (g ∷ others)))
    (groups_at grid (before ++ g ∷ []) done n rest f (apart_pushed before g apart t.next.apart) (omega (arith, fewer)) (All-tail (λ (h : GroupModel). IsGroup h) g done all) (All-tail (λ (h : GroupModel). h.grid ≡ grid) g done sides) more later)

pub groups_refuse : (grid : ShapeModel) (done : List GroupModel) (n : ℕ) (old mid new : SourceState) (f : ReadFault) → length done < n → All (λ g. IsGroup g) done → All (λ g. g.grid ≡ grid) done → AreApart done
    → Takes (from_to old mid) (flat_map group_text done) → RefusesInput (group grid done) (from_to mid new) f → RefusesInput (groups grid [] n) (from_to old new) f
groups_refuse grid done n old mid new f fewer all sides apart taken r = carried_cut (group grid done) (groups grid [] n) (flat_map group_text done) old mid new f taken (λ l g p. (p.0, groups_at grid [] done n l (g, p.0) none_apart fewer all sides apart p.1)) r

-- ---- several rows

-- the board of the last row
abbrev pub last_of : Option BoardModel → List (BoardModel × ℕ) → Option BoardModel
last_of before [] = before
last_of before (r ∷ rs) = last_of (Some r.0) rs

pub last_pushed : (before : Option BoardModel) (rs : List (BoardModel × ℕ)) (r : BoardModel × ℕ) → last_of before (rs ++ r ∷ []) ≡ Some r.0
last_pushed before [] r = refl
last_pushed before (s ∷ rs) r = last_pushed (Some s.0) rs r

pub rise_pushed : (before : Option BoardModel) (rs : List (BoardModel × ℕ)) (r : BoardModel × ℕ) → RiseAfter before rs → Follows (last_of before rs) r.0 → RiseAfter before (rs ++ r ∷ [])
rise_pushed before [] r rise follows = (follows, tt)
rise_pushed before (s ∷ rs) r rise follows = (rise.0, rise_pushed (Some s.0) rs r rise.1 follows)

pub rows_pushed : (grid : ShapeModel) (rs : List (BoardModel × ℕ)) (r : BoardModel × ℕ) → AllByRecursion (IsRow grid) rs → IsRow grid r → AllByRecursion (IsRow grid) (rs ++ r ∷ [])
rows_pushed grid [] r all is = (is, tt)
rows_pushed grid (s ∷ rs) r all is = (all.0, rows_pushed grid rs r all.1 is)

pub text_pushed : (rs : List (BoardModel × ℕ)) (r : BoardModel × ℕ) → flat_map row_text (rs ++ r ∷ []) ≡ flat_map row_text rs ++ row_text r
text_pushed [] r = flat_map-cons row_text r [] ∙ append-nil (row_text r)
text_pushed (s ∷ rs) r = flat_map-cons row_text s (rs ++ r ∷ []) ∙ ap (λ (l : List ℕ). row_text s ++ l) (text_pushed rs r) ∙ sym (append_assoc (row_text s) (flat_map row_text rs) (row_text r)) ∙ ap (λ (l : List ℕ). l ++ row_text r) (sym (flat_map-cons row_text s rs))

rows_at : (grid : ShapeModel) (before : Option BoardModel) → IsBefore grid before → (done : List (BoardModel × ℕ)) (n : ℕ) (rest : List ℕ) (f : FormatFault × List ℕ) → length done < n → AllByRecursion (IsRow grid) done → RiseAfter before done
    → row grid (last_of before done) rest ≡ Err f → rows grid before n (flat_map row_text done ++ rest) ≡ Err f
unfolding rows ◌>>=◌
rows_at grid before is done zero rest f fewer all rise fails = absurd (omega (arith, fewer))
rows_at grid before is [] (suc n) rest f fewer all rise fails = ap (next_reading (λ first. rows grid (Some first.0) n >>= λ others. give (first ∷ others))) fails
rows_at grid before is (r ∷ done) (suc n) rest f fewer all rise fails =
    let text : flat_map row_text (r ∷ done) ++ rest ≡ row_text r ++ (flat_map row_text done ++ rest) = ap (λ (l : List ℕ). l ++ rest) (flat_map-cons row_text r done) ∙ append_assoc (row_text r) (flat_map row_text done) rest in
    let t : SpellsRow grid before r (row_text r) = record { row = all.0; follows = rise.0; is = refl } in
    ap (rows grid before (suc n)) text
    ∙ ap (next_reading (λ first. rows grid (Some first.0) n >>= λ others. give (first ∷ others))) ((row_law grid before (sides_of grid r.0 all.0.board) is).again r (row_text r) (flat_map row_text done ++ rest) t)
    ∙ ap (next_reading (λ others. give (r ∷ others))) (rows_at grid (Some r.0) all.0.board done n rest f (omega (arith, fewer)) all.1 rise.1 fails)

pub rows_refuse : (grid : ShapeModel) (done : List (BoardModel × ℕ)) (n : ℕ) (old mid new : SourceState) (f : ReadFault) → length done < n → AllByRecursion (IsRow grid) done → RiseAfter None done
    → Takes (from_to old mid) (flat_map row_text done) → RefusesInput (row grid (last_of None done)) (from_to mid new) f → RefusesInput (rows grid None n) (from_to old new) f
rows_refuse grid done n old mid new f fewer all rise taken r = carried_cut (row grid (last_of None done)) (rows grid None n) (flat_map row_text done) old mid new f taken (λ l g p. (p.0, rows_at grid None tt done n l (g, p.0) fewer all rise p.1)) r

pub last_is_board : (grid : ShapeModel) (before : Option BoardModel) (rs : List (BoardModel × ℕ)) → IsBefore grid before → AllByRecursion (IsRow grid) rs → IsBefore grid (last_of before rs)
last_is_board grid before [] is all = is
last_is_board grid before (r ∷ rs) is all = last_is_board grid (Some r.0) rs all.0.board all.1

-- ---- memory is refused where bytes are due

lacks_memory : {X : Type 0} {r : Reader X} (source : Change SourceState) (text : List ℕ) → Takes source text → IsCutOff r text → source.after.has_failed ≡ false → (refused : OutOfMemory) → RefusesInput r source (NoMemory refused)
lacks_memory source text taken cut fine refused = record { seen = text; taken = taken; is = tt; first = tt; stops = cut; failed = fine }

-- before a letter
pub letters_lack_memory : (done : List Move) (n : ℕ) (source : Change SourceState) → length done < n → Takes source (map letter_of done) → source.after.has_failed ≡ false → (refused : OutOfMemory) → RefusesInput (letters n) source (NoMemory refused)
letters_lack_memory done n source fewer taken fine refused =
    let cut : IsCutOff (letters n) (map letter_of done ++ []) = ([], letters_at done n [] (Truncated, []) fewer (field_short OutOfRange 1 letter_in [] (omega arith))) in
    lacks_memory source (map letter_of done) taken (subst (λ (l : List ℕ). IsCutOff (letters n) l) (append-nil (map letter_of done)) cut) fine refused

-- before a group
pub groups_lack_memory : (grid : ShapeModel) (done : List GroupModel) (n : ℕ) (source : Change SourceState) → length done < n → All (λ g. IsGroup g) done → All (λ g. g.grid ≡ grid) done → AreApart done → Takes source (flat_map group_text done) → source.after.has_failed ≡ false → (refused : OutOfMemory)
    → RefusesInput (groups grid [] n) source (NoMemory refused)
unfolding group
groups_lack_memory grid done n source fewer all sides apart taken fine refused =
    let none : IsFaultOf (group grid done) [] Truncated = first_fault (byte_within 1 24) (λ n. tiles grid done n) [] Truncated ([], field_short OutOfRange 1 (byte_in 1 24) [] (omega arith)) in
    let cut : IsCutOff (groups grid [] n) (flat_map group_text done ++ []) = (none.0, groups_at grid [] done n [] (Truncated, none.0) none_apart fewer all sides apart none.1) in
    lacks_memory source (flat_map group_text done) taken (subst (λ (l : List ℕ). IsCutOff (groups grid [] n) l) (append-nil (flat_map group_text done)) cut) fine refused

-- between the board of a row and its cost
pub row_lacks_memory : (grid : ShapeModel) (before : Option BoardModel) (b : BoardModel) (source : Change SourceState) → Finds (SpellsBoard grid) source b → (refused : OutOfMemory) → RefusesInput (row grid before) source (NoMemory refused)
row_lacks_memory grid before b source p refused =
    let is = p.spells.board in
    let cut : IsCutOff (row grid before) (b.tiles ++ []) = row_cut grid before (sides_of grid b is) b is [] (omega arith) in
    lacks_memory source p.text p.taken (subst (λ (l : List ℕ). IsCutOff (row grid before) l) (append-nil b.tiles ∙ sym p.spells.is) cut) p.on.1 refused

-- ---- a row among others

rows_split : (rows : List (BoardModel × ℕ)) (i : ℕ) (d : BoardModel × ℕ) → i < length rows → rows ≡ take i rows ++ get_or rows i d ∷ drop (i + 1) rows
rows_split rows i d within = sym (take-append-drop i rows) ∙ ap (λ (l : List (BoardModel × ℕ)). take i rows ++ l) (drop_more rows i d within)

all_middle : (grid : ShapeModel) (xs : List (BoardModel × ℕ)) (r : BoardModel × ℕ) (ys : List (BoardModel × ℕ)) → AllByRecursion (IsRow grid) (xs ++ r ∷ ys) → IsRow grid r
all_middle grid [] r ys all = all.0
all_middle grid (x ∷ xs) r ys all = all_middle grid xs r ys all.1

rise_middle : (before : Option BoardModel) (xs : List (BoardModel × ℕ)) (r : BoardModel × ℕ) (ys : List (BoardModel × ℕ)) → RiseAfter before (xs ++ r ∷ ys) → Follows (last_of before xs) r.0
rise_middle before [] r ys rise = rise.0
rise_middle before (x ∷ xs) r ys rise = rise_middle (Some x.0) xs r ys rise.1

-- each row of rows that rise is one, and comes after those before it
pub row_there : (grid : ShapeModel) (rows : List (BoardModel × ℕ)) (i : ℕ) (r : BoardModel × ℕ) → i < length rows → r ≡ get_or rows i r → AllByRecursion (IsRow grid) rows × RiseAfter None rows → IsRow grid r × Follows (last_of None (take i rows)) r.0
row_there grid rows i r within is p =
    let split : rows ≡ take i rows ++ r ∷ drop (i + 1) rows = rows_split rows i r within ∙ ap (λ (x : BoardModel × ℕ). take i rows ++ x ∷ drop (i + 1) rows) (sym is) in (
      all_middle grid (take i rows) r (drop (i + 1) rows) (subst (λ (l : List (BoardModel × ℕ)). AllByRecursion (IsRow grid) l) split p.0),
      rise_middle None (take i rows) r (drop (i + 1) rows) (subst (λ (l : List (BoardModel × ℕ)). RiseAfter None l) split p.1),
    )
