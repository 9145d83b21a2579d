-- Readers of a value, fields of a source, and writes to a sink, one after the other.
use Rattle.std.proofs.Common.{◌≡◌, ◌⊎◌, inl, inr, ⊎_elim, ℕ, ◌≤◌, Bool, true, false, cond, ltb, List, [], ◌∷◌, ◌++◌, length, take, drop, Option, Some, None, Ok, Err, refl, sym, ap, subst, ◌∙◌, append_assoc, arith, ◌≢◌, ◌+◌, ◌<◌, leb, get_or, Result, append-nil, map}
use Rattle.std.proofs.lemmas.Bool.{le-ltb, ltb-false, lt-ltb, lt-leb}
use Rattle.std.proofs.lemmas.List.{take_at, drop_at, take-append-drop, length-append, length-take, drop_more, map-append}
use Rattle.std.specs.Prelude.{IfSome, IsErrAnd, not, codes}
use Rattle.std.specs.Io.KnownBytes.{Consumes, IsAtEnd, Keeps}
use Rattle.std.proofs.KnownBytes.{Consumes-trans, Consumes-nil, Consumes-kept}
use Rattle.std.proofs.Math.Bool.{and-false}
use Rattle.std.specs.Int.{w32, w64, from_le_bytes}
use Rattle.std.proofs.lemmas.Nat.{le_bytes_4, le_bytes_8}
use Rattle.std.specs.Str.{bytes_eq}
use Rattle.std.specs.List.{flat_map}
use Rattle.std.proofs.lemmas.List.Concat.{flat_map-cons, flat_map-append}
use Rattle.board.specs.declared.moves.Move.{Move}
use Rattle.board.specs.Boards.{BoardModel}
use Rattle.board.specs.Letters.{letter_of}
use Rattle.pattern_index.specs.Groups.{GroupModel}
use Rattle.byte_streams.specs.Streams.{SourceState, Change, from_to, SinkState}
use Rattle.byte_streams.specs.Source.{Takes, ReadsOn, TakesNone, IsEnded}
use Rattle.byte_streams.specs.Sink.{WritesAll, FailsWriting, Writes}
use Rattle.byte_streams.proofs.SinkLemmas.{Writes-after, FailsWriting-longer}
use Rattle.certificate.specs.declared.faults.FormatFault.{FormatFault}
use Rattle.certificate.specs.declared.faults.FormatFault.TheVariants.{Truncated, OtherMagic, OutOfRange, NotRising, BytesAfterEnd}
use Rattle.certificate.specs.Readings.{Reading, Reader, ◌>>=◌, next_reading, give, field, field_reading, as_one, whole_reading, IsFaultOf, IsCutOff, number_in, byte_in, version_in, end, HasNoFault}
use Rattle.certificate.specs.Laws.{AreBytes}
use Rattle.certificate.specs.declared.faults.ReadFault.{ReadFault}
use Rattle.certificate.specs.declared.faults.ReadFault.TheVariants.{Format, Failed, NoMemory}
use Rattle.certificate.specs.Spellings.{number_text, count_text, group_text, row_text}
use Rattle.certificate.specs.Sources.{IfFormat, EndsEarly, TakesDue, Finds, StopsAt, RefusesInput, ReadsField, RefusesAtEnd, ReadsAll, FindsAll}

-- ---- readers: what spells a value is read as that value, and what comes before a fault begins a text of the reader

pub AreBytes-front : (xs ys : List ℕ) → AreBytes (xs ++ ys) → AreBytes xs
AreBytes-front [] ys all = tt
AreBytes-front (x ∷ xs) ys all = (all.0, AreBytes-front xs ys all.1)

pub AreBytes-rest : (xs ys : List ℕ) → AreBytes (xs ++ ys) → AreBytes ys
AreBytes-rest [] ys all = all
AreBytes-rest (x ∷ xs) ys all = AreBytes-rest xs ys all.1

-- the texts of values, both ways
pub record Law {X : Type 0} (reader : Reader X) (Text : X → List ℕ → Type 0) : Type 0 where
  pub again : (x : X) (text rest : List ℕ) → Text x text → reader (text ++ rest) ≡ Ok (x, rest)
  pub takes : (bytes : List ℕ) → AreBytes bytes → (x : X) (rest : List ℕ) → reader bytes ≡ Ok (x, rest) → (text : List ℕ) × Text x text × (bytes ≡ text ++ rest)

-- some value has a text, and what comes before a fault begins such a text
pub record Opens {X : Type 0} (reader : Reader X) (Text : X → List ℕ → Type 0) : Type 0 where
  pub some : (x : X) × (text : List ℕ) × Text x text
  pub before : (bytes : List ℕ) → AreBytes bytes → (fault : FormatFault) (from : List ℕ) → reader bytes ≡ Err (fault, from)
      → (front after : List ℕ) × (x : X) × (bytes ≡ front ++ from) × Text x (front ++ after)

-- ---- the same texts, said otherwise

pub Law-iff : {X : Type 0} (reader : Reader X) (S T : X → List ℕ → Type 0) → ((x : X) (t : List ℕ) → S x t → T x t) → ((x : X) (t : List ℕ) → T x t → S x t) → Law reader S → Law reader T
Law-iff reader S T there back law = record {
  again = λ x text rest p. law.again x text rest (back x text p);
  takes = λ bytes all x rest e. let q = law.takes bytes all x rest e in (q.0, there x q.0 q.1, q.2);
}

pub Opens-iff : {X : Type 0} (reader : Reader X) (S T : X → List ℕ → Type 0) → ((x : X) (t : List ℕ) → S x t → T x t) → Opens reader S → Opens reader T
Opens-iff reader S T there opens = record {
  some = (opens.some.0, opens.some.1, there _ _ opens.some.2);
  before = λ bytes all fault from e. let q = opens.before bytes all fault from e in (q.0, q.1, q.2, q.3, there _ _ q.4);
}

-- ---- one after the other

abbrev pub Both : {X Y : Type 0} → (X → List ℕ → Type 0) → (X → Y → List ℕ → Type 0) → Y → List ℕ → Type 0
Both {X} {Y} A B y text = (x : X) × (s t : List ℕ) × A x s × B x y t × (text ≡ s ++ t)

-- the first reader's value, where both succeed
pub both_ok : {X Y : Type 0} (r : Reading X) (k : X → Reader Y) (y : Y × List ℕ) → next_reading k r ≡ Ok y → (p : X × List ℕ) × (r ≡ Ok p) × (k p.0 p.1 ≡ Ok y)
both_ok (Ok p) k y e = (p, refl, e)
both_ok (Err f) k y e = absurd cc

pub one_fails : {X Y : Type 0} (r : Reading X) (k : X → Reader Y) (f : FormatFault × List ℕ) → next_reading k r ≡ Err f
    → (r ≡ Err f) ⊎ ((p : X × List ℕ) × (r ≡ Ok p) × (k p.0 p.1 ≡ Err f))
one_fails (Ok p) k f e = inr (p, refl, e)
one_fails (Err g) k f e = inl cc

pub Law-seq : {X Y : Type 0} (a : Reader X) (k : X → Reader Y) (A : X → List ℕ → Type 0) (B : X → Y → List ℕ → Type 0) → Law a A → ((x : X) (s : List ℕ) → A x s → Law (k x) (B x)) → Law (a >>= k) (Both A B)
unfolding ◌>>=◌
Law-seq a k A B first next = record {
  again = λ y text rest p.
      let apart : text ++ rest ≡ p.1 ++ (p.2 ++ rest) = ap (λ (l : List ℕ). l ++ rest) p.5 ∙ append_assoc p.1 p.2 rest in
      ap (λ (l : List ℕ). next_reading k (a l)) apart ∙ ap (next_reading k) (first.again p.0 p.1 (p.2 ++ rest) p.3) ∙ (next p.0 p.1 p.3).again y p.2 rest p.4;
  takes = λ bytes all y rest e.
      let r = both_ok (a bytes) k (y, rest) e in
      let p = first.takes bytes all r.0.0 r.0.1 r.1 in
      let left : AreBytes r.0.1 = AreBytes-rest p.0 r.0.1 (subst (λ (l : List ℕ). AreBytes l) p.2 all) in
      let q = (next r.0.0 p.0 p.1).takes r.0.1 left y rest r.2 in
      (p.0 ++ q.0, (r.0.0, p.0, q.0, p.1, q.1, refl), p.2 ∙ ap (λ (l : List ℕ). p.0 ++ l) q.2 ∙ sym (append_assoc p.0 q.0 rest));
}

pub Opens-seq : {X Y : Type 0} (a : Reader X) (k : X → Reader Y) (A : X → List ℕ → Type 0) (B : X → Y → List ℕ → Type 0) → Law a A → Opens a A → ((x : X) (s : List ℕ) → A x s → Opens (k x) (B x)) → Opens (a >>= k) (Both A B)
unfolding ◌>>=◌
Opens-seq a k A B law first next = record {
  some =
      let p = first.some in
      let q = (next p.0 p.1 p.2).some in
      (q.0, p.1 ++ q.1, (p.0, p.1, q.1, p.2, q.2, refl));
  before = λ bytes all fault from e.
      ⊎_elim
      (λ failed.
      let p = first.before bytes all fault from failed in
      let q = (next p.2 (p.0 ++ p.1) p.4).some in
      (p.0, p.1 ++ q.1, q.0, p.3, (p.2, p.0 ++ p.1, q.1, p.4, q.2, sym (append_assoc p.0 p.1 q.1))))
      (λ r.
      let p = law.takes bytes all r.0.0 r.0.1 r.1 in
      let left : AreBytes r.0.1 = AreBytes-rest p.0 r.0.1 (subst (λ (l : List ℕ). AreBytes l) p.2 all) in
      let q = (next r.0.0 p.0 p.1).before r.0.1 left fault from r.2 in
      (p.0 ++ q.0, q.1, q.2, p.2 ∙ ap (λ (l : List ℕ). p.0 ++ l) q.3 ∙ sym (append_assoc p.0 q.0 from), (r.0.0, p.0, q.0 ++ q.1, p.1, q.4, append_assoc p.0 q.0 q.1)))
      (one_fails (a bytes) k (fault, from) e);
}

-- ---- nothing is read

abbrev pub Known : {X : Type 0} → X → X → List ℕ → Type 0
Known x y text = (y ≡ x) × (text ≡ [])

abbrev pub fine : {X : Type 0} → X → List ℕ → Reading X
fine x s = Ok (x, s)

abbrev pub faulty : (X : Type 0) → FormatFault → List ℕ → Reading X
faulty X f s = Err (f, s)

ok_is : {X : Type 0} (x y : X) (s t : List ℕ) → fine x s ≡ fine y t → (x ≡ y) × (s ≡ t)
ok_is {X = X} x y s t e =
    let p : X × List ℕ = (x, s) in
    let q : X × List ℕ = (y, t) in
    let same : p ≡ q = cc in
    (ap (λ (z : X × List ℕ). z.0) same, ap (λ (z : X × List ℕ). z.1) same)

pub Law-give : {X : Type 0} (x : X) → Law (give x) (Known x)
unfolding give
Law-give x = record {
  again = λ y text rest p. λ i. Ok (sym p.0 i, p.1 i ++ rest);
  takes = λ bytes all y rest e. let p = ok_is x y bytes rest e in ([], (sym p.0, refl), p.1);
}

pub Opens-give : {X : Type 0} (x : X) → Opens (give x) (Known x)
unfolding give
Opens-give x = record { some = (x, [], (refl, refl)); before = λ bytes all fault from e. absurd cc }

-- ---- a field

pub Law-field : {X : Type 0} (fault : FormatFault) (n : ℕ) (value : List ℕ → Option X) (S : X → List ℕ → Type 0)
    → ((x : X) (text : List ℕ) → S x text → (length text ≡ n) × (value text ≡ Some x))
    → ((x : X) (text : List ℕ) → AreBytes text → length text ≡ n → value text ≡ Some x → S x text)
    → Law (field fault n value) S
unfolding field
Law-field {X = X} fault n value S there back = record {
  again = λ x text rest p.
      let h = there x text p in
      let long : ltb (length (text ++ rest)) n ≡ false = le-ltb _ _ (omega (arith, length-append text rest, h.0)) in
      rw (long, take_at text rest n h.0, drop_at text rest n h.0, h.1) refl;
  takes = λ bytes all x rest e. found bytes all x rest (ltb (length bytes) n) (value (take n bytes)) refl refl e;
}
  where
    found : (bytes : List ℕ) → AreBytes bytes → (x : X) (rest : List ℕ) (short : Bool) (v : Option X) → ltb (length bytes) n ≡ short → value (take n bytes) ≡ v
        → cond short (Err (Truncated, bytes)) (field_reading fault bytes (drop n bytes) v) ≡ Ok (x, rest) → (text : List ℕ) × S x text × (bytes ≡ text ++ rest)
    found bytes all x rest true v short-is v-is e = absurd cc
    found bytes all x rest false None short-is v-is e = absurd cc
    found bytes all x rest false (Some y) short-is v-is e =
        let long : n ≤ length bytes = ltb-false _ _ short-is in
        let p = ok_is y x (drop n bytes) rest e in
        let front : AreBytes (take n bytes) = AreBytes-front (take n bytes) (drop n bytes) (subst (λ (l : List ℕ). AreBytes l) (sym (take-append-drop n bytes)) all) in
        (take n bytes, back x (take n bytes) front (omega (arith, length-take n bytes)) (v-is ∙ ap (λ (z : X). Some z) p.0), sym (take-append-drop n bytes) ∙ ap (λ (l : List ℕ). take n bytes ++ l) p.1)

pub err_is : (X : Type 0) (f g : FormatFault) (s t : List ℕ) → faulty X f s ≡ faulty X g t → s ≡ t
err_is X f g s t e =
    let p : FormatFault × List ℕ = (f, s) in
    let q : FormatFault × List ℕ = (g, t) in
    let same : p ≡ q = cc in
    ap (λ (z : FormatFault × List ℕ). z.1) same

-- a fault of a field counts from its beginning
pub field_from : {X : Type 0} (fault : FormatFault) (n : ℕ) (value : List ℕ → Option X) (bytes : List ℕ) (f : FormatFault) (from : List ℕ) → field fault n value bytes ≡ Err (f, from) → bytes ≡ from
unfolding field
field_from {X = X} fault n value bytes f from e = by_cases (ltb (length bytes) n) (value (take n bytes)) e
  where
    by_cases : (short : Bool) (v : Option X) → cond short (Err (Truncated, bytes)) (field_reading fault bytes (drop n bytes) v) ≡ Err (f, from) → bytes ≡ from
    by_cases true v e = err_is X Truncated f bytes from e
    by_cases false None e = err_is X fault f bytes from e
    by_cases false (Some x) e = absurd cc

pub Opens-field : {X : Type 0} (fault : FormatFault) (n : ℕ) (value : List ℕ → Option X) (S : X → List ℕ → Type 0) (x : X) (text : List ℕ) → S x text → Opens (field fault n value) S
Opens-field fault n value S x text p = record {
  some = (x, text, p);
  before = λ bytes all f from e. ([], text, x, field_from fault n value bytes f from e, p);
}

-- ---- a fault within counts from the beginning

pub Law-as_one : {X : Type 0} (reader : Reader X) (S : X → List ℕ → Type 0) → Law reader S → Law (as_one reader) S
unfolding as_one
Law-as_one {X = X} reader S law = record {
  again = λ x text rest p. ap (whole_reading (text ++ rest)) (law.again x text rest p);
  takes = λ bytes all x rest e. law.takes bytes all x rest (unblamed bytes (reader bytes) x rest e);
}
  where
    unblamed : (bytes : List ℕ) (r : Reading X) (x : X) (rest : List ℕ) → whole_reading bytes r ≡ Ok (x, rest) → r ≡ Ok (x, rest)
    unblamed bytes (Ok p) x rest e = e
    unblamed bytes (Err f) x rest e = absurd cc

pub as_one_from : {X : Type 0} (reader : Reader X) (bytes : List ℕ) (f : FormatFault) (from : List ℕ) → as_one reader bytes ≡ Err (f, from) → bytes ≡ from
unfolding as_one
as_one_from {X = X} reader bytes f from e = at_front (reader bytes) e
  where
    at_front : (r : Reading X) → whole_reading bytes r ≡ Err (f, from) → bytes ≡ from
    at_front (Ok p) e = absurd cc
    at_front (Err g) e = err_is X g.0 f bytes from e

-- ---- what is found stays where more bytes follow, and so does a fault other than that the bytes are cut off

abbrev pub RefusalsLast : {X : Type 0} → Reader X → Type 0
RefusalsLast {X} reader = (bytes more : List ℕ) (fault : FormatFault) (from : List ℕ) → fault ≢ Truncated → reader bytes ≡ faulty X fault from → reader (bytes ++ more) ≡ faulty X fault (from ++ more)

pub record Lasts {X : Type 0} (reader : Reader X) : Type 0 where
  pub finds : (bytes more : List ℕ) (x : X) (rest : List ℕ) → reader bytes ≡ fine x rest → reader (bytes ++ more) ≡ fine x (rest ++ more)
  pub refuses : RefusalsLast reader

pub fault_is : (X : Type 0) (f g : FormatFault) (s t : List ℕ) → faulty X f s ≡ faulty X g t → f ≡ g
fault_is X f g s t e =
    let p : FormatFault × List ℕ = (f, s) in
    let q : FormatFault × List ℕ = (g, t) in
    let same : p ≡ q = cc in
    ap (λ (z : FormatFault × List ℕ). z.0) same

pub Lasts-give : {X : Type 0} (x : X) → Lasts (give x)
unfolding give
Lasts-give x = record {
  finds = λ bytes more y rest e. let p = ok_is x y bytes rest e in λ i. fine (p.0 i) (p.1 i ++ more);
  refuses = λ bytes more fault from other e. absurd cc;
}

pub RefusalsLast-seq : {X Y : Type 0} (a : Reader X) (k : X → Reader Y) → Lasts a → ((x : X) → RefusalsLast (k x)) → RefusalsLast (a >>= k)
unfolding ◌>>=◌
RefusalsLast-seq a k first next bytes more fault from other e =
    ⊎_elim (λ failed. ap (next_reading k) (first.refuses bytes more fault from other failed))
    (λ r. ap (next_reading k) (first.finds bytes more r.0.0 r.0.1 r.1) ∙ next r.0.0 r.0.1 more fault from other r.2)
    (one_fails (a bytes) k (fault, from) e)

pub Lasts-seq : {X Y : Type 0} (a : Reader X) (k : X → Reader Y) → Lasts a → ((x : X) → Lasts (k x)) → Lasts (a >>= k)
unfolding ◌>>=◌
Lasts-seq a k first next = record {
  finds = λ bytes more y rest e. let r = both_ok (a bytes) k (y, rest) e in ap (next_reading k) (first.finds bytes more r.0.0 r.0.1 r.1) ∙ (next r.0.0).finds r.0.1 more y rest r.2;
  refuses = RefusalsLast-seq a k first (λ x. (next x).refuses);
}

-- a field that is whole
field_whole : {X : Type 0} (fault : FormatFault) (n : ℕ) (value : List ℕ → Option X) (bytes more : List ℕ) → n ≤ length bytes → field fault n value (bytes ++ more) ≡ field_reading fault (bytes ++ more) (drop n bytes ++ more) (value (take n bytes))
unfolding field
field_whole fault n value bytes more many =
    let text = take n bytes in
    let rest = drop n bytes in
    let len : length text ≡ n = omega (arith, length-take n bytes, many) in
    let long : ltb (length (text ++ (rest ++ more))) n ≡ false = le-ltb _ _ (omega (arith, length-append text (rest ++ more), len)) in
    let parts : bytes ++ more ≡ text ++ (rest ++ more) = ap (λ (l : List ℕ). l ++ more) (sym (take-append-drop n bytes)) ∙ append_assoc text rest more in
    ap (field fault n value) parts ∙ (rw (long, take_at text (rest ++ more) n len, drop_at text (rest ++ more) n len) refl) ∙ ap (λ (l : List ℕ). field_reading fault l (rest ++ more) (value text)) (sym parts)

pub Lasts-field : {X : Type 0} (fault : FormatFault) (n : ℕ) (value : List ℕ → Option X) → Lasts (field fault n value)
unfolding field
Lasts-field {X = X} fault n value = record {
  finds = λ bytes more x rest e. there bytes more x rest (ltb (length bytes) n) (value (take n bytes)) refl refl e;
  refuses = λ bytes more f from other e. wrong bytes more f from other (ltb (length bytes) n) (value (take n bytes)) refl refl e;
}
  where
    there : (bytes more : List ℕ) (x : X) (rest : List ℕ) (short : Bool) (v : Option X) → ltb (length bytes) n ≡ short → value (take n bytes) ≡ v → cond short (Err (Truncated, bytes)) (field_reading fault bytes (drop n bytes) v) ≡ fine x rest
        → field fault n value (bytes ++ more) ≡ fine x (rest ++ more)
    there bytes more x rest true v short-is v-is e = absurd cc
    there bytes more x rest false None short-is v-is e = absurd cc
    there bytes more x rest false (Some y) short-is v-is e =
        let p = ok_is y x (drop n bytes) rest e in
        field_whole fault n value bytes more (ltb-false _ _ short-is) ∙ ap (field_reading fault (bytes ++ more) (drop n bytes ++ more)) v-is ∙ (λ i. fine (p.0 i) (p.1 i ++ more))

    wrong : (bytes more : List ℕ) (f : FormatFault) (from : List ℕ) → f ≢ Truncated → (short : Bool) (v : Option X) → ltb (length bytes) n ≡ short → value (take n bytes) ≡ v → cond short (Err (Truncated, bytes)) (field_reading fault bytes (drop n bytes) v) ≡ faulty X f from
        → field fault n value (bytes ++ more) ≡ faulty X f (from ++ more)
    wrong bytes more f from other true v short-is v-is e = absurd (other (sym (fault_is X Truncated f bytes from e)))
    wrong bytes more f from other false None short-is v-is e =
        field_whole fault n value bytes more (ltb-false _ _ short-is) ∙ ap (field_reading fault (bytes ++ more) (drop n bytes ++ more)) v-is ∙ (λ i. faulty X (fault_is X fault f bytes from e i) (err_is X fault f bytes from e i ++ more))
    wrong bytes more f from other false (Some x) short-is v-is e = absurd cc

pub Lasts-as_one : {X : Type 0} (reader : Reader X) → Lasts reader → Lasts (as_one reader)
unfolding as_one
Lasts-as_one {X = X} reader l = record {
  finds = λ bytes more x rest e. there bytes more x rest (reader bytes) refl e;
  refuses = λ bytes more f from other e. wrong bytes more f from other (reader bytes) refl e;
}
  where
    there : (bytes more : List ℕ) (x : X) (rest : List ℕ) (r : Reading X) → reader bytes ≡ r → whole_reading bytes r ≡ fine x rest → whole_reading (bytes ++ more) (reader (bytes ++ more)) ≡ fine x (rest ++ more)
    there bytes more x rest (Ok p) is e = ap (whole_reading (bytes ++ more)) (l.finds bytes more x rest (is ∙ e))
    there bytes more x rest (Err g) is e = absurd cc

    wrong : (bytes more : List ℕ) (f : FormatFault) (from : List ℕ) → f ≢ Truncated → (r : Reading X) → reader bytes ≡ r → whole_reading bytes r ≡ faulty X f from → whole_reading (bytes ++ more) (reader (bytes ++ more)) ≡ faulty X f (from ++ more)
    wrong bytes more f from other (Ok p) is e = absurd cc
    wrong bytes more f from other (Err g) is e =
        let same = fault_is X g.0 f bytes from e in
        ap (whole_reading (bytes ++ more)) (l.refuses bytes more g.0 g.1 (λ t. other (sym same ∙ t)) is) ∙ (λ i. faulty X (same i) (err_is X g.0 f bytes from e i ++ more))

-- ---- a field of a source: what was taken of it, and what reading the bytes that were left gives

-- what a fault of the bytes says, said otherwise
pub if_format : (fault : ReadFault) (P Q : FormatFault → Type 0) → ((f : FormatFault) → P f → Q f) → IfFormat fault P → IfFormat fault Q
if_format (Format f) P Q h p = h f p
if_format Failed P Q h p = tt
if_format (NoMemory refused) P Q h p = tt

-- ---- the exit of a `?` passes the fault on

pub passed : {X Y : Type 0} (reader : Reader Y) (IsText : X → List ℕ → Type 0) (source : Change SourceState) (r : Result X ReadFault) (e : ReadFault) → IsErrAnd r (λ y. y ≡ e) → RefusesInput reader source e → ReadsField reader IsText source r
passed reader IsText source (Ok x) e is refuses = absurd is
passed reader IsText source (Err y) e is refuses = subst (λ (f : ReadFault). RefusesInput reader source f) (sym is) refuses

pub passed_due : {X : Type 0} (n : ℕ) (text : X → List ℕ) (source : Change SourceState) (r : Result X ReadFault) (e : ReadFault) → IsErrAnd r (λ y. y ≡ e) → EndsEarly source n e → TakesDue n text source r
passed_due n text source (Ok x) e is early = absurd is
passed_due n text source (Err y) e is early = subst (λ (f : ReadFault). EndsEarly source n f) (sym is) early

pub passed_all : {X Y : Type 0} (reader : Reader Y) (IsText : X → List ℕ → Type 0) (source : Change SourceState) (r : Result X ReadFault) (e : ReadFault) → IsErrAnd r (λ y. y ≡ e) → RefusesAtEnd reader source e → ReadsAll reader IsText source r
passed_all reader IsText source (Ok x) e is refuses = absurd is
passed_all reader IsText source (Err y) e is refuses = subst (λ (f : ReadFault). RefusesAtEnd reader source f) (sym is) refuses

-- ---- bytes that are known

-- what holds of whatever begins with the text that was taken holds of the bytes that were left
pub if_begun : (old new : Option (List ℕ)) (text : List ℕ) (P : List ℕ → Type 0) → Consumes old new text → ((rest : List ℕ) → P (text ++ rest)) → IfSome old P
if_begun None new text P taken h = tt
if_begun (Some xs) None text P taken h = absurd taken
if_begun (Some xs) (Some ys) text P taken h = subst P (sym taken) (h ys)

-- what is known of the bytes that are left after a text was taken
pub if_left : (old new : Option (List ℕ)) (text : List ℕ) (P Q : List ℕ → Type 0) → Consumes old new text → ((rest : List ℕ) → P rest → Q (text ++ rest)) → IfSome new P → IfSome old Q
if_left None new text P Q taken h p = tt
if_left (Some xs) None text P Q taken h p = absurd taken
if_left (Some xs) (Some ys) text P Q taken h p = subst Q (sym taken) (h ys p)

-- the same, where none was taken
pub if_known : (left : Option (List ℕ)) (P Q : List ℕ → Type 0) → ((input : List ℕ) → P input → Q input) → IfSome left P → IfSome left Q
if_known None P Q h p = tt
if_known (Some xs) P Q h p = h xs p

-- where nothing is left after the text, the text was all that was left before it
pub all_after : (a b : Option (List ℕ)) (text seen : List ℕ) → Consumes a b text → IfSome b (λ all. all ≡ seen) → IfSome a (λ all. all ≡ text ++ seen)
all_after a b text seen taken all = if_left a b text (λ rest. rest ≡ seen) (λ input. input ≡ text ++ seen) taken (λ rest is. ap (λ (l : List ℕ). text ++ l) is) all

pub takes_none : (old new : Option (List ℕ)) → Keeps old new → Consumes old new []
takes_none old new kept = Consumes-kept old old new [] (Consumes-nil old) kept

pub nothing_left : (old : Option (List ℕ)) → IsAtEnd old → IfSome old (λ input. input ≡ [])
nothing_left None is_end = tt
nothing_left (Some xs) is_end = is_end

pub not_magic : OtherMagic ≢ Truncated
not_magic e = absurd cc

pub not_range : OutOfRange ≢ Truncated
not_range e = absurd cc

pub not_order : NotRising ≢ Truncated
not_order e = absurd cc

pub not_after : BytesAfterEnd ≢ Truncated
not_after e = absurd cc

-- the last byte of a text
pub last_split : (text : List ℕ) → 0 < length text → (before : List ℕ) × (byte : ℕ) × (text ≡ before ++ byte ∷ []) × (length before < length text)
last_split [] some = absurd (omega (arith, some))
last_split (b ∷ []) some = ([], b, refl, omega arith)
last_split (b ∷ c ∷ text) some = let p = last_split (c ∷ text) (omega arith) in (b ∷ p.0, p.1, ap (λ (l : List ℕ). b ∷ l) p.2, omega (arith, p.3))

-- a field that is not whole
pub field_short : {X : Type 0} (fault : FormatFault) (n : ℕ) (value : List ℕ → Option X) (bytes : List ℕ) → length bytes < n → field fault n value bytes ≡ Err (Truncated, bytes)
unfolding field
field_short fault n value bytes few = let short : ltb (length bytes) n ≡ true = lt-ltb _ _ few in rw short refl

-- a whole field without a value
field_wrong : {X : Type 0} (fault : FormatFault) (n : ℕ) (value : List ℕ → Option X) (text rest : List ℕ) → length text ≡ n → value text ≡ None → field fault n value (text ++ rest) ≡ Err (fault, text ++ rest)
unfolding field
field_wrong fault n value text rest len none = let long : ltb (length (text ++ rest)) n ≡ false = le-ltb _ _ (omega (arith, length-append text rest, len)) in rw (long, take_at text rest n len, none) refl

-- the fault is that no more than these bytes were left
abbrev Ends : Change SourceState → List ℕ → FormatFault → Type 0
Ends source seen fault = (fault ≡ Truncated) × IfSome source.before.left (λ input. input ≡ seen)

-- fewer bytes are left than the field has
pub cut_short : {X : Type 0} (fault : FormatFault) (n : ℕ) (value : List ℕ → Option X) (source : Change SourceState) (f : ReadFault) → EndsEarly source n f → RefusesInput (field fault n value) source f
cut_short fault n value source f early = record {
  seen = early.seen;
  taken = early.taken;
  is = if_format f (λ g. Ends source early.seen g) (λ g. IsFaultOf (field fault n value) early.seen g) (λ g end. subst (λ (h : FormatFault). IsFaultOf (field fault n value) early.seen h) (sym end.0) cut) early.end;
  first =
      if_format f (λ g. Ends source early.seen g) (λ g. IfSome source.before.left (λ input. IsFaultOf (field fault n value) input g))
      (λ g end. if_known source.before.left (λ input. input ≡ early.seen) (λ input. IsFaultOf (field fault n value) input g)
      (λ input all. subst (λ (h : FormatFault). IsFaultOf (field fault n value) input h) (sym end.0) (subst (λ (l : List ℕ). IsCutOff (field fault n value) l) (sym all) cut)) end.1) early.end;
  stops = stopped f early.end;
  failed = early.failed;
}
  where
    cut : IsCutOff (field fault n value) early.seen
    cut = (early.seen, field_short fault n value early.seen early.short)

    stopped : (g : ReadFault) → IfFormat g (λ h. Ends source early.seen h) → StopsAt (field fault n value) (λ bytes. IsCutOff (field fault n value) bytes) source early.seen g
    stopped (Format g) is_end = record { at_end = λ _. is_end.1; at_byte = λ other. absurd (other is_end.0) }
    stopped Failed is_end = cut
    stopped (NoMemory refused) is_end = cut

-- the field is there, and its bytes have no value
pub refused : {X : Type 0} (fault : FormatFault) → fault ≢ Truncated → (n : ℕ) → 0 < n → (value : List ℕ → Option X) (source : Change SourceState) (text : List ℕ) → Takes source text × ReadsOn source → length text ≡ n → value text ≡ None → RefusesInput (field fault n value) source (Format fault)
refused fault whole n some value source text taken len none = record {
  seen = text;
  taken = taken.0;
  is = (text ++ [], ap (field fault n value) (sym (append-nil text)) ∙ field_wrong fault n value text [] len none);
  first = if_begun source.before.left source.after.left text (λ input. IsFaultOf (field fault n value) input fault) taken.0 (λ rest. (text ++ rest, field_wrong fault n value text rest len none));
  stops = record {
    at_end = λ e. absurd (whole e);
    at_byte = λ _. let p = last_split text (omega (arith, some, len)) in (p.0, p.1, p.2, (p.0, field_short fault n value p.0 (omega (arith, p.3, len))));
  };
  failed = taken.1.1;
}

-- the field is there, and has a value
pub found : {X : Type 0} (IsText : X → List ℕ → Type 0) (source : Change SourceState) (x : X) (text : List ℕ) → Takes source text × ReadsOn source → IsText x text → Finds IsText source x
found IsText source x text taken spells = record { text = text; spells = spells; taken = taken.0; on = taken.1 }

-- some bytes were there, and then too few
pub ends_later : (a b c : SourceState) (text : List ℕ) (n k : ℕ) (f : ReadFault) → length text + n ≤ k → Takes (from_to a b) text → EndsEarly (from_to b c) n f → EndsEarly (from_to a c) k f
ends_later a b c text n k f few taken early = record {
  seen = text ++ early.seen;
  taken = Consumes-trans a.left b.left c.left text early.seen taken early.taken;
  short = omega (arith, few, length-append text early.seen, early.short);
  end =
      if_format f (λ g. (g ≡ Truncated) × IfSome b.left (λ input. input ≡ early.seen)) (λ g. (g ≡ Truncated) × IfSome a.left (λ input. input ≡ text ++ early.seen)) (λ g end. (end.0, all_after a.left b.left text early.seen taken end.1)) early.end;
  failed = early.failed;
}

-- the number that four bytes give has those bytes
pub number_back : (text : List ℕ) (n : ℕ) → length text ≡ 4 → ((i : ℕ) → get_or text i 0 < 256) → n ≡ from_le_bytes w32 text → number_text n ≡ text
unfolding number_text
number_back text n len small is = le_bytes_4 text n len small is

pub count_back : (text : List ℕ) (n : ℕ) → length text ≡ 8 → ((i : ℕ) → get_or text i 0 < 256) → n ≡ from_le_bytes w64 text → count_text n ≡ text
unfolding count_text
count_back text n len small is = le_bytes_8 text n len small is

pub number_too_high : (text : List ℕ) (most n : ℕ) → n ≡ from_le_bytes w32 text → most < n → number_in most text ≡ None
unfolding number_in
number_too_high text most n is high = let past : leb n most ≡ false = lt-leb _ _ high in rw (← is, past) refl

pub below_range : (low high byte : ℕ) → byte < low → byte_in low high (byte ∷ []) ≡ None
unfolding byte_in
below_range low high byte below = let past : leb low byte ≡ false = lt-leb _ _ below in rw past refl

pub above_range : (low high byte : ℕ) → high < byte → byte_in low high (byte ∷ []) ≡ None
unfolding byte_in
above_range low high byte above = let past : leb byte high ≡ false = lt-leb _ _ above in rw (past, and-false (leb low byte)) refl

-- bytes that no certificate begins with
pub other_version : (text : List ℕ) → bytes_eq text (codes "TILECRT1") ≡ false → bytes_eq text (codes "TILECRT2") ≡ false → version_in text ≡ None
unfolding version_in
other_version text one two = rw (one, two) refl

pub not_flipped_back : (b : Bool) → not b ≡ false → b ≡ true
not_flipped_back true e = refl
not_flipped_back false e = sym e

pub not_flipped : (b : Bool) → not b ≡ true → b ≡ false
not_flipped true e = sym e
not_flipped false e = refl

-- ---- what several writes wrote

-- the exit of a `?`, where more is due
pub writes_stop : {E : Type 0} (Q : E → Type 0) (sink : Change SinkState) (s t : List ℕ) (r : Result (Unit {0}) E) → IsErrAnd r Q → FailsWriting sink s → Writes sink (s ++ t) r
writes_stop Q sink s t (Ok done) is fails = absurd is
writes_stop Q sink s t (Err fault) is fails = FailsWriting-longer sink s t fails

-- ---- in the middle of a list

-- the exit of a `?`, where the bytes before are written, and more is due
pub writes_within : {E : Type 0} (Q : E → Type 0) (a b c : SinkState) (before here after whole : List ℕ) (r : Result (Unit {0}) E) → whole ≡ before ++ (here ++ after) → WritesAll (from_to a b) before → IsErrAnd r Q → FailsWriting (from_to b c) here
    → Writes (from_to a c) whole r
writes_within Q a b c before here after whole r parts sent is fails =
    subst (λ (l : List ℕ). Writes (from_to a c) l r) (sym parts) (Writes-after a b c before (here ++ after) r sent (writes_stop Q (from_to b c) here after r is fails))

pub letters_cut : (plan : List Move) (i : ℕ) (d : Move) → i < length plan → map letter_of plan ≡ map letter_of (take i plan) ++ ((letter_of (get_or plan i d) ∷ []) ++ map letter_of (drop (i + 1) plan))
letters_cut plan i d within = ap (map letter_of) (sym (take-append-drop i plan)) ∙ map-append letter_of (take i plan) (drop i plan) ∙ ap (λ (l : List Move). map letter_of (take i plan) ++ map letter_of l) (drop_more plan i d within)

pub groups_cut : (groups : List GroupModel) (i : ℕ) (d : GroupModel) → i < length groups → flat_map group_text groups ≡ flat_map group_text (take i groups) ++ (group_text (get_or groups i d) ++ flat_map group_text (drop (i + 1) groups))
groups_cut groups i d within =
    ap (flat_map group_text) (sym (take-append-drop i groups)) ∙ flat_map-append group_text (take i groups) (drop i groups)
    ∙ ap (λ (l : List ℕ). flat_map group_text (take i groups) ++ l) (ap (flat_map group_text) (drop_more groups i d within) ∙ flat_map-cons group_text (get_or groups i d) (drop (i + 1) groups))

pub rows_cut : (rows : List (BoardModel × ℕ)) (i : ℕ) (d : BoardModel × ℕ) → i < length rows → flat_map row_text rows ≡ flat_map row_text (take i rows) ++ (row_text (get_or rows i d) ++ flat_map row_text (drop (i + 1) rows))
rows_cut rows i d within =
    ap (flat_map row_text) (sym (take-append-drop i rows)) ∙ flat_map-append row_text (take i rows) (drop i rows)
    ∙ ap (λ (l : List ℕ). flat_map row_text (take i rows) ++ l) (ap (flat_map row_text) (drop_more rows i d within) ∙ flat_map-cons row_text (get_or rows i d) (drop (i + 1) rows))

-- ---- the end of a certificate

-- nothing is wrong where nothing is left
nothing_wrong : HasNoFault end []
unfolding end
nothing_wrong fault p = absurd (let e = p.1 in cc)

-- no byte is left
pub ended_there : (source : Change SourceState) → IsEnded source × ReadsOn source → FindsAll {X = Unit {0}} (λ _ text. text ≡ []) source tt
ended_there source end = record {
  found = record { text = []; spells = refl; taken = takes_none source.before.left source.after.left end.0.1; on = end.1 };
  whole = nothing_left source.before.left end.0.0;
}

-- a byte is left
pub not_ended : (source : Change SourceState) (byte : ℕ) → Takes source (byte ∷ []) × ReadsOn source → RefusesAtEnd end source (Format BytesAfterEnd)
unfolding end
not_ended source byte taken = record {
  seen = byte ∷ [];
  taken = taken.0;
  is = (byte ∷ [], refl);
  first = if_begun source.before.left source.after.left (byte ∷ []) (λ input. IsFaultOf end input BytesAfterEnd) taken.0 (λ rest. (byte ∷ rest, refl));
  stops = record { at_end = λ e. absurd (not_after e); at_byte = λ _. ([], byte, refl, nothing_wrong) };
  failed = taken.1.1;
}

-- the source failed at the end
pub end_failed : (source : Change SourceState) → TakesNone source × (source.after.has_failed ≡ true) → RefusesAtEnd end source Failed
end_failed source fails = record { seen = []; taken = takes_none source.before.left source.after.left fails.0; is = tt; first = tt; stops = nothing_wrong; failed = fails.1 }
