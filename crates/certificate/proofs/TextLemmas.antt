-- The text of each field and of each part of a certificate, with the laws of its reader.
use Rattle.std.proofs.Common.{◌≡◌, ℕ, zero, suc, ◌+◌, ◌-◌, ◌<◌, ◌≤◌, ◌^◌, Bool, true, false, cond, leb, List, [], ◌∷◌, ◌++◌, length, get_or, map, Option, Some, None, refl, sym, ap, subst, ◌∙◌, append-nil, arith}
use Rattle.std.specs.Prelude.{codes, slice_index, ◌&&◌}
use Rattle.std.specs.Int.{w32, w64, from_le_bytes}
use Rattle.std.specs.Str.{bytes_eq}
use Rattle.std.proofs.lemmas.Bool.{leb-true, le-leb}
use Rattle.std.proofs.lemmas.Nat.{from_le_bytes-to_le_bytes_4, from_le_bytes-to_le_bytes_8}
use Rattle.std.proofs.lemmas.Slice.Eq.{bytes_eq-Decides}
use Rattle.board.specs.declared.costs.TheConstants.{GREATEST_COST}
use Rattle.board.specs.declared.moves.Move.{Move}
use Rattle.board.specs.declared.moves.Move.TheVariants.{U}
use Rattle.board.specs.Shapes.{ShapeModel, IsShape, cell_count}
use Rattle.board.specs.Boards.{BoardModel, goal_of}
use Rattle.board.specs.Weights.{WeightsModel}
use Rattle.board.proofs.GoalLemmas.{goal_board}
use Rattle.certificate.specs.Fields.{SpellsBeginning, SpellsBoard, SpellsByte, SpellsClaim, SpellsClaimed, SpellsCosts, SpellsCount, SpellsLetter, SpellsLetters, SpellsNumber, SpellsNumberWithin, SpellsOpening, SpellsPlan, SpellsVersion}
use Rattle.certificate.specs.declared.faults.FormatFault.TheVariants.{OtherMagic, OutOfRange}
use Rattle.certificate.specs.declared.certificate.TheConstants.{GREATEST_BOUND}
use Rattle.certificate.specs.declared.certificate.Version.{Version}
use Rattle.certificate.specs.declared.certificate.Version.TheVariants.{One, Two}
use Rattle.certificate.specs.Certificates.{IsWithinLimit}
use Rattle.board.specs.Letters.{letter_of, move_of_letter}
use Rattle.board.proofs.LetterLemmas.{letter_reads}
use Rattle.certificate.specs.Spellings.{cost_kind_of, weights_text, version_text, claim_text, opening_text, number_text, count_text, plan_text}
use Rattle.certificate.specs.Readings.{give, version, version_in, claim, beginning, byte_within, byte_in, number, number_within, number_in, count, count_in, board, board_from, letter, letter_in, grid_with, opening_fields, letters, plan, claimed}
use Rattle.certificate.specs.Laws.{AreBytes}
use Rattle.certificate.proofs.CostLemmas.{costs_law, costs_open, kind_high, board_back, board_found}
use Rattle.certificate.proofs.ReaderLemmas.{number_back, count_back, Law, Opens, Law-iff, Opens-iff, Both, Law-seq, Opens-seq, Known, Law-give, Opens-give, Law-field, Opens-field}

some_number : (m n : ℕ) → Some m ≡ Some n → m ≡ n
some_number m n e = cc

some_version : (v w : Version) → Some v ≡ Some w → v ≡ w
some_version v w e = cc

and_both : (a b : Bool) → (a && b) ≡ true → (a ≡ true) × (b ≡ true)
and_both true b e = (refl, e)
and_both false b e = absurd cc

bytes_at : (text : List ℕ) → AreBytes text → (i : ℕ) → get_or text i 0 < 256
bytes_at [] all i = omega arith
bytes_at (b ∷ text) all zero = all.0
bytes_at (b ∷ text) all (suc i) = bytes_at text all.1 i

one_byte : (text : List ℕ) → length text ≡ 1 → text ≡ slice_index text 0 ∷ []
one_byte [] e = absurd (omega (arith, e))
one_byte (b ∷ []) e = refl
one_byte (b ∷ c ∷ text) e = absurd (omega (arith, e))

-- ---- the version

differ : bytes_eq (codes "TILECRT2") (codes "TILECRT1") ≡ false
differ = refl

version_there : (v : Version) (text : List ℕ) → SpellsVersion v text → (length text ≡ 8) × (version_in text ≡ Some v)
unfolding version_in
version_there One text is = (ap (λ (t : List ℕ). length t) is, rw ((bytes_eq-Decides text (codes "TILECRT1")).1 is) refl)
version_there Two text is = (ap (λ (t : List ℕ). length t) is, rw (ap (λ (t : List ℕ). bytes_eq t (codes "TILECRT1")) is ∙ differ, (bytes_eq-Decides text (codes "TILECRT2")).1 is) refl)

pub version_told : (v : Version) (text : List ℕ) → version_in text ≡ Some v → SpellsVersion v text
unfolding version_in
version_told v text e = by_tests (bytes_eq text (codes "TILECRT1")) (bytes_eq text (codes "TILECRT2")) refl refl e
  where
    by_tests : (r s : Bool) → bytes_eq text (codes "TILECRT1") ≡ r → bytes_eq text (codes "TILECRT2") ≡ s → cond r (Some One) (cond s (Some Two) None) ≡ Some v → SpellsVersion v text
    by_tests true s one two e = subst (λ (w : Version). SpellsVersion w text) (some_version One v e) ((bytes_eq-Decides text (codes "TILECRT1")).0 one)
    by_tests false true one two e = subst (λ (w : Version). SpellsVersion w text) (some_version Two v e) ((bytes_eq-Decides text (codes "TILECRT2")).0 two)
    by_tests false false one two e = absurd cc

version_back : (v : Version) (text : List ℕ) → AreBytes text → length text ≡ 8 → version_in text ≡ Some v → SpellsVersion v text
version_back v text all len e = version_told v text e

pub version_law : Law version SpellsVersion
version_law = Law-field OtherMagic 8 version_in SpellsVersion version_there version_back

version_opens : Opens version SpellsVersion
version_opens = Opens-field OtherMagic 8 version_in SpellsVersion One (codes "TILECRT1") refl

-- ---- a byte

byte_there : (low high byte : ℕ) (text : List ℕ) → SpellsByte low high byte text → (length text ≡ 1) × (byte_in low high text ≡ Some byte)
unfolding byte_in
byte_there low high byte text t =
    let in_range : (leb low byte && leb byte high) ≡ true = rw (le-leb _ _ t.above, le-leb _ _ t.below) refl in
    (ap (λ (l : List ℕ). length l) t.is, ap (λ (l : List ℕ). cond (leb low (slice_index l 0) && leb (slice_index l 0) high) (Some (slice_index l 0)) None) t.is ∙ ap (λ (r : Bool). cond r (Some byte) None) in_range)

byte_back : (low high byte : ℕ) (text : List ℕ) → AreBytes text → length text ≡ 1 → byte_in low high text ≡ Some byte → SpellsByte low high byte text
unfolding byte_in
byte_back low high byte text all len e = by_test (leb low (slice_index text 0) && leb (slice_index text 0) high) refl e
  where
    by_test : (r : Bool) → (leb low (slice_index text 0) && leb (slice_index text 0) high) ≡ r → cond r (Some (slice_index text 0)) None ≡ Some byte → SpellsByte low high byte text
    by_test false is e = absurd cc
    by_test true is e =
        let p = and_both _ _ is in
        let same = some_number _ _ e in
        record { above = subst (λ (b : ℕ). low ≤ b) same (leb-true _ _ p.0); below = subst (λ (b : ℕ). b ≤ high) same (leb-true _ _ p.1); is = one_byte text len ∙ ap (λ (b : ℕ). b ∷ []) same }

pub byte_law : (low high : ℕ) → Law (byte_within low high) (SpellsByte low high)
byte_law low high = Law-field OutOfRange 1 (byte_in low high) (SpellsByte low high) (byte_there low high) (byte_back low high)

byte_opens : (low high : ℕ) → low ≤ high → Opens (byte_within low high) (SpellsByte low high)
byte_opens low high some = Opens-field OutOfRange 1 (byte_in low high) (SpellsByte low high) low (low ∷ []) (record { above = omega arith; below = some; is = refl })

-- ---- numbers

pub four_bytes : (n : ℕ) → length (number_text n) ≡ 4
unfolding number_text
four_bytes n = refl

eight_bytes : (n : ℕ) → length (count_text n) ≡ 8
unfolding count_text
eight_bytes n = refl

number_again : (n : ℕ) → n < 2 ^ 32 → from_le_bytes w32 (number_text n) ≡ n
unfolding number_text
number_again n low = from_le_bytes-to_le_bytes_4 n low

count_again : (n : ℕ) → n < 2 ^ 64 → from_le_bytes w64 (count_text n) ≡ n
unfolding count_text
count_again n low = from_le_bytes-to_le_bytes_8 n low

number_there : (high n : ℕ) → high < 2 ^ 32 → (text : List ℕ) → SpellsNumberWithin high n text → (length text ≡ 4) × (number_in high text ≡ Some n)
unfolding number_in
number_there high n few text t =
    let value : from_le_bytes w32 text ≡ n = ap (from_le_bytes w32) t.is ∙ number_again n (omega (arith, t.within)) in
    (ap (λ (l : List ℕ). length l) t.is ∙ four_bytes n, ap (λ (m : ℕ). cond (leb m high) (Some m) None) value ∙ ap (λ (r : Bool). cond r (Some n) None) (le-leb n high t.within))

number_in_back : (high n : ℕ) (text : List ℕ) → AreBytes text → length text ≡ 4 → number_in high text ≡ Some n → SpellsNumberWithin high n text
unfolding number_in
number_in_back high n text all len e = by_test (leb (from_le_bytes w32 text) high) refl e
  where
    by_test : (r : Bool) → leb (from_le_bytes w32 text) high ≡ r → cond r (Some (from_le_bytes w32 text)) None ≡ Some n → SpellsNumberWithin high n text
    by_test false is e = absurd cc
    by_test true is e =
        let same = some_number _ _ e in
        record { within = subst (λ (m : ℕ). m ≤ high) same (leb-true _ _ is); is = sym (number_back text n len (bytes_at text all) (sym same)) }

pub number_within_law : (high : ℕ) → high < 2 ^ 32 → Law (number_within high) (SpellsNumberWithin high)
number_within_law high few = Law-field OutOfRange 4 (number_in high) (SpellsNumberWithin high) (λ n. number_there high n few) (number_in_back high)

pub number_within_opens : (high : ℕ) → Opens (number_within high) (SpellsNumberWithin high)
number_within_opens high = Opens-field OutOfRange 4 (number_in high) (SpellsNumberWithin high) 0 (number_text 0) (record { within = omega arith; is = refl })

pub number_law : Law number SpellsNumber
number_law = number_within_law GREATEST_COST (omega arith)

pub number_opens : Opens number SpellsNumber
number_opens = number_within_opens GREATEST_COST

from_le_below : (text : List ℕ) → AreBytes text → from_le_bytes w64 text < 2 ^ 64
from_le_below text all = let b = bytes_at text all in omega (arith, b 0, b 1, b 2, b 3, b 4, b 5, b 6, b 7)

count_there : (n : ℕ) (text : List ℕ) → SpellsCount n text → (length text ≡ 8) × (count_in text ≡ Some n)
unfolding count_in
count_there n text t = (ap (λ (l : List ℕ). length l) t.is ∙ eight_bytes n, ap (λ (m : ℕ). Some m) (ap (from_le_bytes w64) t.is ∙ count_again n t.within))

count_in_back : (n : ℕ) (text : List ℕ) → AreBytes text → length text ≡ 8 → count_in text ≡ Some n → SpellsCount n text
unfolding count_in
count_in_back n text all len e =
    let same = some_number (from_le_bytes w64 text) n e in
    record { within = subst (λ (m : ℕ). m < 2 ^ 64) same (from_le_below text all); is = sym (count_back text n len (bytes_at text all) (sym same)) }

pub count_law : Law count SpellsCount
count_law = Law-field OutOfRange 8 count_in SpellsCount count_there count_in_back

-- ---- boards

board_there : (grid : ShapeModel) (b : BoardModel) (text : List ℕ) → SpellsBoard grid b text → (length text ≡ cell_count grid) × (board_from grid text ≡ Some b)
board_there grid b text t = (
  ap (λ (l : List ℕ). length l) t.is ∙ t.board.board.one_each ∙ ap cell_count t.board.sides,
  ap (board_from grid) t.is ∙ board_back grid b t.board.board t.board.sides,
)

board_in_back : (grid : ShapeModel) → IsShape grid → (b : BoardModel) (text : List ℕ) → AreBytes text → length text ≡ cell_count grid → board_from grid text ≡ Some b → SpellsBoard grid b text
board_in_back grid sides b text all len e = let p = board_found grid text b sides len e in record { board = record { board = p.0; sides = p.1 }; is = sym p.2 }

pub board_law : (grid : ShapeModel) → IsShape grid → Law (board grid) (SpellsBoard grid)
board_law grid sides = Law-field OutOfRange (cell_count grid) (board_from grid) (SpellsBoard grid) (board_there grid) (board_in_back grid sides)

pub board_opens : (grid : ShapeModel) → IsShape grid → Opens (board grid) (SpellsBoard grid)
board_opens grid sides = Opens-field OutOfRange (cell_count grid) (board_from grid) (SpellsBoard grid) (goal_of grid) (goal_of grid).tiles (record { board = record { board = goal_board grid sides; sides = refl }; is = refl })

-- ---- letters

letter_there : (m : Move) (text : List ℕ) → SpellsLetter m text → (length text ≡ 1) × (letter_in text ≡ Some m)
unfolding letter_in
letter_there m text is = (ap (λ (l : List ℕ). length l) is, ap (λ (l : List ℕ). move_of_letter (slice_index l 0)) is ∙ (letter_reads m (letter_of m)).1 refl)

letter_back : (m : Move) (text : List ℕ) → AreBytes text → length text ≡ 1 → letter_in text ≡ Some m → SpellsLetter m text
unfolding letter_in
letter_back m text all len e = one_byte text len ∙ ap (λ (b : ℕ). b ∷ []) ((letter_reads m (slice_index text 0)).0 e)

pub letter_law : Law letter SpellsLetter
letter_law = Law-field OutOfRange 1 letter_in SpellsLetter letter_there letter_back

letter_opens : Opens letter SpellsLetter
letter_opens = Opens-field OutOfRange 1 letter_in SpellsLetter U (letter_of U ∷ []) refl

-- ---- the opening

abbrev pub KindParts : ℕ → ℕ → WeightsModel → List ℕ → Type 0
KindParts rows cols = Both (SpellsByte 0 2) (λ kind. SpellsCosts (grid_with rows cols) kind)

abbrev pub ColsParts : ℕ → WeightsModel → List ℕ → Type 0
ColsParts rows = Both (SpellsByte 2 5) (λ cols. KindParts rows cols)

abbrev pub RowsParts : WeightsModel → List ℕ → Type 0
RowsParts = Both (SpellsByte 2 5) (λ rows. ColsParts rows)

pub sides_read : (rows cols : ℕ) (s t : List ℕ) → SpellsByte 2 5 rows s → SpellsByte 2 5 cols t → IsShape (grid_with rows cols)
sides_read rows cols s t r c = record { rows_low = r.above; rows_high = r.below; cols_low = c.above; cols_high = c.below }

opening_parts_law : Law opening_fields RowsParts
unfolding opening_fields
opening_parts_law = Law-seq (byte_within 2 5) _ (SpellsByte 2 5) _ (byte_law 2 5) (λ rows s r.
    Law-seq (byte_within 2 5) _ (SpellsByte 2 5) _ (byte_law 2 5) (λ cols t c.
    Law-seq (byte_within 0 2) _ (SpellsByte 0 2) _ (byte_law 0 2) (λ kind _ k. costs_law (grid_with rows cols) kind (sides_read rows cols s t r c) k.below)))

opening_parts_open : Opens opening_fields RowsParts
unfolding opening_fields
opening_parts_open = Opens-seq (byte_within 2 5) _ (SpellsByte 2 5) _ (byte_law 2 5) (byte_opens 2 5 (omega arith)) (λ rows s r.
    Opens-seq (byte_within 2 5) _ (SpellsByte 2 5) _ (byte_law 2 5) (byte_opens 2 5 (omega arith)) (λ cols t c.
    Opens-seq (byte_within 0 2) _ (SpellsByte 0 2) _ (byte_law 0 2) (byte_opens 0 2 (omega arith)) (λ kind _ k. costs_open (grid_with rows cols) kind (sides_read rows cols s t r c) k.below)))

pub opening_there : (costs : WeightsModel) (text : List ℕ) → RowsParts costs text → SpellsOpening costs text
unfolding opening_text
opening_there costs text (rows, s1, t1, r, (cols, s2, t2, c, (kind, s3, t3, k, o, e3), e2), e1) =
    let same : costs.grid ≡ grid_with rows cols = o.costs.sides in
    let bytes : text ≡ rows ∷ cols ∷ kind ∷ t3 = e1 ∙ (λ i. r.is i ++ e2 i) ∙ (λ i. rows ∷ (c.is i ++ e3 i)) ∙ (λ i. rows ∷ cols ∷ (k.is i ++ t3)) in
    let told : t3 ≡ weights_text (cost_kind_of costs) costs = o.is ∙ ap (λ (n : ℕ). weights_text n costs) (sym o.kind) in
    record { rule = o.costs.rule; is = bytes ∙ (λ i. (sym same i).rows ∷ (sym same i).cols ∷ sym o.kind i ∷ told i) }

opening_back : (costs : WeightsModel) (text : List ℕ) → SpellsOpening costs text → RowsParts costs text
unfolding opening_text
opening_back costs text t =
    let grid = costs.grid in
    let kind = cost_kind_of costs in
    let last = weights_text kind costs in
    let sides = t.rule.sides in
    let r : SpellsByte 2 5 grid.rows (grid.rows ∷ []) = record { above = sides.rows_low; below = sides.rows_high; is = refl } in
    let c : SpellsByte 2 5 grid.cols (grid.cols ∷ []) = record { above = sides.cols_low; below = sides.cols_high; is = refl } in
    let k : SpellsByte 0 2 kind (kind ∷ []) = record { above = omega arith; below = kind_high costs; is = refl } in
    let o : SpellsCosts grid kind costs last = record { costs = record { rule = t.rule; sides = refl }; kind = refl; is = refl } in
    (grid.rows, grid.rows ∷ [], grid.cols ∷ kind ∷ last, r, (grid.cols, grid.cols ∷ [], kind ∷ last, c, (kind, kind ∷ [], last, k, o, refl), refl), t.is)

pub opening_law : Law opening_fields SpellsOpening
opening_law = Law-iff opening_fields RowsParts SpellsOpening opening_there opening_back opening_parts_law

pub opening_opens : Opens opening_fields SpellsOpening
opening_opens = Opens-iff opening_fields RowsParts SpellsOpening opening_there opening_parts_open

-- ---- the beginning

claim_known : (n : ℕ) (text : List ℕ) → Known 0 n text → SpellsClaim One n text
claim_known n text k = record { allowed = k.0; is = k.1 }

claim_known_back : (n : ℕ) (text : List ℕ) → SpellsClaim One n text → Known 0 n text
claim_known_back n text t = (t.allowed, t.is)

claim_byte : (n : ℕ) (text : List ℕ) → SpellsByte 0 1 n text → SpellsClaim Two n text
claim_byte n text t = record { allowed = t.below; is = t.is }

claim_byte_back : (n : ℕ) (text : List ℕ) → SpellsClaim Two n text → SpellsByte 0 1 n text
claim_byte_back n text t = record { above = omega arith; below = t.allowed; is = t.is }

pub claim_law : (v : Version) → Law (claim v) (SpellsClaim v)
claim_law One = Law-iff (give 0) (Known 0) (SpellsClaim One) claim_known claim_known_back (Law-give 0)
claim_law Two = Law-iff (byte_within 0 1) (SpellsByte 0 1) (SpellsClaim Two) claim_byte claim_byte_back (byte_law 0 1)

claim_opens : (v : Version) → Opens (claim v) (SpellsClaim v)
claim_opens One = Opens-iff (give 0) (Known 0) (SpellsClaim One) claim_known (Opens-give 0)
claim_opens Two = Opens-iff (byte_within 0 1) (SpellsByte 0 1) (SpellsClaim Two) claim_byte (byte_opens 0 1 (omega arith))

abbrev form_of : Version → ℕ → Version × ℕ
form_of v n = (v, n)

abbrev pub BeginningParts : Version × ℕ → List ℕ → Type 0
BeginningParts = Both SpellsVersion (λ v. Both (SpellsClaim v) (λ n. Known (form_of v n)))

pub beginning_there : (form : Version × ℕ) (text : List ℕ) → BeginningParts form text → SpellsBeginning form text
beginning_there form text (v, s0, t0, is, (n, s1, t1, claim, (known, nil), e1), e0) =
    let made : SpellsBeginning (form_of v n) text = record {
      allowed = claim.allowed;
      is = e0 ∙ (λ i. is i ++ e1 i) ∙ (λ i. version_text v ++ (claim.is i ++ nil i)) ∙ ap (λ (l : List ℕ). version_text v ++ l) (append-nil (claim_text v n));
    } in
    subst (λ (f : Version × ℕ). SpellsBeginning f text) (sym known) made

beginning_back : (form : Version × ℕ) (text : List ℕ) → SpellsBeginning form text → BeginningParts form text
beginning_back form text t = (form.0, version_text form.0, claim_text form.0 form.1, refl, (form.1, claim_text form.0 form.1, [], record { allowed = t.allowed; is = refl }, (refl, refl), sym (append-nil (claim_text form.0 form.1))), t.is)

pub beginning_law : Law beginning SpellsBeginning
unfolding beginning
beginning_law = Law-iff _ BeginningParts SpellsBeginning beginning_there beginning_back
    (Law-seq version _ SpellsVersion _ version_law (λ v _ _. Law-seq (claim v) _ (SpellsClaim v) _ (claim_law v) (λ n _ _. Law-give (form_of v n))))

pub beginning_opens : Opens beginning SpellsBeginning
unfolding beginning
beginning_opens = Opens-iff _ BeginningParts SpellsBeginning beginning_there
    (Opens-seq version _ SpellsVersion _ version_law version_opens (λ v _ _. Opens-seq (claim v) _ (SpellsClaim v) _ (claim_law v) (claim_opens v) (λ n _ _. Opens-give (form_of v n))))

-- ---- the plan

abbrev LettersParts : ℕ → List Move → List ℕ → Type 0
LettersParts zero = Known []
LettersParts (suc n) = Both SpellsLetter (λ m. Both (SpellsLetters n) (λ ms. Known (m ∷ ms)))

letters_there : (n : ℕ) (moves : List Move) (text : List ℕ) → LettersParts n moves text → SpellsLetters n moves text
letters_there zero moves text p = record { count = ap (λ (ms : List Move). length ms) p.0; is = p.1 ∙ ap (map letter_of) (sym p.0) }
letters_there (suc n) moves text (m, s0, t0, is, (ms, s1, t1, l, (known, nil), e1), e0) = record {
  count = ap (λ (l : List Move). length l) known ∙ ap suc l.count;
  is = e0 ∙ (λ i. is i ++ e1 i) ∙ (λ i. letter_of m ∷ (l.is i ++ nil i)) ∙ ap (λ (l : List ℕ). letter_of m ∷ l) (append-nil (map letter_of ms)) ∙ ap (map letter_of) (sym known);
}

letters_back : (n : ℕ) (moves : List Move) (text : List ℕ) → SpellsLetters n moves text → LettersParts n moves text
letters_back zero [] text t = (refl, t.is)
letters_back zero (m ∷ ms) text t = absurd (omega (arith, t.count))
letters_back (suc n) [] text t = absurd (omega (arith, t.count))
letters_back (suc n) (m ∷ ms) text t =
    (m, letter_of m ∷ [], map letter_of ms, refl, (ms, map letter_of ms, [], record { count = omega (arith, t.count); is = refl }, (refl, refl), sym (append-nil (map letter_of ms))), t.is)

pub letters_law : (n : ℕ) → Law (letters n) (SpellsLetters n)
unfolding letters
letters_law zero = Law-iff (give []) (Known []) (SpellsLetters zero) (letters_there zero) (letters_back zero) (Law-give [])
letters_law (suc n) = Law-iff _ (LettersParts (suc n)) (SpellsLetters (suc n)) (letters_there (suc n)) (letters_back (suc n))
    (Law-seq letter _ SpellsLetter _ letter_law (λ m _ _. Law-seq (letters n) _ (SpellsLetters n) _ (letters_law n) (λ ms _ _. Law-give (m ∷ ms))))

letters_open : (n : ℕ) → Opens (letters n) (SpellsLetters n)
unfolding letters
letters_open zero = Opens-iff (give []) (Known []) (SpellsLetters zero) (letters_there zero) (Opens-give [])
letters_open (suc n) = Opens-iff _ (LettersParts (suc n)) (SpellsLetters (suc n)) (letters_there (suc n))
    (Opens-seq letter _ SpellsLetter _ letter_law letter_opens (λ m _ _. Opens-seq (letters n) _ (SpellsLetters n) _ (letters_law n) (letters_open n) (λ ms _ _. Opens-give (m ∷ ms))))

pub plan_there : (moves : List Move) (text : List ℕ) → Both SpellsNumber SpellsLetters moves text → SpellsPlan moves text
plan_there moves text (n, s, t, p, q, e) = record {
  within = subst (λ (m : ℕ). IsWithinLimit m) (sym q.count) p.within;
  is = e ∙ (λ i. p.is i ++ q.is i) ∙ ap (λ (m : ℕ). number_text m ++ map letter_of moves) (sym q.count);
}

plan_back : (moves : List Move) (text : List ℕ) → SpellsPlan moves text → Both SpellsNumber SpellsLetters moves text
plan_back moves text t = (length moves, number_text (length moves), map letter_of moves, record { within = t.within; is = refl }, record { count = refl; is = refl }, t.is)

pub plan_law : Law plan SpellsPlan
unfolding plan
plan_law = Law-iff _ (Both SpellsNumber SpellsLetters) SpellsPlan plan_there plan_back (Law-seq number _ SpellsNumber _ number_law (λ n _ _. letters_law n))

pub plan_opens : Opens plan SpellsPlan
unfolding plan
plan_opens = Opens-iff _ (Both SpellsNumber SpellsLetters) SpellsPlan plan_there (Opens-seq number _ SpellsNumber _ number_law number_opens (λ n _ _. letters_open n))

-- ---- what is claimed

abbrev plan_found : ℕ → List Move → ℕ × Option (List Move)
plan_found cost moves = (cost, Some moves)

abbrev bound_found : ℕ → ℕ × Option (List Move)
bound_found bound = (bound, None)

abbrev pub LeastParts : ℕ × Option (List Move) → List ℕ → Type 0
LeastParts = Both SpellsNumber (λ cost. Both SpellsPlan (λ moves. Known (plan_found cost moves)))

abbrev pub BoundParts : ℕ × Option (List Move) → List ℕ → Type 0
BoundParts = Both (SpellsNumberWithin GREATEST_BOUND) (λ bound. Known (bound_found bound))

pub least_there : (found : ℕ × Option (List Move)) (text : List ℕ) → LeastParts found text → SpellsClaimed 0 found text
least_there found text (cost, s0, t0, n, (moves, s1, t1, p, (known, nil), e1), e0) =
    let made : SpellsClaimed 0 (plan_found cost moves) text = record {
      claim = refl;
      cost = n.within;
      plan = p.within;
      is = e0 ∙ (λ i. n.is i ++ e1 i) ∙ (λ i. number_text cost ++ (p.is i ++ nil i)) ∙ ap (λ (l : List ℕ). number_text cost ++ l) (append-nil (plan_text moves));
    } in
    subst (λ (f : ℕ × Option (List Move)). SpellsClaimed 0 f text) (sym known) made

least_back : (found : ℕ × Option (List Move)) (text : List ℕ) → SpellsClaimed 0 found text → LeastParts found text
least_back (cost, Some moves) text t = (cost, number_text cost, plan_text moves, record { within = t.cost; is = refl }, (moves, plan_text moves, [], record { within = t.plan; is = refl }, (refl, refl), sym (append-nil (plan_text moves))), t.is)
least_back (bound, None) text t = absurd (omega (arith, t.claim))

pub bound_there : (claim : ℕ) (found : ℕ × Option (List Move)) (text : List ℕ) → claim ≤ 0 → BoundParts found text → SpellsClaimed (suc claim) found text
bound_there claim found text low (bound, s0, t0, n, (known, nil), e0) =
    let made : SpellsClaimed (suc claim) (bound_found bound) text = record {
      claim = omega (arith, low);
      cost = n.within;
      plan = tt;
      is = e0 ∙ (λ i. n.is i ++ nil i) ∙ append-nil (number_text bound);
    } in
    subst (λ (f : ℕ × Option (List Move)). SpellsClaimed (suc claim) f text) (sym known) made

bound_back : (claim : ℕ) (found : ℕ × Option (List Move)) (text : List ℕ) → SpellsClaimed (suc claim) found text → BoundParts found text
bound_back claim (cost, Some moves) text t = absurd (omega (arith, t.claim))
bound_back claim (bound, None) text t = (bound, number_text bound, [], record { within = t.cost; is = refl }, (refl, refl), t.is ∙ sym (append-nil (number_text bound)))

pub claimed_law : (n : ℕ) → n ≤ 1 → Law (claimed n) (SpellsClaimed n)
claimed_law zero low = Law-iff _ LeastParts (SpellsClaimed 0) least_there least_back
    (Law-seq number _ SpellsNumber _ number_law (λ cost _ _. Law-seq plan _ SpellsPlan _ plan_law (λ moves _ _. Law-give (plan_found cost moves))))
claimed_law (suc n) low = Law-iff _ BoundParts (SpellsClaimed (suc n)) (λ found text. bound_there n found text (omega (arith, low))) (bound_back n)
    (Law-seq (number_within GREATEST_BOUND) _ (SpellsNumberWithin GREATEST_BOUND) _ (number_within_law GREATEST_BOUND (omega arith)) (λ bound _ _. Law-give (bound_found bound)))

pub claimed_opens : (n : ℕ) → n ≤ 1 → Opens (claimed n) (SpellsClaimed n)
claimed_opens zero low = Opens-iff _ LeastParts (SpellsClaimed 0) least_there
    (Opens-seq number _ SpellsNumber _ number_law number_opens (λ cost _ _. Opens-seq plan _ SpellsPlan _ plan_law plan_opens (λ moves _ _. Opens-give (plan_found cost moves))))
claimed_opens (suc n) low = Opens-iff _ BoundParts (SpellsClaimed (suc n)) (λ found text. bound_there n found text (omega (arith, low)))
    (Opens-seq (number_within GREATEST_BOUND) _ (SpellsNumberWithin GREATEST_BOUND) _ (number_within_law GREATEST_BOUND (omega arith)) (number_within_opens GREATEST_BOUND) (λ bound _ _. Opens-give (bound_found bound)))
