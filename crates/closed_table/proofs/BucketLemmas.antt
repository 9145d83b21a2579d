-- The bucket of a chain, as a function of the chains and the hashes of slots.
use Rattle.std.proofs.Common.{◌≡◌, ◌≢◌, ℕ, ◌+◌, ◌*◌, ◌/◌, ◌%◌, ◌^◌, ◌<◌, ◌≤◌, ◌∙◌, zero, suc, cond, refl, sym, ap, subst, inl, inr, arith, bit_or, max, length, get_or, length-set}
use Rattle.std.specs.Prelude.{set}
use Rattle.std.proofs.lemmas.Bool.{cases_eq, cases_lt, ne_eqb, eq-eqb, lt-ltb, le-ltb}
use Rattle.std.proofs.lemmas.List.{get_or-set_same, get_or-set_other}
use Rattle.std.proofs.lemmas.Nat.Bits.{bit_at_or, bit_at_set_same, bit_at-lt}
use Rattle.std.specs.Int.{bit_at, w16}
use Rattle.closed_table.specs.declared.index.Bucket.{Bucket}
use Rattle.closed_table.specs.Chains.{bucket_of, bucket_with, no_bucket}

pub bucket_yes : (f t : ℕ → ℕ) (b i : ℕ) → f i ≡ b → bucket_of f t b (suc i) ≡ bucket_with (bucket_of f t b i) i (t i)
unfolding bucket_of
bucket_yes f t b i is = ap (λ q. cond q (bucket_with (bucket_of f t b i) i (t i)) (bucket_of f t b i)) (eq-eqb (f i) b is)

pub bucket_no : (f t : ℕ → ℕ) (b i : ℕ) → f i ≢ b → bucket_of f t b (suc i) ≡ bucket_of f t b i
unfolding bucket_of
bucket_no f t b i apart = ap (λ q. cond q (bucket_with (bucket_of f t b i) i (t i)) (bucket_of f t b i)) (ne_eqb (f i) b apart)

pub bucket_none : (f t : ℕ → ℕ) (b : ℕ) → bucket_of f t b 0 ≡ no_bucket
unfolding bucket_of
bucket_none f t b = refl

-- a bucket with one slot more in it, and with one more in its list
abbrev pub with_entry : Bucket → ℕ → ℕ → Bucket
with_entry bucket place hash = record bucket { hashes = set bucket.hashes bucket.count hash; places = set bucket.places bucket.count place; count = bucket.count + 1 }

abbrev pub with_listed : Bucket → ℕ → ℕ → Bucket
with_listed bucket place hash = record bucket { link = place + 1; filter = bit_or bucket.filter (1 * 2 ^ (hash / 2 ^ 28) % 2 ^ 16) }

-- a slot of the chain is put into the bucket, or before the others of its list
pub bucket_in : (f t : ℕ → ℕ) (b i : ℕ) → f i ≡ b → (bucket_of f t b i).count < 7 → bucket_of f t b (suc i) ≡ with_entry (bucket_of f t b i) i (t i)
bucket_in f t b i is lt = bucket_yes f t b i is ∙ ap (λ q. cond q (with_entry (bucket_of f t b i) i (t i)) (with_listed (bucket_of f t b i) i (t i))) (lt-ltb (bucket_of f t b i).count 7 lt)

pub bucket_out : (f t : ℕ → ℕ) (b i : ℕ) → f i ≡ b → 7 ≤ (bucket_of f t b i).count → bucket_of f t b (suc i) ≡ with_listed (bucket_of f t b i) i (t i)
bucket_out f t b i is le = bucket_yes f t b i is ∙ ap (λ q. cond q (with_entry (bucket_of f t b i) i (t i)) (with_listed (bucket_of f t b i) i (t i))) (le-ltb (bucket_of f t b i).count 7 le)

module _ (f t : ℕ → ℕ) (b : ℕ) where
  abbrev bucket : ℕ → Bucket
  bucket i = bucket_of f t b i

  -- what a property of buckets has to pass to hold of each
  each : (P : ℕ → Bucket → Type 0) → P 0 no_bucket
      → ((i : ℕ) → f i ≡ b → (bucket i).count < 7 → P i (bucket i) → P (suc i) (with_entry (bucket i) i (t i)))
      → ((i : ℕ) → f i ≡ b → 7 ≤ (bucket i).count → P i (bucket i) → P (suc i) (with_listed (bucket i) i (t i)))
      → ((i : ℕ) → f i ≢ b → P i (bucket i) → P (suc i) (bucket i))
      → (i : ℕ) → P i (bucket i)
  each P none in_bucket in_list other zero = subst (λ (x : Bucket). P 0 x) (sym (bucket_none f t b)) none
  each P none in_bucket in_list other (suc i) =
      let rest : P i (bucket i) = each P none in_bucket in_list other i in
      elim (cases_eq (f i) b) [
        | inl is ↦ elim (cases_lt (bucket i).count 7) [
          | inl lt ↦ subst (λ (x : Bucket). P (suc i) x) (sym (bucket_in f t b i is lt)) (in_bucket i is lt rest)
          | inr le ↦ subst (λ (x : Bucket). P (suc i) x) (sym (bucket_out f t b i is le)) (in_list i is le rest)
        ]
        | inr apart ↦ subst (λ (x : Bucket). P (suc i) x) (sym (bucket_no f t b i apart)) (other i apart rest)
      ]

  pub count_le : (i : ℕ) → (bucket_of f t b i).count ≤ 7
  count_le = each (λ i x. x.count ≤ 7) (omega arith) (λ i is lt rest. omega arith) (λ i is le rest. rest) (λ i apart rest. rest)

  pub link_le : (i : ℕ) → (bucket_of f t b i).link ≤ i
  link_le = each (λ i x. x.link ≤ i) (omega arith) (λ i is lt rest. omega arith) (λ i is le rest. omega arith) (λ i apart rest. omega arith)

  -- a bucket with room has no list
  pub no_list : (i : ℕ) → (bucket_of f t b i).count < 7 → (bucket_of f t b i).link ≡ 0
  no_list = each (λ i x. x.count < 7 → x.link ≡ 0) (λ lt. refl) (λ i is lt rest less. rest lt) (λ i is le rest less. absurd (omega arith)) (λ i apart rest. rest)

  pub sizes : (i : ℕ) → (length (bucket_of f t b i).hashes ≡ 7) × (length (bucket_of f t b i).places ≡ 7)
  sizes = each (λ i x. (length x.hashes ≡ 7) × (length x.places ≡ 7)) (refl, refl)
      (λ i is lt rest. (length-set (bucket i).hashes (bucket i).count (t i) ∙ rest.0, length-set (bucket i).places (bucket i).count i ∙ rest.1))
      (λ i is le rest. rest) (λ i apart rest. rest)

  count_step : (i : ℕ) → (bucket_of f t b i).count ≤ (bucket_of f t b (suc i)).count
  count_step i = elim (cases_eq (f i) b) [
    | inl is ↦ elim (cases_lt (bucket i).count 7) [
      | inl lt ↦ let e : (bucket (suc i)).count ≡ (bucket i).count + 1 = ap (λ (x : Bucket). x.count) (bucket_in f t b i is lt) in omega arith
      | inr le ↦ let e : (bucket (suc i)).count ≡ (bucket i).count = ap (λ (x : Bucket). x.count) (bucket_out f t b i is le) in omega arith
    ]
    | inr apart ↦ let e : (bucket (suc i)).count ≡ (bucket i).count = ap (λ (x : Bucket). x.count) (bucket_no f t b i apart) in omega arith
  ]

  pub count_mono : (j i : ℕ) → j ≤ i → (bucket_of f t b j).count ≤ (bucket_of f t b i).count
  count_mono j zero le = let same : j ≡ 0 = omega arith in let e : (bucket j).count ≡ (bucket 0).count = ap (λ k. (bucket k).count) same in omega arith
  count_mono j (suc i) le = elim (cases_eq j (suc i)) [
    | inl same ↦ let e : (bucket j).count ≡ (bucket (suc i)).count = ap (λ k. (bucket k).count) same in omega arith
    | inr apart ↦ let before : (bucket j).count ≤ (bucket i).count = count_mono j i (omega arith) in let step : (bucket i).count ≤ (bucket (suc i)).count = count_step i in omega arith
  ]

  pub count_grows : (k i : ℕ) → k < i → f k ≡ b → (bucket_of f t b k).count < 7 → (bucket_of f t b k).count < (bucket_of f t b i).count
  count_grows k i lt is less =
      let e : (bucket (suc k)).count ≡ (bucket k).count + 1 = ap (λ (x : Bucket). x.count) (bucket_in f t b k is less) in
      let le : (bucket (suc k)).count ≤ (bucket i).count = count_mono (suc k) i (omega arith) in
      omega arith

  -- slots of other chains make no difference
  pub bucket_skip : (j i : ℕ) → j ≤ i → ((k : ℕ) → j ≤ k → k < i → f k ≢ b) → bucket_of f t b i ≡ bucket_of f t b j
  bucket_skip j zero le none = ap (λ k. bucket k) (let e : 0 ≡ j = omega arith in e)
  bucket_skip j (suc i) le none = elim (cases_eq j (suc i)) [
    | inl same ↦ ap (λ k. bucket k) (sym same)
    | inr apart ↦
        let before : j ≤ i = omega arith in
        bucket_no f t b i (none i before (omega arith)) ∙ bucket_skip j i before (λ k low high. none k low (omega arith))
  ]

  -- the place and the hash that a bucket has of one of its slots
  pub entry_is : (k i : ℕ) → k < i → f k ≡ b → (bucket_of f t b k).count < 7 → (get_or (bucket_of f t b i).places (bucket_of f t b k).count 0 ≡ k) × (get_or (bucket_of f t b i).hashes (bucket_of f t b k).count 0 ≡ t k)
  entry_is k zero lt is less = absurd (omega arith)
  entry_is k (suc i) lt is less = elim (cases_eq k i) [
    | inl same ↦
        let is_i : f i ≡ b = subst (λ (m : ℕ). f m ≡ b) same is in
        let less_i : (bucket i).count < 7 = subst (λ (m : ℕ). (bucket m).count < 7) same less in
        let size = sizes i in
        let at_places : (bucket i).count < length (bucket i).places = let e = size.1 in omega arith in
        let at_hashes : (bucket i).count < length (bucket i).hashes = let e = size.0 in omega arith in
        let more = bucket_in f t b i is_i less_i in (
          ap (λ m. get_or (bucket (suc i)).places (bucket m).count 0) same ∙ ap (λ (x : Bucket). get_or x.places (bucket i).count 0) more ∙ get_or-set_same (bucket i).places (bucket i).count i 0 at_places ∙ sym same,
          ap (λ m. get_or (bucket (suc i)).hashes (bucket m).count 0) same ∙ ap (λ (x : Bucket). get_or x.hashes (bucket i).count 0) more ∙ get_or-set_same (bucket i).hashes (bucket i).count (t i) 0 at_hashes ∙ ap t (sym same),
        )
    | inr apart ↦
        let before : k < i = omega arith in
        let rest = entry_is k i before is less in
        elim (cases_eq (f i) b) [
          | inl here ↦ elim (cases_lt (bucket i).count 7) [
            | inl room ↦
                let grows : (bucket k).count < (bucket i).count = count_grows k i before is less in
                let other : (bucket k).count ≢ (bucket i).count = omega arith in
                let more = bucket_in f t b i here room in (
                  ap (λ (x : Bucket). get_or x.places (bucket k).count 0) more ∙ get_or-set_other (bucket i).places (bucket i).count (bucket k).count i 0 other ∙ rest.0,
                  ap (λ (x : Bucket). get_or x.hashes (bucket k).count 0) more ∙ get_or-set_other (bucket i).hashes (bucket i).count (bucket k).count (t i) 0 other ∙ rest.1,
                )
            | inr full ↦ (ap (λ (x : Bucket). get_or x.places (bucket k).count 0) (bucket_out f t b i here full) ∙ rest.0, ap (λ (x : Bucket). get_or x.hashes (bucket k).count 0) (bucket_out f t b i here full) ∙ rest.1)
          ]
          | inr away ↦ (ap (λ (x : Bucket). get_or x.places (bucket k).count 0) (bucket_no f t b i away) ∙ rest.0, ap (λ (x : Bucket). get_or x.hashes (bucket k).count 0) (bucket_no f t b i away) ∙ rest.1)
        ]
  ]

  -- each place in a bucket up to its count is that of a slot of the chain
  pub entry_there : (i e : ℕ) → e < (bucket_of f t b i).count → (k : ℕ) × (k < i) × (f k ≡ b) × ((bucket_of f t b k).count ≡ e)
  entry_there zero e lt = let c : (bucket 0).count ≡ 0 = ap (λ (x : Bucket). x.count) (bucket_none f t b) in absurd (omega arith)
  entry_there (suc i) e lt = elim (cases_lt e (bucket i).count) [
    | inl before ↦ let found = entry_there i e before in (found.0, (let l : found.0 < i = found.1 in omega arith), found.2, found.3)
    | inr past ↦ elim (cases_eq (f i) b) [
      | inl here ↦ elim (cases_lt (bucket i).count 7) [
        | inl room ↦ let c : (bucket (suc i)).count ≡ (bucket i).count + 1 = ap (λ (x : Bucket). x.count) (bucket_in f t b i here room) in (i, omega arith, here, omega arith)
        | inr full ↦ let c : (bucket (suc i)).count ≡ (bucket i).count = ap (λ (x : Bucket). x.count) (bucket_out f t b i here full) in absurd (omega arith)
      ]
      | inr away ↦ let c : (bucket (suc i)).count ≡ (bucket i).count = ap (λ (x : Bucket). x.count) (bucket_no f t b i away) in absurd (omega arith)
    ]
  ]

  -- no slot of the list comes after its first
  pub after_list : (i k : ℕ) → (bucket_of f t b i).link ≤ k → k < i → f k ≡ b → (bucket_of f t b k).count < 7
  after_list zero k low high is = absurd (omega arith)
  after_list (suc i) k low high is = elim (cases_eq (f i) b) [
    | inl here ↦ elim (cases_lt (bucket i).count 7) [
      | inl room ↦
          let le : (bucket k).count ≤ (bucket i).count = count_mono k i (omega arith) in
          omega arith
      | inr full ↦ let e : (bucket (suc i)).link ≡ i + 1 = ap (λ (x : Bucket). x.link) (bucket_out f t b i here full) in absurd (omega arith)
    ]
    | inr away ↦
        let e : (bucket (suc i)).link ≡ (bucket i).link = ap (λ (x : Bucket). x.link) (bucket_no f t b i away) in
        elim (cases_eq k i) [
          | inl same ↦ absurd (away (subst (λ (m : ℕ). f m ≡ b) same is))
          | inr apart ↦ after_list i k (omega arith) (omega arith) is
        ]
  ]

  -- the first slot of the list belongs to the chain, and came when the bucket was full
  pub at_link : (i j : ℕ) → (bucket_of f t b i).link ≡ suc j → (f j ≡ b) × (j < i) × (7 ≤ (bucket_of f t b j).count)
  at_link zero j is = let e : (bucket 0).link ≡ 0 = ap (λ (x : Bucket). x.link) (bucket_none f t b) in absurd (omega arith)
  at_link (suc i) j is = elim (cases_eq (f i) b) [
    | inl here ↦ elim (cases_lt (bucket i).count 7) [
      | inl room ↦
          let e : (bucket (suc i)).link ≡ (bucket i).link = ap (λ (x : Bucket). x.link) (bucket_in f t b i here room) in
          let none : (bucket i).link ≡ 0 = no_list i room in
          absurd (omega arith)
      | inr full ↦
          let e : (bucket (suc i)).link ≡ i + 1 = ap (λ (x : Bucket). x.link) (bucket_out f t b i here full) in
          let last : i ≡ j = omega arith in
          (subst (λ (m : ℕ). f m ≡ b) last here, omega arith, subst (λ (m : ℕ). 7 ≤ (bucket m).count) last full)
    ]
    | inr away ↦
        let e : (bucket (suc i)).link ≡ (bucket i).link = ap (λ (x : Bucket). x.link) (bucket_no f t b i away) in
        let found = at_link i j (sym e ∙ is) in
        (found.0, (let lt : j < i = found.1 in omega arith), found.2)
  ]

  pub link_after : (j : ℕ) → f j ≡ b → 7 ≤ (bucket_of f t b j).count → (bucket_of f t b (suc j)).link ≡ suc j
  link_after j is full = let e : (bucket (suc j)).link ≡ j + 1 = ap (λ (x : Bucket). x.link) (bucket_out f t b j is full) in omega arith

  newest_at : (i l : ℕ) → (bucket_of f t b i).link ≡ l → (bucket_of f t b l).link ≡ l
  newest_at i zero is = ap (λ (x : Bucket). x.link) (bucket_none f t b)
  newest_at i (suc j) is = let found = at_link i j is in link_after j found.0 found.2

  pub link_newest : (i : ℕ) → (bucket_of f t b (bucket_of f t b i).link).link ≡ (bucket_of f t b i).link
  link_newest i = newest_at i (bucket i).link refl

  -- the last slot in a bucket without a list
  pub last_entry : (m e : ℕ) → (bucket_of f t b m).count ≡ suc e → (bucket_of f t b m).link ≡ 0 → (q : ℕ) × (q < m) × (f q ≡ b) × ((bucket_of f t b q).count ≡ e) × ((k : ℕ) → suc q ≤ k → k < m → f k ≢ b)
  last_entry m e count none =
      let found = entry_there m e (omega arith) in
      let q = found.0 in
      let at : (bucket q).count ≡ e = found.3 in
      let most : (bucket m).count ≤ 7 = count_le m in (
        found.0,
        found.1,
        found.2,
        found.3,
        (λ k low high is.
            let room : (bucket k).count < 7 = after_list m k (omega arith) high is in
            let grows : (bucket k).count < (bucket m).count = count_grows k m high is room in
            let first : (bucket q).count < (bucket k).count = count_grows q k (omega arith) found.2 (omega arith) in
            absurd (omega arith)),
      )

-- the same chains have the same bucket
pub bucket_agrees : (f t g u : ℕ → ℕ) (b i : ℕ) → ((k : ℕ) → k < i → (f k ≡ b → g k ≡ b) × (g k ≡ b → f k ≡ b)) → ((k : ℕ) → k < i → t k ≡ u k) → bucket_of f t b i ≡ bucket_of g u b i
bucket_agrees f t g u b zero chains hashes = bucket_none f t b ∙ sym (bucket_none g u b)
bucket_agrees f t g u b (suc i) chains hashes =
    let rest : bucket_of f t b i ≡ bucket_of g u b i = bucket_agrees f t g u b i (λ k lt. chains k (omega arith)) (λ k lt. hashes k (omega arith)) in
    let here : i < suc i = omega arith in
    elim (cases_eq (f i) b) [
      | inl is ↦ bucket_yes f t b i is ∙ (λ q. bucket_with (rest q) i (hashes i here q)) ∙ sym (bucket_yes g u b i ((chains i here).0 is))
      | inr apart ↦ bucket_no f t b i apart ∙ rest ∙ sym (bucket_no g u b i (λ is. apart ((chains i here).1 is)))
    ]

-- a part of a chain fills a bucket no further
pub count_less : (f t g u : ℕ → ℕ) (b c i : ℕ) → ((k : ℕ) → f k ≡ b → g k ≡ c) → (bucket_of f t b i).count ≤ (bucket_of g u c i).count
count_less f t g u b c zero part =
    let e : (bucket_of f t b 0).count ≡ 0 = ap (λ (x : Bucket). x.count) (bucket_none f t b) in
    omega arith
count_less f t g u b c (suc i) part =
    let rest : (bucket_of f t b i).count ≤ (bucket_of g u c i).count = count_less f t g u b c i part in
    let more : (bucket_of g u c i).count ≤ (bucket_of g u c (suc i)).count = count_mono g u c i (suc i) (omega arith) in
    elim (cases_eq (f i) b) [
      | inl is ↦ elim (cases_lt (bucket_of f t b i).count 7) [
        | inl room ↦
            let e : (bucket_of f t b (suc i)).count ≡ (bucket_of f t b i).count + 1 = ap (λ (x : Bucket). x.count) (bucket_in f t b i is room) in
            elim (cases_lt (bucket_of g u c i).count 7) [
              | inl space ↦ let d : (bucket_of g u c (suc i)).count ≡ (bucket_of g u c i).count + 1 = ap (λ (x : Bucket). x.count) (bucket_in g u c i (part i is) space) in omega arith
              | inr full ↦ omega arith
            ]
        | inr full ↦ let e : (bucket_of f t b (suc i)).count ≡ (bucket_of f t b i).count = ap (λ (x : Bucket). x.count) (bucket_out f t b i is full) in omega arith
      ]
      | inr apart ↦ let e : (bucket_of f t b (suc i)).count ≡ (bucket_of f t b i).count = ap (λ (x : Bucket). x.count) (bucket_no f t b i apart) in omega arith
    ]

one_or_less : (n : ℕ) → n < 2 → max 1 n ≡ 1
one_or_less n lt = omega arith

-- the filter has the bit of each hash in the list
pub filter_has : (f t : ℕ → ℕ) (b i k : ℕ) → ((j : ℕ) → t j < 2 ^ 32) → k < i → f k ≡ b → 7 ≤ (bucket_of f t b k).count → bit_at (bucket_of f t b i).filter (t k / 2 ^ 28) ≡ 1
filter_has f t b zero k small lt is full = absurd (omega arith)
filter_has f t b (suc i) k small lt is full = elim (cases_eq (f i) b) [
  | inl here ↦ elim (cases_lt (bucket_of f t b i).count 7) [
    | inl room ↦
        let le : (bucket_of f t b k).count ≤ (bucket_of f t b i).count = count_mono f t b k i (omega arith) in
        absurd (omega arith)
    | inr out ↦
        let e : (bucket_of f t b (suc i)).filter ≡ bit_or (bucket_of f t b i).filter (1 * 2 ^ (t i / 2 ^ 28) % 2 ^ 16) = ap (λ (x : Bucket). x.filter) (bucket_out f t b i here out) in
        elim (cases_eq k i) [
          | inl same ↦
              let within : t i / 2 ^ 28 < 16 = let s = small i in omega arith in
              ap (λ n. bit_at (bucket_of f t b (suc i)).filter (t n / 2 ^ 28)) same ∙ ap (λ n. bit_at n (t i / 2 ^ 28)) e ∙ bit_at_set_same w16 (bucket_of f t b i).filter (t i / 2 ^ 28) within
          | inr other ↦
              let before : k < i = omega arith in
              let had : bit_at (bucket_of f t b i).filter (t k / 2 ^ 28) ≡ 1 = filter_has f t b i k small before is full in
              let bits : bit_at (bit_or (bucket_of f t b i).filter (1 * 2 ^ (t i / 2 ^ 28) % 2 ^ 16)) (t k / 2 ^ 28) ≡ max (bit_at (bucket_of f t b i).filter (t k / 2 ^ 28)) (bit_at (1 * 2 ^ (t i / 2 ^ 28) % 2 ^ 16) (t k / 2 ^ 28)) = bit_at_or (bucket_of f t b i).filter (1 * 2 ^ (t i / 2 ^ 28) % 2 ^ 16) (t k / 2 ^ 28) in
              let small_bit : bit_at (1 * 2 ^ (t i / 2 ^ 28) % 2 ^ 16) (t k / 2 ^ 28) < 2 = bit_at-lt (1 * 2 ^ (t i / 2 ^ 28) % 2 ^ 16) (t k / 2 ^ 28) in
              ap (λ n. bit_at n (t k / 2 ^ 28)) e ∙ bits ∙ ap (λ n. max n (bit_at (1 * 2 ^ (t i / 2 ^ 28) % 2 ^ 16) (t k / 2 ^ 28))) had ∙ one_or_less (bit_at (1 * 2 ^ (t i / 2 ^ 28) % 2 ^ 16) (t k / 2 ^ 28)) small_bit
        ]
  ]
  | inr away ↦
      let e : (bucket_of f t b (suc i)).filter ≡ (bucket_of f t b i).filter = ap (λ (x : Bucket). x.filter) (bucket_no f t b i away) in
      elim (cases_eq k i) [
        | inl same ↦ absurd (away (subst (λ (m : ℕ). f m ≡ b) same is))
        | inr other ↦ ap (λ n. bit_at n (t k / 2 ^ 28)) e ∙ filter_has f t b i k small (omega arith) is full
      ]
]
