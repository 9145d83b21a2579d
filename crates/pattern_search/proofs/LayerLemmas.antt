-- Sets of nodes, the steps of the search by layers, and why it finds the values, where each edge costs the same.
use Rattle.std.proofs.Common.{◌≡◌, ◌≢◌, ◌⊎◌, ◌↔◌, ℕ, zero, suc, ◌+◌, ◌-◌, ◌*◌, ◌/◌, ◌%◌, ◌^◌, ◌<◌, ◌≤◌, max, List, length, refl, sym, ap, ◌∙◌, subst, ⊎_elim, inl, inr, arith, Bool, false, ◌||◌, get_or, replicate, min, Some, [], true}
use Rattle.std.specs.Prelude.{slice_index, slice_get}
use Rattle.std.specs.Int.{bit_at, w64, trailing_zeros, bit_not}
use Rattle.std.specs.Int.Bits.{bit_and, bit_or}
use Rattle.std.proofs.Math.ListN.{set, length-set}
use Rattle.std.proofs.lemmas.Bool.{cases_eq, cases_lt, or_parts, false≢true}
use Rattle.std.proofs.lemmas.List.{get_or-set_same, get_or-set_other, get_or_read, length-replicate, get_or-replicate, get_or_past}
use Rattle.std.proofs.lemmas.Nat.{and_le_r, div-mul-add, mod-mul-add, one_shl, mul-add-lt, div_below, mod_below, div-add-mod'}
use Rattle.std.proofs.lemmas.Nat.Bits.{bit_at-lt, bit_at-suc, bit_at_lowest, bit_at_or, bit_at_and, bit_at-pow_same, bit_at-pow_other, bit_at-trailing_zeros, bit_at_not, bit_at-zero}
use Rattle.std.proofs.lemmas.Option.{same_Some, slice_get_read}
use Rattle.std.proofs.Math.Nat.{mul-le-mul_right, le-mul_of_pos_right, lt_of_mul-lt-mul_right}
use Rattle.pattern_index.specs.Laws.{factorial}
use Rattle.pattern_graph.specs.Orders.{moved_order, tile_of}
use Rattle.pattern_graph.specs.declared.edges.Edge.{Edge}
use Rattle.pattern_graph.specs.Regions.{HasEdge, IsRegions}
use Rattle.pattern_graph.specs.Graphs.{node_count, IsSoundGraph, node_in}
use Rattle.pattern_graph.specs.declared.graph.Graph.{Graph}
use Rattle.pattern_graph.proofs.OrderTables.{moved_low, moved_start, moved_end, tile_low}
use Rattle.pattern_search.specs.Layers.{Has, IsIn, IsUnion, IsNodeSet, AreBelow, IsWritten, IsMovedFrom, IsLed, IsSetOf, AreLayers, IsAtStart, IsFresh, IsLedFresh, IsWordPassed, IsRegionPassed, IsLayerPassed}
use Rattle.pattern_search.specs.declared.layers.NodeSet.{NodeSet}
use Rattle.pattern_search.specs.declared.layers.Layers.{Layers}
use Rattle.pattern_search.specs.declared.finding.TheConstants.{NO_VALUE}
use Rattle.board.specs.Boards.{BoardModel}
use Rattle.board.specs.Weights.{WeightsModel}
use Rattle.pattern_index.specs.Views.{ViewModel, view_of}
use Rattle.pattern_index.specs.Groups.{GroupModel, abstraction_of}
use Rattle.pattern_graph.specs.declared.regions.Regions.{Regions}
use Rattle.pattern_graph.proofs.GraphLemmas.{IsParted, parted}
use Rattle.pattern_search.specs.Searches.{IsValue, IsSought, AreFound}
use Rattle.pattern_search.specs.declared.finding.Found.{Found}
use Rattle.pattern_search.proofs.SearchLemmas.{none_some, Quest, IsViewOf, node, count_of, HasGraph, Passes, IsReached, IsUnderWay, reached_past, values_are, quest_of}

-- ---- one word of a set is written

-- a word of a region is at one index alone
same_word : (width r k region place : ℕ) → k < width → place < width → r * width + k ≡ region * width + place → (r ≡ region) × (k ≡ place)
same_word width r k region place k_low low e = (
  sym (div-mul-add r width k k_low) ∙ ap (λ n. n / width) e ∙ div-mul-add region width place low,
  sym (mod-mul-add r width k k_low) ∙ ap (λ n. n % width) e ∙ mod-mul-add region width place low,
)

one_of : (a b : ℕ) → a < 2 → b < 2 → max a b ≡ 1 → (a ≡ 1) ⊎ (b ≡ 1)
one_of a b la lb e = grind arith

first_is : (a b : ℕ) → b < 2 → a ≡ 1 → max a b ≡ 1
first_is a b lb e = omega arith

second_is : (a b : ℕ) → a < 2 → b ≡ 1 → max a b ≡ 1
second_is a b la e = omega arith

-- the bits of a word are set, beside those that it has
pub words_joined : (s s' : NodeSet) (region place bits : ℕ) → place < s.width → region * s.width + place < length s.words.items
    → s'.width ≡ s.width
    → s'.words.items ≡ set s.words.items (region * s.width + place) (bit_or (slice_index s.words.items (region * s.width + place)) bits)
    → IsUnion (λ r order. (r ≡ region) × IsIn place bits order) s s'
words_joined s s' region place bits low inside width items = record {
  width = width;
  size = ap length items ∙ length-set s.words.items index word;
  members = λ r order lt. ⊎_elim
      (λ (e : r * s.width + order / 64 ≡ index). here r order lt e)
      (λ (ne : r * s.width + order / 64 ≢ index). elsewhere r order ne)
      (cases_eq (r * s.width + order / 64) index);
}
  where
    index : ℕ
    index = region * s.width + place

    old : ℕ
    old = slice_index s.words.items index

    word : ℕ
    word = bit_or old bits

    read : (r order : ℕ) → slice_index s'.words.items (r * s'.width + order / 64) ≡ slice_index (set s.words.items index word) (r * s.width + order / 64)
    read r order = λ i. slice_index (items i) (r * width i + order / 64)

    here : (r order : ℕ) → order < 64 * s.width → r * s.width + order / 64 ≡ index
        → Has s' r order ↔ (Has s r order ⊎ ((r ≡ region) × IsIn place bits order))
    here r order lt e =
        let same = same_word s.width r (order / 64) region place (omega arith) low e in
        let was : slice_index s.words.items (r * s.width + order / 64) ≡ old = ap (slice_index s.words.items) e in
        let is : slice_index s'.words.items (r * s'.width + order / 64) ≡ word =
        read r order ∙ ap (slice_index (set s.words.items index word)) e ∙ get_or-set_same s.words.items index word 0 inside in
        let bit : bit_at (slice_index s'.words.items (r * s'.width + order / 64)) (order % 64) ≡ max (bit_at old (order % 64)) (bit_at bits (order % 64)) =
        ap (λ w. bit_at w (order % 64)) is ∙ bit_at_or old bits (order % 64) in (
          λ has. ⊎_elim
              (λ (b : bit_at old (order % 64) ≡ 1). inl (ap (λ w. bit_at w (order % 64)) was ∙ b))
              (λ (b : bit_at bits (order % 64) ≡ 1). inr (same.0, (same.1, b)))
              (one_of (bit_at old (order % 64)) (bit_at bits (order % 64)) (bit_at-lt old (order % 64)) (bit_at-lt bits (order % 64)) (sym bit ∙ has)),
          ⊎_elim
              (λ (has : Has s r order). bit ∙ first_is (bit_at old (order % 64)) (bit_at bits (order % 64)) (bit_at-lt bits (order % 64)) (sym (ap (λ w. bit_at w (order % 64)) was) ∙ has))
              (λ (added : (r ≡ region) × IsIn place bits order). bit ∙ second_is (bit_at old (order % 64)) (bit_at bits (order % 64)) (bit_at-lt old (order % 64)) added.1.1),
        )

    elsewhere : (r order : ℕ) → r * s.width + order / 64 ≢ index → Has s' r order ↔ (Has s r order ⊎ ((r ≡ region) × IsIn place bits order))
    elsewhere r order ne =
        let is : slice_index s'.words.items (r * s'.width + order / 64) ≡ slice_index s.words.items (r * s.width + order / 64) =
        read r order ∙ get_or-set_other s.words.items index (r * s.width + order / 64) word 0 ne in
        let bit = ap (λ w. bit_at w (order % 64)) is in (
          λ has. inl (sym bit ∙ has),
          ⊎_elim
              (λ (has : Has s r order). bit ∙ has)
              (λ (added : (r ≡ region) × IsIn place bits order). absurd (ne (λ i. added.0 i * s.width + added.1.0 i))),
        )

-- ---- unions

-- the same nodes are added
pub same_added : (A B : ℕ → ℕ → Type 0) (s s' : NodeSet) → IsUnion A s s' → ((r order : ℕ) → A r order ↔ B r order) → IsUnion B s s'
same_added A B s s' union same = record {
  width = union.width;
  size = union.size;
  members = λ r order lt. let m = union.members r order lt in (
    λ has. ⊎_elim (λ (h : Has s r order). inl h) (λ (a : A r order). inr ((same r order).0 a)) (m.0 has),
    ⊎_elim (λ (h : Has s r order). m.1 (inl h)) (λ (b : B r order). m.1 (inr ((same r order).1 b))),
  );
}

-- nodes are added, and then others
pub both_added : (A B C : ℕ → ℕ → Type 0) (s m s' : NodeSet) → IsUnion A s m → IsUnion B m s'
    → ((r order : ℕ) → C r order → A r order ⊎ B r order) → ((r order : ℕ) → A r order → C r order) → ((r order : ℕ) → B r order → C r order)
    → IsUnion C s s'
both_added A B C s m s' first second split from_first from_second = record {
  width = second.width ∙ first.width;
  size = second.size ∙ first.size;
  members = λ r order lt. let f = first.members r order lt in
      let t = second.members r order (subst (λ w. order < 64 * w) (sym first.width) lt) in (
        λ has. ⊎_elim
            (λ (h : Has m r order). ⊎_elim (λ (g : Has s r order). inl g) (λ (a : A r order). inr (from_first r order a)) (f.0 h))
            (λ (b : B r order). inr (from_second r order b)) (t.0 has),
        ⊎_elim
            (λ (h : Has s r order). t.1 (inl (f.1 (inl h))))
            (λ (c : C r order). ⊎_elim (λ (a : A r order). t.1 (inl (f.1 (inr a)))) (λ (b : B r order). t.1 (inr b)) (split r order c)),
      );
}

-- no node is added
pub none_added : (A : ℕ → ℕ → Type 0) (s : NodeSet) → ((r order : ℕ) → ¬ A r order) → IsUnion A s s
none_added A s none = record {
  width = refl;
  size = refl;
  members = λ r order lt. (λ has. inl has, ⊎_elim (λ (h : Has s r order). h) (λ (a : A r order). absurd (none r order a)));
}

-- one order is in a word with one set bit
pub one_order : (order other : ℕ) → IsIn (order / 64) (1 * 2 ^ (order % 64) % 2 ^ 64) other ↔ (other ≡ order)
one_order order other = (
  λ is. ⊎_elim
      (λ (e : other % 64 ≡ order % 64). let place = is.0 in omega arith)
      (λ (ne : other % 64 ≢ order % 64). absurd (let none = bit_at-pow_other (order % 64) (other % 64) ne in let bit = bit_is (other % 64) in let one = is.1 in omega arith))
      (cases_eq (other % 64) (order % 64)),
  λ e. (ap (λ n. n / 64) e, ap (λ n. bit_at (1 * 2 ^ (order % 64) % 2 ^ 64) (n % 64)) e ∙ bit_is (order % 64) ∙ bit_at-pow_same (order % 64)),
)
  where
    word_is : 1 * 2 ^ (order % 64) % 2 ^ 64 ≡ 2 ^ (order % 64)
    word_is = one_shl (order % 64) 64 (omega arith)

    bit_is : (i : ℕ) → bit_at (1 * 2 ^ (order % 64) % 2 ^ 64) i ≡ bit_at (2 ^ (order % 64)) i
    bit_is i = ap (λ w. bit_at w i) word_is

-- ---- the lowest set bit of a word is cleared

-- the step of the next lemma, from the half of an even number
less_one_above : (t n : ℕ) → n % 2 ≡ 0
    → (bit_at (n / 2 - 1) t ≡ 0) × ((i : ℕ) → t < i → bit_at (n / 2 - 1) i ≡ bit_at (n / 2) i)
    → (bit_at (n - 1) (suc t) ≡ 0) × ((i : ℕ) → suc t < i → bit_at (n - 1) i ≡ bit_at n i)
less_one_above t n even rest = (bit_at-suc (n - 1) t ∙ ap (λ m. bit_at m t) half ∙ rest.0, above)
  where
    half : (n - 1) / 2 ≡ n / 2 - 1
    half = omega arith

    above : (i : ℕ) → suc t < i → bit_at (n - 1) i ≡ bit_at n i
    above zero lt = absurd (omega arith)
    above (suc i) lt = bit_at-suc (n - 1) i ∙ ap (λ m. bit_at m i) half ∙ rest.1 i (omega arith) ∙ sym (bit_at-suc n i)

-- one less has no bit where the lowest was, and the same bits above it
less_one : (t n : ℕ) → bit_at n t ≡ 1 → ((i : ℕ) → i < t → bit_at n i ≡ 0)
    → (bit_at (n - 1) t ≡ 0) × ((i : ℕ) → t < i → bit_at (n - 1) i ≡ bit_at n i)
less_one zero n is below = (bit_at_lowest (n - 1) ∙ low, above)
  where
    odd : n % 2 ≡ 1
    odd = sym (bit_at_lowest n) ∙ is

    low : (n - 1) % 2 ≡ 0
    low = let o = odd in omega arith

    half : (n - 1) / 2 ≡ n / 2
    half = let o = odd in omega arith

    above : (i : ℕ) → 0 < i → bit_at (n - 1) i ≡ bit_at n i
    above zero lt = absurd (omega arith)
    above (suc i) lt = bit_at-suc (n - 1) i ∙ ap (λ m. bit_at m i) half ∙ sym (bit_at-suc n i)
less_one (suc t) n is below =
    less_one_above t n (sym (bit_at_lowest n) ∙ below 0 (omega arith))
    (less_one t (n / 2) (sym (bit_at-suc n t) ∙ is) (λ i lt. sym (bit_at-suc n i) ∙ below (suc i) (omega arith)))

-- what is known of a word when its lowest set bit is cleared
pub record IsCleared (word bit word' : ℕ) : Type 0 where
  pub low : bit < 64
  pub was : bit_at word bit ≡ 1
  pub is : bit_at word' bit ≡ 0
  pub others : (i : ℕ) → i ≢ bit → bit_at word' i ≡ bit_at word i
  pub less : word' < word

pub cleared : (word : ℕ) → word ≢ 0 → word < 2 ^ 64 → IsCleared word (trailing_zeros w64 word) (bit_and word (word - 1))
cleared word some fits = record {
  low = lowest.0;
  was = lowest.1;
  is = let none = less.0 in let b = bit_at_and word (word - 1) bit in omega arith;
  others = λ i ne. ⊎_elim
      (λ (lt : i < bit). let z = lowest.2 i lt in let b = bit_at_and word (word - 1) i in omega arith)
      (λ (le : bit ≤ i). let same = less.1 i (omega arith) in let b = bit_at_and word (word - 1) i in omega arith)
      (cases_lt i bit);
  less = let le = and_le_r word (word - 1) in omega arith;
}
  where
    bit : ℕ
    bit = trailing_zeros w64 word

    lowest : (bit < 64) × (bit_at word bit ≡ 1) × ((i : ℕ) → i < bit → bit_at word i ≡ 0)
    lowest = bit_at-trailing_zeros w64 word (omega arith) fits

    less : (bit_at (word - 1) bit ≡ 0) × ((i : ℕ) → bit < i → bit_at (word - 1) i ≡ bit_at word i)
    less = less_one bit word lowest.1 lowest.2

-- ---- the set bits of a word are passed one by one

-- a bit of the word that is not left
abbrev pub IsPassed : ℕ → ℕ → ℕ → ℕ → Type 0
IsPassed place bits left order = IsIn place bits order × (bit_at left (order % 64) ≡ 0)

-- the bits that are left are bits of the word
abbrev pub AreLeft : ℕ → ℕ → Type 0
AreLeft bits left = (i : ℕ) → bit_at left i ≡ 1 → bit_at bits i ≡ 1

-- what is left after is part of what was left before
left_less : (bits left bit left' : ℕ) → IsCleared left bit left' → AreLeft bits left → AreLeft bits left'
left_less bits left bit left' clear are i is = ⊎_elim
    (λ (e : i ≡ bit). absurd (let none = clear.is in let one : bit_at left' bit ≡ 1 = ap (bit_at left') (sym e) ∙ is in omega arith))
    (λ (ne : i ≢ bit). are i (sym (clear.others i ne) ∙ is))
    (cases_eq i bit)

-- the order of the bit that is cleared
pub order_here : (place bits left bit left' : ℕ) → IsCleared left bit left' → AreLeft bits left → IsIn place bits (64 * place + bit)
order_here place bits left bit left' clear are =
    let low = clear.low in
    let e : (64 * place + bit) % 64 ≡ bit = omega arith in
    (omega arith, ap (bit_at bits) e ∙ are bit clear.was)

-- that bit is passed then
passed_here : (place bits left bit left' : ℕ) → IsCleared left bit left' → AreLeft bits left → IsPassed place bits left' (64 * place + bit)
passed_here place bits left bit left' clear are =
    let low = clear.low in
    let e : (64 * place + bit) % 64 ≡ bit = omega arith in
    (order_here place bits left bit left' clear are, ap (bit_at left') e ∙ clear.is)

-- and so are those that were passed before
passed_before : (place bits left bit left' order : ℕ) → IsCleared left bit left' → IsPassed place bits left order → IsPassed place bits left' order
passed_before place bits left bit left' order clear passed = (
  passed.0,
  ⊎_elim
      (λ (e : order % 64 ≡ bit). ap (bit_at left') e ∙ clear.is)
      (λ (ne : order % 64 ≢ bit). clear.others (order % 64) ne ∙ passed.1)
      (cases_eq (order % 64) bit),
)

-- but no others
passed_or_here : (place bits left bit left' order : ℕ) → IsCleared left bit left' → IsPassed place bits left' order → IsPassed place bits left order ⊎ (order ≡ 64 * place + bit)
passed_or_here place bits left bit left' order clear passed = ⊎_elim
    (λ (e : order % 64 ≡ bit). inr (let p = passed.0.0 in omega arith))
    (λ (ne : order % 64 ≢ bit). inl (passed.0, sym (clear.others (order % 64) ne) ∙ passed.1))
    (cases_eq (order % 64) bit)

-- ---- a value is written at each set bit

-- the cost is at the place of each bit that is passed, and places without a set bit are kept
pub record IsWriting (first bits left cost : ℕ) (values values' : List ℕ) : Type 0 where
  pub size : length values' ≡ length values
  pub rest : AreLeft bits left
  pub written : (bit : ℕ) → IsPassed 0 bits left bit → slice_index values' (first + bit) ≡ cost
  pub kept : (k : ℕ) → ((bit : ℕ) → IsIn 0 bits bit → k ≢ first + bit) → slice_index values' k ≡ slice_index values k

zero_place : (bit : ℕ) → 64 * 0 + bit ≡ bit
zero_place bit = omega arith

-- where a value is written next there is a place
pub inside_here : (first bits left bit left' cost : ℕ) (values values' : List ℕ)
    → ((bit : ℕ) → IsIn 0 bits bit → first + bit < length values)
    → IsCleared left bit left' → IsWriting first bits left cost values values' → first + bit < length values'
inside_here first bits left bit left' cost values values' inside clear writing =
    let here = subst (IsIn 0 bits) (zero_place bit) (order_here 0 bits left bit left' clear writing.rest) in
    let lt = inside bit here in
    let size = writing.size in
    omega arith

-- the value is written at one bit more
pub one_written : (first bits left bit left' cost : ℕ) (values values' : List ℕ)
    → ((bit : ℕ) → IsIn 0 bits bit → first + bit < length values)
    → IsCleared left bit left' → IsWriting first bits left cost values values'
    → IsWriting first bits left' cost values (set values' (first + bit) cost)
one_written first bits left bit left' cost values values' inside clear writing = record {
  size = length-set values' (first + bit) cost ∙ writing.size;
  rest = left_less bits left bit left' clear writing.rest;
  written = λ other passed. ⊎_elim
      (λ (e : other ≡ bit). ap (λ b. slice_index (set values' (first + bit) cost) (first + b)) e
      ∙ get_or-set_same values' (first + bit) cost 0 (inside_here first bits left bit left' cost values values' inside clear writing))
      (λ (ne : other ≢ bit). get_or-set_other values' (first + bit) (first + other) cost 0 (λ e. ne (omega arith))
      ∙ writing.written other (before other ne passed))
      (cases_eq other bit);
  kept = λ k none. get_or-set_other values' (first + bit) k cost 0 (none bit here) ∙ writing.kept k none;
}
  where
    here : IsIn 0 bits bit
    here = subst (IsIn 0 bits) (zero_place bit) (order_here 0 bits left bit left' clear writing.rest)

    before : (other : ℕ) → other ≢ bit → IsPassed 0 bits left' other → IsPassed 0 bits left other
    before other ne passed = ⊎_elim
        (λ (p : IsPassed 0 bits left other). p)
        (λ (e : other ≡ 64 * 0 + bit). absurd (ne (e ∙ zero_place bit)))
        (passed_or_here 0 bits left bit left' other clear passed)

-- ---- a node is inserted for each set bit

-- from an order of a word, by moving a tile
abbrev pub IsPassedFrom : ℕ → Edge → ℕ → ℕ → ℕ → ℕ → Type 0
IsPassedFrom count e place bits left order = (from : ℕ) × IsPassed place bits left from × (order ≡ moved_order count from e.from e.to)

-- the nodes are inserted for the bits that are passed
pub record IsInserting (count : ℕ) (e : Edge) (place bits left : ℕ) (s s' : NodeSet) : Type 0 where
  pub rest : AreLeft bits left
  pub union : IsUnion (λ region order. (region ≡ e.region) × IsPassedFrom count e place bits left order) s s'

-- the node is inserted for one bit more
pub one_inserted : (count : ℕ) (e : Edge) (place bits left bit left' : ℕ) (s m s' : NodeSet)
    → IsCleared left bit left' → IsInserting count e place bits left s m
    → IsUnion (λ region order. (region ≡ e.region) × (order ≡ moved_order count (64 * place + bit) e.from e.to)) m s'
    → IsInserting count e place bits left' s s'
one_inserted count e place bits left bit left' s m s' clear before one = record {
  rest = left_less bits left bit left' clear before.rest;
  union = both_added Before One After s m s' before.union one split
      (λ region order a. (a.0, (a.1.0, passed_before place bits left bit left' a.1.0 clear a.1.1, a.1.2)))
      (λ region order b. (b.0, (64 * place + bit, passed_here place bits left bit left' clear before.rest, b.1)));
}
  where
    Before : ℕ → ℕ → Type 0
    Before region order = (region ≡ e.region) × IsPassedFrom count e place bits left order

    One : ℕ → ℕ → Type 0
    One region order = (region ≡ e.region) × (order ≡ moved_order count (64 * place + bit) e.from e.to)

    After : ℕ → ℕ → Type 0
    After region order = (region ≡ e.region) × IsPassedFrom count e place bits left' order

    split : (region order : ℕ) → After region order → Before region order ⊎ One region order
    split region order a = ⊎_elim
        (λ (p : IsPassed place bits left a.1.0). inl (a.0, (a.1.0, p, a.1.2)))
        (λ (here : a.1.0 ≡ 64 * place + bit). inr (a.0, a.1.2 ∙ ap (λ from. moved_order count from e.from e.to) here))
        (passed_or_here place bits left bit left' a.1.0 clear a.1.1)

-- ---- sets of nodes

-- there is room for each order
pub set_wide : (regions orders : ℕ) (s : NodeSet) → IsNodeSet regions orders s → orders ≤ 64 * s.width
set_wide regions orders s set = let width = set.width in omega arith

-- so each order is in a word of its region
pub place_within : (regions orders : ℕ) (s : NodeSet) (order : ℕ) → IsNodeSet regions orders s → order < orders → order / 64 < s.width
place_within regions orders s order set low = let width = set.width in omega arith

-- a word of a region is one of the set's
pub word_within : (regions orders : ℕ) (s : NodeSet) (region place : ℕ) → IsNodeSet regions orders s → region < regions → place < s.width → region * s.width + place < length s.words.items
word_within regions orders s region place set region_in place_in =
    let size = set.size in
    let inside : region * s.width + place < s.width * regions = mul-add-lt region s.width place regions region_in place_in in
    let turned : s.width * regions ≡ regions * s.width = omega arith in
    omega arith

-- so are all of a region
pub words_within : (regions orders : ℕ) (s : NodeSet) (region : ℕ) → IsNodeSet regions orders s → region < regions → suc region * s.width ≤ length s.words.items
words_within regions orders s region set region_in =
    let size = set.size in
    let le : suc region * s.width ≤ regions * s.width = mul-le-mul_right s.width region_in in
    omega arith

-- a set of nodes to which nodes are added is one
pub union_set : (regions orders : ℕ) (Added : ℕ → ℕ → Type 0) (s t : NodeSet) → ((region order : ℕ) → Added region order → order < orders) → IsNodeSet regions orders s → IsUnion Added s t → IsNodeSet regions orders t
union_set regions orders Added s t below set union = record {
  some = set.some;
  width = union.width ∙ set.width;
  size = union.size ∙ set.size ∙ ap (λ w. regions * w) (sym union.width);
  within = λ region order region_in low h.
      let low' : order < 64 * s.width = let width = union.width in omega arith in
      ⊎_elim (λ old. set.within region order region_in low' old) (λ added. below region order added) ((union.members region order low').0 h);
}

-- ---- the start

-- a node's region and order
pub node_parts : (orders regions node : ℕ) → 0 < orders → node < regions * orders → (node / orders < regions) × (node % orders < orders)
node_parts orders regions node some low = (div_below node orders regions some low, mod_below node orders some)

-- the set is of a graph's nodes
pub set_of : (g : Graph) (regions orders : ℕ) (s : NodeSet) → regions ≡ length g.regions.homes.items → orders ≡ factorial g.regions.count → IsNodeSet regions orders s → IsSetOf g s
set_of g regions orders s all each set = subst (λ n. IsNodeSet n (factorial g.regions.count) s) all (subst (λ n. IsNodeSet regions n s) each set)

-- no node has a value, and the start alone is in the layer
pub at_start : (g : Graph) (start regions orders : ℕ) (none : NodeSet) (l : Layers) → IsSoundGraph g → start < node_count g.regions → regions ≡ length g.regions.homes.items → orders ≡ factorial g.regions.count
    → l.graph ≡ g → l.values.items ≡ replicate (regions * orders) NO_VALUE
    → IsNodeSet regions orders l.seen → ((region order : ℕ) → ¬ Has l.seen region order)
    → IsNodeSet regions orders none → ((region order : ℕ) → ¬ Has none region order) → IsUnion (λ region order. (region ≡ start / orders) × (order ≡ start % orders)) none l.now
    → IsNodeSet regions orders l.next → ((region order : ℕ) → ¬ Has l.next region order) → IsAtStart g start l
at_start g start regions orders none l sound inside all each graph values seen seen_none set set_none union next next_none =
    let f : ℕ = factorial g.regions.count in
    let set' : IsSetOf g none = set_of g regions orders none all each set in
    let union' : IsUnion (λ region order. (region ≡ start / f) × (order ≡ start % f)) none l.now = subst (λ n. IsUnion (λ region order. (region ≡ start / n) × (order ≡ start % n)) none l.now) each union in
    let parts = node_parts f (length g.regions.homes.items) start set'.some inside in
    let now : IsSetOf g l.now = union_set (length g.regions.homes.items) f (λ region order. (region ≡ start / f) × (order ≡ start % f)) none l.now (λ region order added. subst (λ n. n < f) (sym added.1) parts.1) set' union' in
    let wide = set_wide (length g.regions.homes.items) f none set' in
    let filled : l.values.items ≡ replicate (node_count g.regions) NO_VALUE = values ∙ (λ i. replicate (all i * each i) NO_VALUE) in
    record {
      graph = graph;
      layers = record {
        sound = subst (λ (x : Graph). IsSoundGraph x) (sym graph) sound;
        one_each = subst (λ (x : Graph). length l.values.items ≡ node_count x.regions) (sym graph) (ap length filled ∙ length-replicate {A = ℕ} (node_count g.regions) NO_VALUE);
        seen = subst (λ (x : Graph). IsSetOf x l.seen) (sym graph) (set_of g regions orders l.seen all each seen);
        now = subst (λ (x : Graph). IsSetOf x l.now) (sym graph) now;
        next = subst (λ (x : Graph). IsSetOf x l.next) (sym graph) (set_of g regions orders l.next all each next);
      };
      values = filled;
      seen = seen_none;
      now = λ region order low h.
          let low' : order < 64 * none.width = let width = union'.width in omega arith in
          ⊎_elim (λ old. absurd (set_none region order old)) (λ added. added) ((union'.members region order low').0 h);
      here = (union'.members (start / f) (start % f) (omega (arith, parts.1))).1 (inr (refl, refl));
      next = next_none;
    }

-- where the start is put
pub start_place : (g : Graph) (start regions orders : ℕ) (none : NodeSet) → start < node_count g.regions → regions ≡ length g.regions.homes.items → orders ≡ factorial g.regions.count → IsNodeSet regions orders none → start / orders * none.width + start % orders / 64 < length none.words.items
start_place g start regions orders none inside all each set =
    let low : start < regions * orders = subst (λ n. start < n) (λ i. sym all i * sym each i) inside in
    let parts = node_parts orders regions start set.some low in
    word_within regions orders none (start / orders) (start % orders / 64) set parts.0 (place_within regions orders none (start % orders) set parts.1)

-- ---- the edges of a region

-- a tile that comes to where it was
moved_same : (count order from to : ℕ) → from ≡ to → order < factorial count → from < count → order ≡ moved_order count order from to
moved_same count order from to same low place = moved_end count order from from to order same (moved_start count order from low place)

-- one of the edges of a region up to some place leads to the node, from one whose bit is set
abbrev pub IsLedBy : Graph → ℕ → ℕ → ℕ → ℕ → ℕ → ℕ → Type 0
IsLedBy g region place bits end r order =
    (e : Edge) × ((at : ℕ) × (slice_index g.edges.starts.items region ≤ at) × (at < end) × (slice_get g.edges.edges.items at ≡ Some e)) × (r ≡ e.region) × IsMovedFrom g.regions.count e place bits order

-- the edges of a region begin and end at these places
pub record HasEnds (g : Graph) (region first end : ℕ) : Type 0 where
  pub from : first ≡ slice_index g.edges.starts.items region
  pub to : end ≡ slice_index g.edges.starts.items (suc region)
  pub rising : first ≤ end
  pub within : end ≤ length g.edges.edges.items

-- they are read from the list of starts
pub ends_at : (g : Graph) (region first end : ℕ) → IsSoundGraph g → region < length g.regions.homes.items → first ≡ get_or g.edges.starts.items region first → end ≡ get_or g.edges.starts.items (region + 1) end → HasEnds g region first end
ends_at g region first end sound region_in first_read end_read =
    let size = sound.starts in
    let from : first ≡ slice_index g.edges.starts.items region = get_or_read g.edges.starts.items region first (omega arith) first_read 0 in
    let to : end ≡ slice_index g.edges.starts.items (suc region) = get_or_read g.edges.starts.items (region + 1) end (omega arith) end_read 0 ∙ ap (slice_index g.edges.starts.items) (omega arith) in
    record {
      from = from;
      to = to;
      rising = let rising = sound.rising region region_in in omega arith;
      within = let within = sound.within region region_in in omega arith;
    }

-- what is known of an edge of a region
pub record IsEdgeAt (g : Graph) (region at : ℕ) (e : Edge) : Type 0 where
  pub read : slice_get g.edges.edges.items at ≡ Some e
  pub from : e.from < g.regions.count
  pub to : e.to < g.regions.count
  pub other : e.region < length g.regions.homes.items
  pub small : e.region < 2 ^ 64

-- it leads to a node, whatever the order
pub edge_at : (g : Graph) (region first end at : ℕ) (e : Edge) → IsSoundGraph g → region < length g.regions.homes.items → 0 < factorial g.regions.count → HasEnds g region first end → first ≤ at → at < end → e ≡ get_or g.edges.edges.items at e → IsEdgeAt g region at e
edge_at g region first end at e sound region_in some has above below read =
    let f : ℕ = factorial g.regions.count in
    let homes : ℕ = length g.regions.homes.items in
    let there : slice_get g.edges.edges.items at ≡ Some e = slice_get_read g.edges.edges.items (length g.edges.edges.items) at e refl (let within = has.within in omega arith) read in
    let node : region * f + 0 < node_count g.regions = let low : region * f + 0 < f * homes = mul-add-lt region f 0 homes region_in some in let turned : f * homes ≡ homes * f = omega arith in omega arith in
    let here : HasEdge g.edges region e = (at, let from = has.from in omega arith, let to = has.to in omega arith, there) in
    let ends = sound.ends (region * f + 0) e node (subst (λ r. HasEdge g.edges r e) (sym (div-mul-add region f 0 some)) here) in
    record {
      read = there;
      from = ends.0;
      to = ends.1;
      other = lt_of_mul-lt-mul_right f (let low = ends.2 in omega arith);
      small = let low = ends.2 in let few = sound.few in let more : e.region ≤ e.region * f = le-mul_of_pos_right e.region some in omega arith;
    }

-- the nodes to which edges up to some place lead are in the set
pub record IsLeading (g : Graph) (region place bits at : ℕ) (s t : NodeSet) : Type 0 where
  pub union : IsUnion (IsLedBy g region place bits at) s t
  pub next : IsSetOf g t

-- the edge at that place leads to more
pub leading_more : (g : Graph) (region place bits first end at : ℕ) (e : Edge) (s t u : NodeSet) → HasEnds g region first end → first ≤ at → IsEdgeAt g region at e → IsLeading g region place bits at s t
    → IsUnion (λ r order. (r ≡ e.region) × IsMovedFrom g.regions.count e place bits order) t u → IsLeading g region place bits (at + 1) s u
leading_more g region place bits first end at e s t u has above edge before more = record {
  union = both_added (IsLedBy g region place bits at) Moved (IsLedBy g region place bits (at + 1)) s t u before.union more split
      (λ r order led. (led.0, (led.1.0, led.1.1, let low = led.1.2 in omega arith, led.1.3), led.2, led.3))
      (λ r order moved. (e, (at, let from = has.from in omega arith, omega arith, edge.read), moved.0, moved.1));
  next = union_set (length g.regions.homes.items) (factorial g.regions.count) Moved t u (λ r order (moved : Moved r order). subst (λ n. n < factorial g.regions.count) (sym moved.1.2) (moved_low g.regions.count moved.1.0 e.from e.to)) before.next more;
}
  where
    Moved : ℕ → ℕ → Type 0
    Moved r order = (r ≡ e.region) × IsMovedFrom g.regions.count e place bits order

    split : (r order : ℕ) → IsLedBy g region place bits (at + 1) r order → IsLedBy g region place bits at r order ⊎ Moved r order
    split r order led =
        ⊎_elim
        (λ (last : led.1.0 ≡ at).
        let same : led.0 ≡ e = same_Some led.0 e (sym led.1.3 ∙ ap (slice_get g.edges.edges.items) last ∙ edge.read) in
        inr (subst (λ (x : Edge). (r ≡ x.region) × IsMovedFrom g.regions.count x place bits order) same (led.2, led.3)))
        (λ (other : led.1.0 ≢ at). inl (led.0, (led.1.0, led.1.1, let low = led.1.2 in omega arith, led.1.3), led.2, led.3))
        (cases_eq led.1.0 at)

-- where the tile comes to where it was, the orders are the same
pub all_moved : (g : Graph) (place bits : ℕ) (e : Edge) (t u : NodeSet) → e.from ≡ e.to → e.from < g.regions.count → AreBelow (factorial g.regions.count) place bits → IsUnion (λ r order. (r ≡ e.region) × IsIn place bits order) t u → IsUnion (λ r order. (r ≡ e.region) × IsMovedFrom g.regions.count e place bits order) t u
all_moved g place bits e t u same from below union =
    same_added (λ r order. (r ≡ e.region) × IsIn place bits order) (λ r order. (r ≡ e.region) × IsMovedFrom g.regions.count e place bits order) t u union
    (λ r order. (
      (λ (here : (r ≡ e.region) × IsIn place bits order). (here.0, (order, here.1, moved_same g.regions.count order e.from e.to same (below order here.1) from))),
      (λ (moved : (r ≡ e.region) × IsMovedFrom g.regions.count e place bits order).
          let old : ℕ = moved.1.0 in
          let is : old ≡ order = moved_same g.regions.count old e.from e.to same (below old moved.1.1) from ∙ sym moved.1.2 in
          (moved.0, subst (λ n. IsIn place bits n) is moved.1.1)),
    ))

-- the count of tiles that the orders keep is the graph's
pub some_moved : (g : Graph) (count place bits : ℕ) (e : Edge) (t u : NodeSet) → count ≡ g.regions.count → IsUnion (λ r order. (r ≡ e.region) × IsMovedFrom count e place bits order) t u → IsUnion (λ r order. (r ≡ e.region) × IsMovedFrom g.regions.count e place bits order) t u
some_moved g count place bits e t u number union = subst (λ n. IsUnion (λ r order. (r ≡ e.region) × IsMovedFrom n e place bits order) t u) number union

-- where no edge is left, these are the nodes to which one leads
pub leading_all : (g : Graph) (region place bits first end at : ℕ) (s t : NodeSet) → HasEnds g region first end → at ≡ end → IsLeading g region place bits at s t → IsUnion (IsLed g region place bits) s t
leading_all g region place bits first end at s t has over led =
    subst (λ n. IsUnion (IsLedBy g region place bits n) s t) (over ∙ has.to) led.union

-- ---- the fresh nodes of 64 orders

min_one : (a b : ℕ) → a < 2 → b < 2 → min a b ≡ 1 → (a ≡ 1) × (b ≡ 1)
min_one a b la lb e = (omega arith, omega arith)

one_min : (a b : ℕ) → a ≡ 1 → b ≡ 1 → min a b ≡ 1
one_min a b ea eb = omega arith

-- the bits of one word that are not those of another
pub fresh_bit : (now seen bit : ℕ) → seen < 2 ^ 64 → bit < 64 → (bit_at (bit_and now (bit_not w64 seen)) bit ≡ 1) ↔ ((bit_at now bit ≡ 1) × (bit_at seen bit ≢ 1))
fresh_bit now seen bit fits low =
    let both = bit_at_and now (bit_not w64 seen) bit in
    let other = bit_at_not w64 seen bit fits low in
    let now_low = bit_at-lt now bit in
    let seen_low = bit_at-lt seen bit in
    let not_low = bit_at-lt (bit_not w64 seen) bit in (
      (λ is. let two = min_one (bit_at now bit) (bit_at (bit_not w64 seen) bit) now_low not_low (sym both ∙ is) in (two.0, λ seen_is. absurd (let one = two.1 in omega arith))),
      (λ two. both ∙ one_min (bit_at now bit) (bit_at (bit_not w64 seen) bit) two.0 (let ne = two.1 in omega arith)),
    )

-- the bits of fresh nodes
pub record HasFresh (l : Layers) (region place fresh : ℕ) : Type 0 where
  pub is : (order : ℕ) → IsIn place fresh order ↔ IsFresh l region place order

pub fresh_are : (l : Layers) (region place now seen : ℕ) → now ≡ slice_index l.now.words.items (region * l.now.width + place) → seen ≡ slice_index l.seen.words.items (region * l.seen.width + place) → seen < 2 ^ 64 → HasFresh l region place (bit_and now (bit_not w64 seen))
fresh_are l region place now seen now_is seen_is fits = record {
  is = λ order.
      let bit = fresh_bit now seen (order % 64) fits (mod_below order 64 (omega arith)) in
      let now_word : order / 64 ≡ place → bit_at (slice_index l.now.words.items (region * l.now.width + order / 64)) (order % 64) ≡ bit_at now (order % 64) =
      λ at. ap (λ p. bit_at (slice_index l.now.words.items (region * l.now.width + p)) (order % 64)) at ∙ ap (λ w. bit_at w (order % 64)) (sym now_is) in
      let seen_word : order / 64 ≡ place → bit_at (slice_index l.seen.words.items (region * l.seen.width + order / 64)) (order % 64) ≡ bit_at seen (order % 64) =
      λ at. ap (λ p. bit_at (slice_index l.seen.words.items (region * l.seen.width + p)) (order % 64)) at ∙ ap (λ w. bit_at w (order % 64)) (sym seen_is) in (
        (λ here. record { within = here.0; now = now_word here.0 ∙ (bit.0 here.1).0; not_seen = λ has. (bit.0 here.1).1 (sym (seen_word here.0) ∙ has) }),
        (λ fresh. (fresh.within, bit.1 (sym (now_word fresh.within) ∙ fresh.now, λ has. fresh.not_seen (seen_word fresh.within ∙ has)))),
      );
}

-- fresh nodes are nodes
pub fresh_low : (l : Layers) (region place order : ℕ) → AreLayers l → region < length l.graph.regions.homes.items → place < l.now.width → IsFresh l region place order → order < factorial l.graph.regions.count
fresh_low l region place order layers region_in place_in fresh = layers.now.within region order region_in (let within = fresh.within in omega arith) fresh.now

module _ (l : Layers) (region place fresh : ℕ) (layers : AreLayers l) (region_in : region < length l.graph.regions.homes.items) (place_in : place < l.now.width) (has : HasFresh l region place fresh) where
  abbrev orders : ℕ
  orders = factorial l.graph.regions.count

  -- all whose bits are set are orders
  pub fresh_below : AreBelow orders place fresh
  fresh_below order here = fresh_low l region place order layers region_in place_in ((has.is order).0 here)

  -- the order of a bit of the word
  in_word : (bit : ℕ) → IsIn 0 fresh bit → IsFresh l region place (64 * place + bit)
  in_word bit here =
      let low : bit / 64 ≡ 0 = here.0 in
      let at : (64 * place + bit) / 64 ≡ place = omega arith in
      let same : bit % 64 ≡ (64 * place + bit) % 64 = omega arith in
      (has.is (64 * place + bit)).0 (at, subst (λ n. bit_at fresh n ≡ 1) same here.1)

  -- there is a value for each
  pub value_within : (first bit : ℕ) → first ≡ region * orders + 64 * place → IsIn 0 fresh bit → first + bit < length l.values.items
  value_within first bit at here =
      let low = fresh_low l region place (64 * place + bit) layers region_in place_in (in_word bit here) in
      let inside : region * orders + (64 * place + bit) < orders * length l.graph.regions.homes.items = mul-add-lt region orders (64 * place + bit) (length l.graph.regions.homes.items) region_in low in
      let turned : orders * length l.graph.regions.homes.items ≡ length l.graph.regions.homes.items * orders = omega arith in
      let each = layers.one_each in
      omega arith

  -- where no bit is set nothing is passed
  pub word_none : (cost : ℕ) → fresh ≡ 0 → IsWordPassed region place cost l l
  word_none cost zero_is =
      let none : (order : ℕ) → ¬ IsFresh l region place order =
      λ order is. let bit = ((has.is order).1 is).1 in let off = bit_at-zero (order % 64) in let same = ap (λ w. bit_at w (order % 64)) zero_is in absurd (omega (arith, bit, off, same)) in
      record {
        graph = refl;
        now = refl;
        layers = layers;
        seen = none_added (λ r order. (r ≡ region) × IsFresh l region place order) l.seen (λ r order added. none order added.1);
        next = none_added (IsLedFresh l region place) l.next (λ r order led. none led.3.0 led.3.1);
        written = λ order is. absurd (none order is);
        kept = λ k others. refl;
      }

  -- else the values are written and the nodes are put into the sets
  pub word_passed : (first cost : ℕ) (l' : Layers) → first ≡ region * orders + 64 * place → l'.graph ≡ l.graph → l'.now ≡ l.now → IsWritten first fresh cost l.values.items l'.values.items
      → IsUnion (λ r order. (r ≡ region) × IsIn place fresh order) l.seen l'.seen → IsUnion (IsLed l.graph region place fresh) l.next l'.next → IsSetOf l.graph l'.next → IsWordPassed region place cost l l'
  word_passed first cost l' at graph now written seen next next_set = record {
    graph = graph;
    now = now;
    layers = record {
      sound = subst (λ (x : Graph). IsSoundGraph x) (sym graph) layers.sound;
      one_each = written.size ∙ layers.one_each ∙ ap (λ (x : Graph). node_count x.regions) (sym graph);
      seen = subst (λ (x : Graph). IsSetOf x l'.seen) (sym graph) (union_set (length l.graph.regions.homes.items) orders (λ r order. (r ≡ region) × IsIn place fresh order) l.seen l'.seen (λ r order added. fresh_below order added.1) layers.seen seen);
      now = subst (λ (x : Graph). IsSetOf x l'.now) (sym graph) (subst (λ (x : NodeSet). IsSetOf l.graph x) (sym now) layers.now);
      next = subst (λ (x : Graph). IsSetOf x l'.next) (sym graph) next_set;
    };
    seen = same_added (λ r order. (r ≡ region) × IsIn place fresh order) (λ r order. (r ≡ region) × IsFresh l region place order) l.seen l'.seen seen
        (λ r order. ((λ added. (added.0, (has.is order).0 added.1)), (λ added. (added.0, (has.is order).1 added.1))));
    next = same_added (IsLed l.graph region place fresh) (IsLedFresh l region place) l.next l'.next next
        (λ r order. (
          (λ led. (led.0, led.1, led.2, (led.3.0, (has.is led.3.0).0 led.3.1, led.3.2))),
          (λ led. (led.0, led.1, led.2, (led.3.0, (has.is led.3.0).1 led.3.1, led.3.2))),
        ));
    written = λ order is.
        let here = (has.is order).1 is in
        let place_is : order / 64 ≡ place = here.0 in
        let low : order % 64 / 64 ≡ 0 = omega arith in
        let same : order % 64 ≡ order % 64 % 64 = omega arith in
        let index : first + order % 64 ≡ region * orders + order = omega arith in
        subst (λ n. slice_index l'.values.items n ≡ cost) index (written.written (order % 64) (low, subst (λ n. bit_at fresh n ≡ 1) same here.1));
    kept = λ k others. written.kept k (λ bit here same. others (64 * place + bit) (in_word bit here) (omega arith));
  }

-- ---- one region after another

-- what stays as it was
pub record IsKept (l l' : Layers) : Type 0 where
  pub graph : l'.graph ≡ l.graph
  pub now : l'.now ≡ l.now
  pub layers : AreLayers l'

pub kept_none : (l : Layers) → AreLayers l → IsKept l l
kept_none l layers = record { graph = refl; now = refl; layers = layers }

pub region_kept : (region cost place : ℕ) (l l' : Layers) → AreLayers l → IsRegionPassed region cost place l l' → IsKept l l'
region_kept region cost zero l l' layers is = subst (λ (x : Layers). IsKept l x) (sym is) (kept_none l layers)
region_kept region cost (suc place) l l' layers passed =
    let before = region_kept region cost place l passed.0 layers passed.1 in
    let word = passed.2 in
    record { graph = word.graph ∙ before.graph; now = word.now ∙ before.now; layers = word.layers }

pub layer_kept : (cost region : ℕ) (l l' : Layers) → AreLayers l → IsLayerPassed cost region l l' → IsKept l l'
layer_kept cost zero l l' layers is = subst (λ (x : Layers). IsKept l x) (sym is) (kept_none l layers)
layer_kept cost (suc region) l l' layers passed =
    let before = layer_kept cost region l passed.0 layers passed.1 in
    let after = region_kept region cost passed.0.now.width passed.0 l' before.layers passed.2 in
    record { graph = after.graph ∙ before.graph; now = after.now ∙ before.now; layers = after.layers }

-- one word more
pub region_more : (region cost place : ℕ) (l m l' : Layers) → IsRegionPassed region cost place l m → IsWordPassed region place cost m l' → IsRegionPassed region cost (place + 1) l l'
region_more region cost place l m l' before word =
    let next : suc place ≡ place + 1 = omega arith in
    subst (λ n. IsRegionPassed region cost n l l') next (m, before, word)

-- one region more
pub layer_more : (cost region : ℕ) (l m l' : Layers) → IsLayerPassed cost region l m → IsRegionPassed region cost m.now.width m l' → IsLayerPassed cost (region + 1) l l'
layer_more cost region l m l' before passed =
    let next : suc region ≡ region + 1 = omega arith in
    subst (λ n. IsLayerPassed cost n l l') next (m, before, passed)

-- where nothing has changed so far and nothing changes, nothing has changed
pub same_still : (any passed : Bool) (l m l' : Layers) → (any ≡ false → m ≡ l) → (passed ≡ false → l' ≡ m) → (any || passed) ≡ false → l' ≡ l
same_still any passed l m l' before after none = let parts = or_parts any passed none in after parts.1 ∙ before parts.0

-- ---- the whole search

abbrev pub size_of : Quest → ℕ
size_of q = factorial q.graph.regions.count

-- the node is in the set
abbrev pub HasNode : Quest → NodeSet → ℕ → Type 0
HasNode q s k = Has s (k / size_of q) (k % size_of q)

abbrev pub HasValue : Layers → ℕ → Type 0
HasValue l k = slice_index l.values.items k < NO_VALUE

-- the edge's node has a value that is no more than by the edge, or it is in a layer at no more than this
abbrev pub IsSettled : Quest → ℕ → ℕ → Layers → ℕ → ℕ → Type 0
IsSettled q weight cost l to high =
    (HasValue l to × (slice_index l.values.items to ≤ high))
    ⊎ ((HasNode q l.now to × (cost ≤ high)) ⊎ (HasNode q l.next to × (cost + weight ≤ high)))

-- each tile costs the same over the graph of the views
pub record IsEven (q : Quest) (weight : ℕ) : Type 0 where
  pub graph : HasGraph q
  pub sound : IsSoundGraph q.graph
  pub view : IsViewOf q q.goal
  pub same : (place : ℕ) → place < q.graph.regions.count → slice_index q.graph.costs place ≡ weight

-- the search within the layer of a cost
pub record IsAtLayer (q : Quest) (weight cost : ℕ) (l : Layers) : Type 0 where
  pub graph : l.graph ≡ q.graph
  pub layers : AreLayers l
  pub capped : (k : ℕ) → k < count_of q → slice_index l.values.items k ≤ NO_VALUE
  pub seen : (k : ℕ) → k < count_of q → HasNode q l.seen k → HasValue l k
  pub valued : (k : ℕ) → k < count_of q → HasValue l k → HasNode q l.seen k
  pub low : (k : ℕ) → k < count_of q → HasValue l k → slice_index l.values.items k ≤ cost
  pub reached : (k : ℕ) → k < count_of q → HasValue l k → IsReached q k (slice_index l.values.items k)
  pub start : (slice_index l.values.items (node q q.goal) ≡ 0) ⊎ ((cost ≡ 0) × HasNode q l.now (node q q.goal))
  pub now : (k : ℕ) → k < count_of q → HasNode q l.now k → HasValue l k ⊎ IsReached q k cost
  pub next : (k : ℕ) → k < count_of q → HasNode q l.next k → HasValue l k ⊎ IsReached q k (cost + weight)
  pub settled : (k : ℕ) → k < count_of q → HasValue l k → (e : Edge) (to c : ℕ) → Passes q k e to c → IsSettled q weight cost l to (slice_index l.values.items k + c)

-- the search further on within the layer: what was found stays found, and this layer keeps its nodes
pub record IsFurther (q : Quest) (weight cost : ℕ) (l l' : Layers) : Type 0 where
  pub at : IsAtLayer q weight cost l'
  pub now : l'.now ≡ l.now
  pub stays : (k : ℕ) → k < count_of q → HasValue l k → HasValue l' k

-- each node of the set has a value
abbrev pub IsDone : Quest → Layers → NodeSet → Type 0
IsDone q l s = (k : ℕ) → k < count_of q → HasNode q s k → HasValue l k

-- the search at the head of its loop: after a layer in which nothing was fresh, all nodes of this one have a value
pub record IsSearching (q : Quest) (weight cost : ℕ) (any : Bool) (l : Layers) : Type 0 where
  pub at : IsAtLayer q weight cost l
  pub last : IsDone q l l.next
  pub over : any ≡ false → IsDone q l l.now

-- the next layer becomes this one, and this one is left to be overwritten
abbrev pub exchanged : Layers → Layers
exchanged l = record { graph = l.graph; values = l.values; seen = l.seen; now = l.next; next = l.now }

has_or_not : (s : NodeSet) (region order : ℕ) → Has s region order ⊎ ¬ Has s region order
has_or_not s region order = cases_eq (bit_at (slice_index s.words.items (region * s.width + order / 64)) (order % 64)) 1

exchanged_layers : (l : Layers) → AreLayers l → AreLayers (exchanged l)
exchanged_layers l layers = record { sound = layers.sound; one_each = layers.one_each; seen = layers.seen; now = layers.next; next = layers.now }

-- ---- the nodes of a word

-- the node is one of the fresh ones of 64 orders of a region
abbrev IsFreshNode : Quest → Layers → ℕ → ℕ → ℕ → Type 0
IsFreshNode q l region place k = (k / size_of q ≡ region) × IsFresh l region place (k % size_of q)

module _ (q : Quest) (weight : ℕ) (even : IsEven q weight) where
  part : (k : ℕ) → k < count_of q → IsParted (length q.graph.regions.homes.items) (size_of q) k
  part k k_in = parted (length q.graph.regions.homes.items) (size_of q) k k_in

  node_set_of : (l : Layers) → l.graph ≡ q.graph → (s : NodeSet) → IsSetOf l.graph s → IsNodeSet (length q.graph.regions.homes.items) (size_of q) s
  node_set_of l fits s set = subst (λ (g : Graph). IsSetOf g s) fits set

  -- the words of a set have room for a node's order
  below_words : (l : Layers) → l.graph ≡ q.graph → (s : NodeSet) → IsSetOf l.graph s → (k : ℕ) → k < count_of q → k % size_of q < 64 * s.width
  below_words l fits s set k k_in =
      let w = set_wide (length q.graph.regions.homes.items) (size_of q) s (node_set_of l fits s set) in
      let p = (part k k_in).order in
      omega arith

  -- each edge costs the weight
  passes_weight : (k : ℕ) (e : Edge) (to c : ℕ) → k < count_of q → Passes q k e to c → c ≡ weight
  passes_weight k e to c k_in past =
      let ends = even.sound.ends k e k_in past.edge in
      past.cost ∙ even.same (tile_of q.graph.regions.count (k % size_of q) e.from) (tile_low q.graph.regions.count (k % size_of q) e.from (part k k_in).order ends.0)

  module _ (cost region place : ℕ) (l l' : Layers) (less : cost < NO_VALUE) (here : IsAtLayer q weight cost l) (region_in : region < length q.graph.regions.homes.items) (place_in : place < l.now.width) (passed : IsWordPassed region place cost l l') where
    abbrev Fresh : ℕ → Type 0
    Fresh k = IsFreshNode q l region place k

    fresh_in : (order : ℕ) → IsFresh l region place order → order < size_of q
    fresh_in order fresh =
        let homes : length l.graph.regions.homes.items ≡ length q.graph.regions.homes.items = ap (λ (g : Graph). length g.regions.homes.items) here.graph in
        subst (λ (g : Graph). order < factorial g.regions.count) here.graph (fresh_low l region place order here.layers (omega arith) place_in fresh)

    is_now : (k : ℕ) → Fresh k → HasNode q l.now k
    is_now k fresh = subst (λ r. Has l.now r (k % size_of q)) (sym fresh.0) fresh.1.now

    not_seen : (k : ℕ) → Fresh k → ¬ HasNode q l.seen k
    not_seen k fresh s = fresh.1.not_seen (subst (λ r. Has l.seen r (k % size_of q)) fresh.0 s)

    fresh_of : (k : ℕ) → k / size_of q ≡ region → k % size_of q / 64 ≡ place → HasNode q l.now k → ¬ HasNode q l.seen k → Fresh k
    fresh_of k is within n not = (
      is,
      record {
        within = within;
        now = subst (λ r. Has l.now r (k % size_of q)) is n;
        not_seen = λ s. not (subst (λ r. Has l.seen r (k % size_of q)) (sym is) s);
      },
    )

    fresh_or_not : (k : ℕ) → Fresh k ⊎ ¬ Fresh k
    fresh_or_not k =
        ⊎_elim
        (λ (is : k / size_of q ≡ region).
        ⊎_elim
        (λ (within : k % size_of q / 64 ≡ place).
        ⊎_elim
        (λ (n : HasNode q l.now k).
        ⊎_elim
        (λ (s : HasNode q l.seen k). inr (λ (fresh : Fresh k). not_seen k fresh s))
        (λ (not : ¬ HasNode q l.seen k). inl (fresh_of k is within n not))
        (has_or_not l.seen (k / size_of q) (k % size_of q)))
        (λ (not : ¬ HasNode q l.now k). inr (λ (fresh : Fresh k). not (is_now k fresh)))
        (has_or_not l.now (k / size_of q) (k % size_of q)))
        (λ (not : k % size_of q / 64 ≢ place). inr (λ (fresh : Fresh k). not fresh.1.within))
        (cases_eq (k % size_of q / 64) place))
        (λ (not : k / size_of q ≢ region). inr (λ (fresh : Fresh k). not fresh.0))
        (cases_eq (k / size_of q) region)

    no_value : (k : ℕ) → k < count_of q → Fresh k → ¬ HasValue l k
    no_value k k_in fresh low = not_seen k fresh (here.valued k k_in low)

    fresh_reached : (k : ℕ) → k < count_of q → Fresh k → IsReached q k cost
    fresh_reached k k_in fresh =
        ⊎_elim (λ (low : HasValue l k). absurd (no_value k k_in fresh low)) (λ (r : IsReached q k cost). r) (here.now k k_in (is_now k fresh))

    written : (k : ℕ) → Fresh k → slice_index l'.values.items k ≡ cost
    written k fresh =
        let parts : k ≡ region * size_of q + k % size_of q = sym (div-add-mod' k (size_of q)) ∙ ap (λ r. r * size_of q + k % size_of q) fresh.0 in
        let at = subst (λ (g : Graph). slice_index l'.values.items (region * factorial g.regions.count + k % size_of q) ≡ cost) here.graph (passed.written (k % size_of q) fresh.1) in
        ap (slice_index l'.values.items) parts ∙ at

    kept : (k : ℕ) → ¬ Fresh k → slice_index l'.values.items k ≡ slice_index l.values.items k
    kept k not =
        passed.kept k
        (λ order fresh e.
        let is : k ≡ region * size_of q + order = e ∙ ap (λ (g : Graph). region * factorial g.regions.count + order) here.graph in
        let low = fresh_in order fresh in
        let r : k / size_of q ≡ region = ap (λ n. n / size_of q) is ∙ div-mul-add region (size_of q) order low in
        let o : k % size_of q ≡ order = ap (λ n. n % size_of q) is ∙ mod-mul-add region (size_of q) order low in
        not (r, subst (λ n. IsFresh l region place n) (sym o) fresh))

    same : (k : ℕ) → k < count_of q → HasValue l k → slice_index l'.values.items k ≡ slice_index l.values.items k
    same k k_in low = kept k (λ fresh. no_value k k_in fresh low)

    stays : (k : ℕ) → k < count_of q → HasValue l k → HasValue l' k
    stays k k_in low = let e = same k k_in low in omega (arith, e, low)

    seen_of : (k : ℕ) → k < count_of q → HasNode q l'.seen k ↔ (HasNode q l.seen k ⊎ Fresh k)
    seen_of k k_in = passed.seen.members (k / size_of q) (k % size_of q) (below_words l here.graph l.seen here.layers.seen k k_in)

    next_of : (k : ℕ) → k < count_of q → HasNode q l'.next k ↔ (HasNode q l.next k ⊎ IsLedFresh l region place (k / size_of q) (k % size_of q))
    next_of k k_in = passed.next.members (k / size_of q) (k % size_of q) (below_words l here.graph l.next here.layers.next k k_in)

    -- an edge leads to the node from a fresh one
    abbrev IsLedIn : Graph → ℕ → Type 0
    IsLedIn g k =
        (e : Edge) × HasEdge g.edges region e × (k / size_of q ≡ e.region)
        × ((from : ℕ) × IsFresh l region place from × (k % size_of q ≡ moved_order g.regions.count from e.from e.to))

    led_reached : (k : ℕ) → IsLedFresh l region place (k / size_of q) (k % size_of q) → IsReached q k (cost + weight)
    led_reached k led =
        let there : IsLedIn q.graph k = subst (λ (g : Graph). IsLedIn g k) here.graph led in
        let e : Edge = there.0 in
        let from : ℕ = there.3.0 in
        let low = fresh_in from there.3.1 in
        let first : ℕ = region * size_of q + from in
        let first_in : first < count_of q = let h = mul-add-lt region (size_of q) from (length q.graph.regions.homes.items) region_in low in omega arith in
        let r : first / size_of q ≡ region = div-mul-add region (size_of q) from low in
        let o : first % size_of q ≡ from = mod-mul-add region (size_of q) from low in
        let c : ℕ = slice_index q.graph.costs (tile_of q.graph.regions.count (first % size_of q) e.from) in
        let past : Passes q first e k c = record {
          edge = subst (λ n. HasEdge q.graph.edges n e) (sym r) there.1;
          other = sym (div-add-mod' k (size_of q)) ∙ (λ i. there.2 i * size_of q + (there.3.2 ∙ ap (λ n. moved_order q.graph.regions.count n e.from e.to) (sym o)) i);
          cost = refl;
        } in
        let reached = fresh_reached first first_in (r, subst (λ n. IsFresh l region place n) (sym o) there.3.1) in
        subst (λ n. IsReached q k (cost + n)) (passes_weight first e k c first_in past) (reached_past q even.graph cost first e k c first_in reached past).1

    led_of : (k : ℕ) (e : Edge) (to c : ℕ) → k < count_of q → Fresh k → Passes q k e to c → HasNode q l'.next to
    led_of k e to c k_in fresh past =
        let to_in = (even.graph.sound k e to c k_in past).0 in
        let moved : ℕ = moved_order q.graph.regions.count (k % size_of q) e.from e.to in
        let low : moved < size_of q = moved_low q.graph.regions.count (k % size_of q) e.from e.to in
        let r : to / size_of q ≡ e.region = ap (λ n. n / size_of q) past.other ∙ div-mul-add e.region (size_of q) moved low in
        let o : to % size_of q ≡ moved = ap (λ n. n % size_of q) past.other ∙ mod-mul-add e.region (size_of q) moved low in
        let there : IsLedIn q.graph to = (e, subst (λ n. HasEdge q.graph.edges n e) fresh.0 past.edge, r, (k % size_of q, fresh.1, o)) in
        (next_of to to_in).1 (inr (subst (λ (g : Graph). IsLedIn g to) (sym here.graph) there))

    start_kept : node q q.goal < count_of q → (slice_index l'.values.items (node q q.goal) ≡ 0) ⊎ ((cost ≡ 0) × HasNode q l'.now (node q q.goal))
    start_kept goal_in =
        ⊎_elim
        (λ (none : slice_index l.values.items (node q q.goal) ≡ 0). inl (same (node q q.goal) goal_in (omega arith) ∙ none))
        (λ (has : (cost ≡ 0) × HasNode q l.now (node q q.goal)). inr (has.0, subst (λ (s : NodeSet). HasNode q s (node q q.goal)) (sym passed.now) has.1))
        here.start

    settled_kept : (to high : ℕ) → to < count_of q → IsSettled q weight cost l to high → IsSettled q weight cost l' to high
    settled_kept to high to_in s =
        ⊎_elim
        (λ (done : HasValue l to × (slice_index l.values.items to ≤ high)). let e = same to to_in done.0 in inl (stays to to_in done.0, omega (arith, done.1)))
        (λ (waits : (HasNode q l.now to × (cost ≤ high)) ⊎ (HasNode q l.next to × (cost + weight ≤ high))).
        inr
        (⊎_elim
        (λ (n : HasNode q l.now to × (cost ≤ high)). inl (subst (λ (s : NodeSet). HasNode q s to) (sym passed.now) n.0, n.1))
        (λ (n : HasNode q l.next to × (cost + weight ≤ high)). inr ((next_of to to_in).1 (inl n.0), n.1))
        waits))
        s

    -- the search goes on with the word passed
    at_layer : IsAtLayer q weight cost l'
    at_layer = record {
      graph = passed.graph ∙ here.graph;
      layers = passed.layers;
      capped = λ k k_in.
          ⊎_elim (λ (fresh : Fresh k). let e = written k fresh in omega arith)
          (λ (not : ¬ Fresh k). let e = kept k not in let h = here.capped k k_in in omega arith)
          (fresh_or_not k);
      seen = λ k k_in has.
          ⊎_elim (λ (s : HasNode q l.seen k). stays k k_in (here.seen k k_in s))
          (λ (fresh : Fresh k). let e = written k fresh in omega arith)
          ((seen_of k k_in).0 has);
      valued = λ k k_in low.
          ⊎_elim (λ (fresh : Fresh k). (seen_of k k_in).1 (inr fresh))
          (λ (not : ¬ Fresh k). let e = kept k not in (seen_of k k_in).1 (inl (here.valued k k_in (omega arith))))
          (fresh_or_not k);
      low = λ k k_in low.
          ⊎_elim (λ (fresh : Fresh k). let e = written k fresh in omega arith)
          (λ (not : ¬ Fresh k). let e = kept k not in let h = here.low k k_in (omega arith) in omega arith)
          (fresh_or_not k);
      reached = λ k k_in low.
          ⊎_elim (λ (fresh : Fresh k). subst (λ n. IsReached q k n) (sym (written k fresh)) (fresh_reached k k_in fresh))
          (λ (not : ¬ Fresh k). let e = kept k not in subst (λ n. IsReached q k n) (sym e) (here.reached k k_in (omega arith)))
          (fresh_or_not k);
      start = start_kept (even.graph.inside q.goal even.view);
      now = λ k k_in has.
          ⊎_elim (λ (low : HasValue l k). inl (stays k k_in low)) (λ r. inr r)
          (here.now k k_in (subst (λ (s : NodeSet). HasNode q s k) passed.now has));
      next = λ k k_in has.
          ⊎_elim
          (λ (old : HasNode q l.next k). ⊎_elim (λ (low : HasValue l k). inl (stays k k_in low)) (λ r. inr r) (here.next k k_in old))
          (λ (led : IsLedFresh l region place (k / size_of q) (k % size_of q)). inr (led_reached k led))
          ((next_of k k_in).0 has);
      settled = λ k k_in low e to c past.
          ⊎_elim
          (λ (fresh : Fresh k).
          let w = written k fresh in
          let same_cost = passes_weight k e to c k_in past in
          inr (inr (led_of k e to c k_in fresh past, omega arith)))
          (λ (not : ¬ Fresh k).
          let w = kept k not in
          let to_in = (even.graph.sound k e to c k_in past).0 in
          subst (λ n. IsSettled q weight cost l' to (n + c)) (sym w)
          (settled_kept to (slice_index l.values.items k + c) to_in (here.settled k k_in (omega arith) e to c past)))
          (fresh_or_not k);
    }

    -- each node of the word that is in this layer has a value then
    word_further : IsFurther q weight cost l l' × ((k : ℕ) → k < count_of q → k / size_of q ≡ region → k % size_of q / 64 ≡ place → HasNode q l.now k → HasValue l' k)
    word_further = (
      record { at = at_layer; now = passed.now; stays = stays },
      (λ k k_in is within n.
          ⊎_elim (λ (s : HasNode q l.seen k). stays k k_in (here.seen k k_in s))
          (λ (not : ¬ HasNode q l.seen k). let e = written k (fresh_of k is within n not) in omega arith)
          (has_or_not l.seen (k / size_of q) (k % size_of q))),
    )

  -- ---- the words of a region, and all regions

  further_none : (cost : ℕ) (l l' : Layers) → IsAtLayer q weight cost l → l' ≡ l → IsFurther q weight cost l l'
  further_none cost l l' here is = subst (λ (x : Layers). IsFurther q weight cost l x) (sym is) (record { at = here; now = refl; stays = λ k k_in low. low })

  further_then : (cost : ℕ) (l m l' : Layers) → IsFurther q weight cost l m → IsFurther q weight cost m l' → IsFurther q weight cost l l'
  further_then cost l m l' before after = record {
    at = after.at;
    now = after.now ∙ before.now;
    stays = λ k k_in low. after.stays k k_in (before.stays k k_in low);
  }

  -- a node of this layer is still one of it
  still_now : (cost : ℕ) (l m : Layers) → IsFurther q weight cost l m → (k : ℕ) → HasNode q l.now k → HasNode q m.now k
  still_now cost l m kept k n = subst (λ (s : NodeSet). HasNode q s k) (sym kept.now) n

  region_passed : (cost region count : ℕ) (l l' : Layers) → cost < NO_VALUE → IsAtLayer q weight cost l → region < length q.graph.regions.homes.items → count ≤ l.now.width → IsRegionPassed region cost count l l'
      → IsFurther q weight cost l l' × ((k : ℕ) → k < count_of q → k / size_of q ≡ region → k % size_of q / 64 < count → HasNode q l.now k → HasValue l' k)
  region_passed cost region zero l l' less here region_in within is = (further_none cost l l' here is, (λ k k_in r few n. absurd (omega (arith, few))))
  region_passed cost region (suc place) l l' less here region_in within passed =
      let m : Layers = passed.0 in
      let before = region_passed cost region place l m less here region_in (omega arith) passed.1 in
      let width : m.now.width ≡ l.now.width = ap (λ (s : NodeSet). s.width) before.0.now in
      let after = word_further cost region place m l' less before.0.at region_in (omega arith) passed.2 in (
        further_then cost l m l' before.0 after.0,
        (λ k k_in r few n.
            ⊎_elim
            (λ (last : k % size_of q / 64 ≡ place). after.1 k k_in r last (still_now cost l m before.0 k n))
            (λ (other : k % size_of q / 64 ≢ place). after.0.stays k k_in (before.1 k k_in r (omega arith) n))
            (cases_eq (k % size_of q / 64) place)),
      )

  layer_passed : (cost count : ℕ) (l l' : Layers) → cost < NO_VALUE → IsAtLayer q weight cost l → count ≤ length q.graph.regions.homes.items → IsLayerPassed cost count l l'
      → IsFurther q weight cost l l' × ((k : ℕ) → k < count_of q → k / size_of q < count → HasNode q l.now k → HasValue l' k)
  layer_passed cost zero l l' less here within is = (further_none cost l l' here is, (λ k k_in few n. absurd (omega (arith, few))))
  layer_passed cost (suc region) l l' less here within passed =
      let m : Layers = passed.0 in
      let before = layer_passed cost region l m less here (omega arith) passed.1 in
      let after = region_passed cost region m.now.width m l' less before.0.at (omega arith) (omega arith) passed.2 in (
        further_then cost l m l' before.0 after.0,
        (λ k k_in few n.
            ⊎_elim
            (λ (last : k / size_of q ≡ region). after.1 k k_in last (place_within (length q.graph.regions.homes.items) (size_of q) m.now (k % size_of q) (node_set_of m before.0.at.graph m.now before.0.at.layers.now) (part k k_in).order) (still_now cost l m before.0 k n))
            (λ (other : k / size_of q ≢ region). after.0.stays k k_in (before.1 k k_in (omega arith) n))
            (cases_eq (k / size_of q) region)),
      )

  -- ---- from layer to layer

  next_layer : (cost : ℕ) (l : Layers) → IsAtLayer q weight cost l → IsDone q l l.now → IsAtLayer q weight (cost + weight) (exchanged l)
  next_layer cost l here done = record {
    graph = here.graph;
    layers = exchanged_layers l here.layers;
    capped = here.capped;
    seen = here.seen;
    valued = here.valued;
    low = λ k k_in low. let h = here.low k k_in low in omega arith;
    reached = here.reached;
    start =
        ⊎_elim (λ (none : slice_index l.values.items (node q q.goal) ≡ 0). inl none)
        (λ (has : (cost ≡ 0) × HasNode q l.now (node q q.goal)).
        let goal_in = even.graph.inside q.goal even.view in
        let h = here.low (node q q.goal) goal_in (done (node q q.goal) goal_in has.1) in
        inl (omega (arith, has.0)))
        here.start;
    now = here.next;
    next = λ k k_in n. inl (done k k_in n);
    settled = λ k k_in low e to c past.
        let to_in = (even.graph.sound k e to c k_in past).0 in
        ⊎_elim (λ (found : HasValue l to × (slice_index l.values.items to ≤ slice_index l.values.items k + c)). inl found)
        (λ waits.
        ⊎_elim
        (λ (n : HasNode q l.now to × (cost ≤ slice_index l.values.items k + c)).
        let has = done to to_in n.0 in
        let h = here.low to to_in has in
        inl (has, omega (arith, n.1)))
        (λ (n : HasNode q l.next to × (cost + weight ≤ slice_index l.values.items k + c)). inr (inl n))
        waits)
        (here.settled k k_in low e to c past);
  }

  search_first : (start : ℕ) (l : Layers) → start ≡ node q q.goal → IsAtStart q.graph start l → IsSearching q weight 0 true l
  search_first start l at first = record {
    at = record {
      graph = first.graph;
      layers = first.layers;
      capped = λ k k_in. let e = none k k_in in omega arith;
      seen = λ k k_in has. absurd (first.seen (k / size_of q) (k % size_of q) has);
      valued = λ k k_in low. let e = none k k_in in absurd (omega arith);
      low = λ k k_in low. let e = none k k_in in absurd (omega arith);
      reached = λ k k_in low. let e = none k k_in in absurd (omega arith);
      start = inr (refl, subst (λ k. HasNode q l.now k) at first.here);
      now = λ k k_in has.
          let is = first.now (k / size_of q) (k % size_of q) (below_words l first.graph l.now first.layers.now k k_in) has in
          let same : k ≡ start = sym (div-add-mod' k (size_of q)) ∙ (λ i. is.0 i * size_of q + is.1 i) ∙ div-add-mod' start (size_of q) in
          inr (λ v view here. even.graph.joined v q.goal view even.view (here ∙ same ∙ at));
      next = λ k k_in has. absurd (first.next (k / size_of q) (k % size_of q) has);
      settled = λ k k_in low. let e = none k k_in in absurd (omega arith);
    };
    last = λ k k_in has. absurd (first.next (k / size_of q) (k % size_of q) has);
    over = λ no. absurd (false≢true (sym no));
  }
    where
      none : (k : ℕ) → k < count_of q → slice_index l.values.items k ≡ NO_VALUE
      none k k_in = ap (λ (xs : List ℕ). slice_index xs k) first.values ∙ get_or-replicate (count_of q) k NO_VALUE 0 k_in

  search_next : (cost : ℕ) (any any' : Bool) (l m : Layers) → cost < NO_VALUE → IsSearching q weight cost any l → IsLayerPassed cost (length l.graph.regions.homes.items) l m → (any' ≡ false → m ≡ l) → IsSearching q weight (cost + weight) any' (exchanged m)
  search_next cost any any' l m less here passed none =
      let homes : length l.graph.regions.homes.items ≡ length q.graph.regions.homes.items = ap (λ (g : Graph). length g.regions.homes.items) here.at.graph in
      let all = layer_passed cost (length l.graph.regions.homes.items) l m less here.at (omega arith) passed in
      let done : IsDone q m m.now =
      λ k k_in n. all.1 k k_in (let p = (part k k_in).region in omega arith) (subst (λ (s : NodeSet). HasNode q s k) all.0.now n)
      in
      record {
        at = next_layer cost m all.0.at done;
        last = done;
        over = λ no. subst (λ (x : Layers). IsDone q x x.next) (sym (none no)) here.last;
      }

  -- where the search is over each value is that of its node's views
  search_done : (cost : ℕ) (any : Bool) (l : Layers) → IsSearching q weight cost any l → (any ≡ false) ⊎ (NO_VALUE ≤ cost) → (v : ViewModel) → IsViewOf q v → IsValue q.space q.goal v (slice_index l.values.items (node q v))
  search_done cost any l here over = values_are q even.graph cost l.values.items [] under_way (omega arith)
    where
      size : length l.values.items ≡ count_of q
      size = here.at.layers.one_each ∙ ap (λ (g : Graph). node_count g.regions) here.at.graph

      -- no node of this layer has a value above its cost
      now_low : (k : ℕ) → k < count_of q → HasNode q l.now k → slice_index l.values.items k ≤ cost
      now_low k k_in n =
          ⊎_elim (λ (no : any ≡ false). here.at.low k k_in (here.over no k k_in n))
          (λ (end : NO_VALUE ≤ cost). let h = here.at.capped k k_in in omega arith)
          over

      settled_low : (to high : ℕ) → to < count_of q → IsSettled q weight cost l to high → slice_index l.values.items to ≤ high
      settled_low to high to_in s =
          ⊎_elim (λ (found : HasValue l to × (slice_index l.values.items to ≤ high)). found.1)
          (λ waits.
          ⊎_elim
          (λ (n : HasNode q l.now to × (cost ≤ high)). let h = now_low to to_in n.0 in omega (arith, n.1))
          (λ (n : HasNode q l.next to × (cost + weight ≤ high)). let h = here.at.low to to_in (here.last to to_in n.0) in omega (arith, n.1))
          waits)
          s

      under_way : IsUnderWay q cost l.values.items []
      under_way = record {
        size = size;
        capped = λ k.
            ⊎_elim (λ (k_in : k < count_of q). here.at.capped k k_in)
            (λ (past : count_of q ≤ k). let e : slice_index l.values.items k ≡ 0 = get_or_past l.values.items k 0 (omega (arith, size)) in omega arith)
            (cases_lt k (count_of q));
        start =
            ⊎_elim (λ (none : slice_index l.values.items (node q q.goal) ≡ 0). none)
            (λ (has : (cost ≡ 0) × HasNode q l.now (node q q.goal)).
            let h = now_low (node q q.goal) (even.graph.inside q.goal even.view) has.1 in
            omega (arith, has.0))
            here.at.start;
        reached = here.at.reached;
        settled = λ k k_in low. inl (λ e to c past.
            settled_low to (slice_index l.values.items k + c) (even.graph.sound k e to c k_in past).0 (here.at.settled k k_in low e to c past));
        inside = λ at k w. absurd (none_some w.1);
        few = omega arith;
      }

-- ---- a search for any group that the graph may be of

-- each place of tiles costs the same in the graph
abbrev pub IsSame : Graph → ℕ → Type 0
IsSame g weight = (place : ℕ) → place < g.regions.count → slice_index g.costs place ≡ weight

pub record IsLayered (g : Graph) (start weight cost : ℕ) (any : Bool) (l : Layers) : Type 0 where
  pub graph : l.graph ≡ g
  pub layers : AreLayers l
  pub each : (selection : GroupModel) (rule : WeightsModel) (goal : BoardModel) → IsSought selection rule goal g start → IsSearching (quest_of selection rule goal g) weight cost any l

even_of : (g : Graph) (start weight : ℕ) → IsSoundGraph g → IsSame g weight → (selection : GroupModel) (rule : WeightsModel) (goal : BoardModel) → IsSought selection rule goal g start → IsEven (quest_of selection rule goal g) weight
even_of g start weight sound same selection rule goal sought = record { graph = sought.made.graph; sound = sound; view = sought.view; same = same }

module _ (g : Graph) (start weight : ℕ) (sound : IsSoundGraph g) (same : IsSame g weight) where
  pub layered_first : (l : Layers) → IsAtStart g start l → IsLayered g start weight 0 true l
  layered_first l first = record {
    graph = first.graph;
    layers = first.layers;
    each = λ selection rule goal sought. search_first (quest_of selection rule goal g) weight (even_of g start weight sound same selection rule goal sought) start l sought.node first;
  }

  pub layered_next : (cost : ℕ) (any any' : Bool) (l m : Layers) → cost < NO_VALUE → IsLayered g start weight cost any l → IsLayerPassed cost (length l.graph.regions.homes.items) l m → (any' ≡ false → m ≡ l) → IsLayered g start weight (cost + weight) any' (exchanged m)
  layered_next cost any any' l m less now passed none =
      let kept = layer_kept cost (length l.graph.regions.homes.items) l m now.layers passed in
      record {
        graph = kept.graph ∙ now.graph;
        layers = exchanged_layers m kept.layers;
        each = λ selection rule goal sought.
            search_next (quest_of selection rule goal g) weight (even_of g start weight sound same selection rule goal sought) cost any any' l m less (now.each selection rule goal sought) passed none;
      }

  pub layered_done : (cost : ℕ) (any : Bool) (l : Layers) (found : Found) → IsLayered g start weight cost any l → (any ≡ false) ⊎ (NO_VALUE ≤ cost) → found.regions ≡ l.graph.regions → found.values.items ≡ l.values.items
      → (selection : GroupModel) (rule : WeightsModel) (goal : BoardModel) → IsSought selection rule goal g start → AreFound selection rule goal found
  layered_done cost any l found now over regions values selection rule goal sought =
      let at : found.regions ≡ g.regions = regions ∙ ap (λ (x : Graph). x.regions) now.graph in
      let each = search_done (quest_of selection rule goal g) weight (even_of g start weight sound same selection rule goal sought) cost any l (now.each selection rule goal sought) over in
      record {
        regions = subst (λ (r : Regions). IsRegions selection.grid (length selection.tiles) r) (sym at) sought.made.regions;
        size = ap length values ∙ now.layers.one_each ∙ sym (ap (λ (r : Regions). node_count r) regions);
        values = λ v view.
            subst (λ (r : Regions). IsValue (abstraction_of selection rule) (view_of selection.tiles goal) v (slice_index found.values.items (node_in r v))) (sym at)
            (subst (λ xs. IsValue (abstraction_of selection rule) (view_of selection.tiles goal) v (slice_index xs (node_in g.regions v))) (sym values) (each v view));
      }
