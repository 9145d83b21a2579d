-- A list in pages: the item at a place, and a change there.
use Rattle.std.proofs.Common.{◌≡◌, ℕ, ◌+◌, ◌-◌, ◌*◌, ◌/◌, ◌%◌, ◌<◌, ◌≤◌, ◌∙◌, zero, suc, List, [], ◌∷◌, ◌++◌, length, get_or, sym, ap, subst, arith, length-append, length-set, zero-mul}
use Rattle.std.specs.Prelude.{set}
use Rattle.std.specs.List.{AllByRecursion}
use Rattle.std.specs.Vec.{vec_len, with_item}
use Rattle.std.specs.declared.vec.Vec.{Vec}
use Rattle.std.proofs.lemmas.List.{get_or_append_left, get_or-append-add, set-append_left, set-append_right}
use Rattle.memory.specs.Pages.{items_of, ArePages}

-- each page has this many items
abbrev pub HaveSize : {T Z : Type 0} → ℕ → List (Vec T Z) → Type 0
HaveSize {T} {Z} size pages = AllByRecursion (λ (p : Vec T Z). length p.items ≡ size) pages

pub length_of_pages : {T Z : Type 0} (size : ℕ) (ps : List (Vec T Z)) → HaveSize size ps → length (items_of ps) ≡ length ps * size
length_of_pages size [] full = sym (zero-mul size)
length_of_pages size (p ∷ ps) full =
    let here : length p.items ≡ size = full.0 in
    let rest : length (items_of ps) ≡ length ps * size = length_of_pages size ps full.1 in
    let both : length (p.items ++ items_of ps) ≡ length p.items + length (items_of ps) = length-append p.items (items_of ps) in
    omega arith

pub at_page : {T Z : Type 0} (size : ℕ) (ps : List (Vec T Z)) (q r : ℕ) (e : Vec T Z) (d : T) → HaveSize size ps → q < length ps → r < size → get_or (items_of ps) (q * size + r) d ≡ get_or (get_or ps q e).items r d
at_page size [] q r e d full lt in_page = absurd (omega arith)
at_page size (p ∷ ps) zero r e d full lt in_page =
    let here : length p.items ≡ size = full.0 in
    let place : zero * size + r ≡ r = omega arith in
    let room : r < length p.items = omega arith in
    ap (λ i. get_or (p.items ++ items_of ps) i d) place ∙ get_or_append_left p.items (items_of ps) d r room
at_page size (p ∷ ps) (suc q) r e d full lt in_page =
    let here : length p.items ≡ size = full.0 in
    let place : suc q * size + r ≡ length p.items + (q * size + r) = omega arith in
    let within : q < length ps = omega arith in
    ap (λ i. get_or (p.items ++ items_of ps) i d) place ∙ get_or-append-add p.items (items_of ps) (q * size + r) d ∙ at_page size ps q r e d full.1 within in_page

pub put_page : {T Z : Type 0} (size : ℕ) (ps : List (Vec T Z)) (q r : ℕ) (e : Vec T Z) (x : T) → HaveSize size ps → q < length ps → r < size → items_of (set ps q (with_item (get_or ps q e) r x)) ≡ set (items_of ps) (q * size + r) x
put_page size [] q r e x full lt in_page = absurd (omega arith)
put_page size (p ∷ ps) zero r e x full lt in_page =
    let here : length p.items ≡ size = full.0 in
    let place : zero * size + r ≡ r = omega arith in
    let room : r < length p.items = omega arith in
    sym (ap (λ i. set (p.items ++ items_of ps) i x) place ∙ set-append_left p.items (items_of ps) r x room)
put_page size (p ∷ ps) (suc q) r e x full lt in_page =
    let here : length p.items ≡ size = full.0 in
    let le : size ≤ suc q * size + r = omega arith in
    let left : suc q * size + r - size ≡ q * size + r = omega arith in
    let within : q < length ps = omega arith in
    ap (λ ys. p.items ++ ys) (put_page size ps q r e x full.1 within in_page)
    ∙ sym (set-append_right p.items (items_of ps) size (suc q * size + r) x here le ∙ ap (λ i. p.items ++ set (items_of ps) i x) left)

pub size_kept : {T Z : Type 0} (size : ℕ) (ps : List (Vec T Z)) (q r : ℕ) (e : Vec T Z) (x : T) → HaveSize size ps → q < length ps → HaveSize size (set ps q (with_item (get_or ps q e) r x))
size_kept size [] q r e x full lt = tt
size_kept size (p ∷ ps) zero r e x full lt = (length-set p.items r x ∙ full.0, full.1)
size_kept size (p ∷ ps) (suc q) r e x full lt =
    let within : q < length ps = omega arith in
    (full.0, size_kept size ps q r e x full.1 within)

pub size_of_page : {T Z : Type 0} (size : ℕ) (ps : List (Vec T Z)) (q : ℕ) (e : Vec T Z) → HaveSize size ps → q < length ps → length (get_or ps q e).items ≡ size
size_of_page size [] q e full lt = absurd (omega arith)
size_of_page size (p ∷ ps) zero e full lt = full.0
size_of_page size (p ∷ ps) (suc q) e full lt =
    let within : q < length ps = omega arith in
    size_of_page size ps q e full.1 within

pub page_more : {T Z : Type 0} (size : ℕ) (ps : List (Vec T Z)) (p : Vec T Z) → HaveSize size ps → length p.items ≡ size → HaveSize size (ps ++ p ∷ [])
page_more size [] p full here = (here, tt)
page_more size (q ∷ ps) p full here = (full.0, page_more size ps p full.1 here)

-- a place in the list is that of an item in a page
module _ {T Z : Type 0} (ps : List (Vec T Z)) (pages : ArePages ps) (xs : List T) (view : items_of ps ≡ xs) (place : ℕ) (lt : place < length xs) where
  pub has_page : place / 1024 < length ps
  has_page =
      let size : length xs ≡ length ps * 1024 = ap length (sym view) ∙ length_of_pages 1024 ps pages.full in
      omega arith

  pub in_page : (page : Vec T Z) → page ≡ get_or ps (place / 1024) page → place % 1024 < vec_len page
  in_page page is =
      let full : length page.items ≡ 1024 = ap (λ p. length p.items) is ∙ size_of_page 1024 ps (place / 1024) page pages.full has_page in
      let len : vec_len page ≡ length page.items = page.ok.0 in
      omega arith

  pub item_there : (page : Vec T Z) (item : T) → page ≡ get_or ps (place / 1024) page → get_or page.items (place % 1024) item ≡ get_or xs place item
  item_there page item is =
      let cut : place / 1024 * 1024 + place % 1024 ≡ place = omega arith in
      ap (λ p. get_or p.items (place % 1024) item) is ∙ sym (at_page 1024 ps (place / 1024) (place % 1024) page item pages.full has_page (omega arith)) ∙ ap (λ i. get_or (items_of ps) i item) cut ∙ ap (λ ys. get_or ys place item) view

  module _ (page : Vec T Z) (item : T) (is : page ≡ get_or ps (place / 1024) page) where
    pub put_there : items_of (set ps (place / 1024) (with_item page (place % 1024) item)) ≡ set xs place item
    put_there =
        let cut : place / 1024 * 1024 + place % 1024 ≡ place = omega arith in
        ap (λ p. items_of (set ps (place / 1024) (with_item p (place % 1024) item))) is ∙ put_page 1024 ps (place / 1024) (place % 1024) page item pages.full has_page (omega arith)
        ∙ ap (λ i. set (items_of ps) i item) cut ∙ ap (λ ys. set ys place item) view

    pub pages_there : ArePages (set ps (place / 1024) (with_item page (place % 1024) item))
    pages_there =
        let same : length (set ps (place / 1024) (with_item page (place % 1024) item)) ≡ length ps = length-set ps (place / 1024) (with_item page (place % 1024) item) in
        record {
          full = subst (λ (p : Vec T Z). HaveSize 1024 (set ps (place / 1024) (with_item p (place % 1024) item))) (sym is) (size_kept 1024 ps (place / 1024) (place % 1024) page item pages.full has_page);
          few = subst (λ (n : ℕ). n ≤ 4194304) (sym same) pages.few;
        }
