-- Boards that workers have expanded and know, added up one worker after the other.
use Rattle.std.proofs.Common.{Ordering, Less, Equal, Greater, ℕ, ◌≡◌, ◌≤◌, ◌<◌, ◌+◌, ◌*◌, ◌∙◌, ◌&&◌, List, [], ◌∷◌, Bool, true, false, length, take, refl, sym, ap, subst, arith}
use Rattle.std.specs.Prelude.{nat_eq, map as each_of, get_or}
use Rattle.std.specs.List.{list_any, AllByRecursion, IsDistinct}
use Rattle.std.specs.Ordering.{nat_cmp, eq_by_cmp, is_lt, is_eq}
use Rattle.std.specs.Cmp.{nat_eq_equiv, unsigned_tied}
use Rattle.std.specs.FinMap as map
use Rattle.std.specs.FinMap.Entries.{below_all, is_sorted}
use Rattle.std.proofs.Math.Dec.{T}
use Rattle.std.proofs.lemmas.Bool.{eqb-true}
use Rattle.std.proofs.lemmas.List.{length-map}
use Rattle.std.proofs.lemmas.List.Sums.{sum_by_more}
use Rattle.std.proofs.lemmas.Map.Made.{length-le_from_is_member}
use Rattle.std.proofs.lemmas.Map.Views.{Contains-from_any, list_any-from_Contains}
use Rattle.closed_table.specs.Tables.{ClosedModel, IsTable}
use Rattle.world_model.specs.declared.parts.Known.{Known}
use Rattle.world_model.specs.Workers.{WorkerState}
use Rattle.world_ends.specs.declared.figures.Figures.{Figures}
use Rattle.world_ends.specs.Readings.{AreFiguresOf}

-- ---- a table has as many keys as it knows boards

first : (a b : Bool) → T (a && b) → T a
first true b t = tt
first false b t = t

second : (a b : Bool) → T (a && b) → T b
second true b t = t
second false b t = absurd t

less_apart : (r : Ordering) → T (is_lt r) → is_eq r ≡ false
less_apart Less t = refl
less_apart Equal t = absurd t
less_apart Greater t = refl

above : (x : ℕ) (es : List (ℕ × Known)) → T (below_all nat_cmp x es) → AllByRecursion (λ y. eq_by_cmp nat_cmp x y ≡ false) (each_of (λ (e : ℕ × Known). e.0) es)
above x [] t = tt
above x (e ∷ es) t = (less_apart (nat_cmp x e.0) (first _ _ t), above x es (second _ _ t))

sorted_apart : (es : List (ℕ × Known)) → T (is_sorted nat_cmp es) → IsDistinct (eq_by_cmp nat_cmp) (each_of (λ (e : ℕ × Known). e.0) es)
unfolding IsDistinct
sorted_apart [] t = tt
sorted_apart (e ∷ es) t = (above e.0 es (first _ _ t), sorted_apart es (second _ _ t))

same_eq : eq_by_cmp nat_cmp ≡ nat_eq
same_eq = λ i x y. unsigned_tied x y i

has_key : (known : map.FinMap nat_cmp Known) (q : ℕ) → map.contains_key known q ≡ list_any (nat_eq q) (map.keys known)
has_key known q = map.contains_key-keys known q ∙ ap (λ (e : ℕ → ℕ → Bool). list_any (e q) (map.keys known)) same_eq

pub as_many : (t : ClosedModel) → IsTable t → length t.keys ≡ map.len t.known
as_many t is =
    let apart = subst (λ (e : ℕ → ℕ → Bool). IsDistinct e (map.keys t.known)) same_eq (sorted_apart (map.entries t.known) (map.entries_sorted t.known)) in
    let up = length-le_from_is_member nat_eq_equiv t.keys (map.keys t.known) is.once (λ q m. sym (has_key t.known q) ∙ (is.each q).0 (Contains-from_any (λ x y e. eqb-true x y e) q t.keys m)) in
    let down = length-le_from_is_member nat_eq_equiv (map.keys t.known) t.keys apart (λ q m. list_any-from_Contains nat_eq_equiv q t.keys ((is.each q).1 (has_key t.known q ∙ m))) in
    let keys = length-map (map.entries t.known) (λ (e : ℕ × Known). e.0) in
    let len = map.len-entries t.known in
    omega (arith, up, down, keys, len)

-- ---- sums

-- the figures of the first i workers
pub record IsCountedTo (i : ℕ) (workers : List WorkerState) (figures : Figures) : Type 0 where
  pub sums : AreFiguresOf (take i workers) figures
  pub expanded : figures.expanded ≤ i * 18446744073709551615
  pub known : figures.known ≤ i * 18446744073709551615

pub counted_more :
    (workers : List WorkerState) (i : ℕ) (worker : WorkerState) (figures more : Figures) (spent length_of : ℕ)
    → i < length workers
    → get_or workers i worker ≡ worker
    → spent ≡ worker.expansions
    → length_of ≡ map.len worker.known
    → spent ≤ 18446744073709551615
    → length_of ≤ 18446744073709551615
    → more.expanded ≡ figures.expanded + spent
    → more.known ≡ figures.known + length_of
    → IsCountedTo i workers figures
    → IsCountedTo (i + 1) workers more
counted_more workers i worker figures more spent length_of within at spends knows low_spent low_known adds adds_known counted = record {
  sums = record {
    expanded = let step = sum_by_more (λ (w : WorkerState). w.expansions) workers i worker within in let here = ap (λ (w : WorkerState). w.expansions) at in let before = counted.sums.expanded in omega (arith, step, here, before, adds, spends);
    known = let step = sum_by_more (λ (w : WorkerState). map.len w.known) workers i worker within in let here = ap (λ (w : WorkerState). map.len w.known) at in let before = counted.sums.known in omega (arith, step, here, before, adds_known, knows);
  };
  expanded = let before = counted.expanded in omega (arith, before, adds, low_spent);
  known = let before = counted.known in omega (arith, before, adds_known, low_known);
}
