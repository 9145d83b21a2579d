-- Texts of parts that are counted.
use Rattle.std.proofs.Common.{ℕ, ◌≡◌, ◌+◌, ◌*◌, ◌<◌, zero, suc, List, [], ◌∷◌, ◌++◌, length, take, drop, sym, ap, ◌∙◌, append-nil, arith}
use Rattle.std.specs.Int.{div_ceil}
use Rattle.std.proofs.lemmas.Grind.{div_ceil_times, flat_map-append}
use Rattle.std.proofs.lemmas.List.{take-take, drop-take, take-append-drop, take_all}
use Rattle.drawings.specs.declared.pictures.Picture.{Picture}
use Rattle.drawings.specs.Drawings.{band_of}
use Rattle.std.specs.List.{flat_map, range_with_len}
use Rattle.std.proofs.lemmas.List.{flat_map_more}
use Rattle.board.proofs.StorageLemmas.{counted_more}

none_times : (n : ℕ) → 0 * n ≡ 0
none_times n = grind arith

one_more_times : (k n : ℕ) → k * n + n ≡ suc k * n
one_more_times k n = grind arith

-- a text with the parts of the numbers below n, and then the part of n
pub counted_part : (f : ℕ → List ℕ) (old : List ℕ) (n : ℕ) (now next : List ℕ) → now ≡ old ++ flat_map f (range_with_len 0 n) → next ≡ now ++ f n → next ≡ old ++ flat_map f (range_with_len 0 (n + 1))
counted_part f old n now next before last = last ∙ ap (λ (t : List ℕ). t ++ f n) before ∙ flat_map_more f old (range_with_len 0 n) n ∙ ap (λ (r : List ℕ). old ++ flat_map f r) (sym (counted_more n))

-- ---- the bands of a list

-- a beginning, and what comes behind it
take_more : (a b : ℕ) (xs : List Picture) → take a xs ++ take b (drop a xs) ≡ take (a + b) xs
take_more a b xs = sym (λ i. take-take a (a + b) xs (omega arith) i ++ drop-take a b xs i) ∙ take-append-drop a (take (a + b) xs)

-- the first k bands are a beginning
bands_taken : (n : ℕ) (xs : List Picture) (k : ℕ) → flat_map (λ j. band_of n xs j) (range_with_len 0 k) ≡ take (k * n) xs
bands_taken n xs zero = sym (ap (λ (m : ℕ). take m xs) (none_times n))
bands_taken n xs (suc k) =
    let next : suc k ≡ k + 1 = omega arith in
    let more : range_with_len 0 (suc k) ≡ range_with_len 0 k ++ k ∷ [] = ap (λ (m : ℕ). range_with_len 0 m) next ∙ counted_more k in
    let parts = ap (λ (r : List ℕ). flat_map (λ j. band_of n xs j) r) more ∙ flat_map-append (λ j. band_of n xs j) (range_with_len 0 k) (k ∷ []) in
    let last : flat_map (λ j. band_of n xs j) (k ∷ []) ≡ band_of n xs k = append-nil (band_of n xs k) in
    parts ∙ (λ i. bands_taken n xs k i ++ last i) ∙ take_more (k * n) n xs ∙ ap (λ (m : ℕ). take m xs) (one_more_times k n)

pub bands_whole : (xs : List Picture) (n : ℕ) → 0 < n → flat_map (λ k. band_of n xs k) (range_with_len 0 (div_ceil (length xs) n)) ≡ xs
bands_whole xs n some = bands_taken n xs (div_ceil (length xs) n) ∙ take_all (div_ceil (length xs) n * n) xs (div_ceil_times (length xs) n some).0
