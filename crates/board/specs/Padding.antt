-- How numbers lie in an array: the numbers, and zeros behind them.
use Rattle.std.specs.Prelude.{ℕ, ◌≡◌, ◌-◌, List, ◌++◌, length, take, drop, replicate}
use Rattle.std.proofs.Common.{sym, ◌∙◌, ap, take-append-drop}

-- an array of `most` numbers: these, with zeros behind them
abbrev pub array_of : ℕ → List ℕ → List ℕ
array_of most numbers = numbers ++ replicate (most - length numbers) 0

-- behind its first `count` numbers the array has `most - count` zeros
abbrev pub IsPadded : ℕ → ℕ → List ℕ → Type 0
IsPadded most count array = drop count array ≡ replicate (most - count) 0

-- nothing is lost
pub array_of-take : (most count : ℕ) (array : List ℕ) → length (take count array) ≡ count → IsPadded most count array → array_of most (take count array) ≡ array
array_of-take most count array used padded =
    ap (λ (n : ℕ). take count array ++ replicate (most - n) 0) used ∙ ap (λ (rest : List ℕ). take count array ++ rest) (sym padded) ∙ take-append-drop count array
