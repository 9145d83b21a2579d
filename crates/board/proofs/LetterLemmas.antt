-- The letter of each move is read as that move.
use Rattle.std.proofs.Common.{◌≡◌, ℕ, Bool, true, false, cond, eqb, refl, ap, ◌∙◌, Some, None}
use Rattle.std.specs.Prelude.{◌↔◌}
use Rattle.std.proofs.lemmas.Bool.{eqb-true}
use Rattle.board.specs.declared.moves.Move.{Move}
use Rattle.board.specs.declared.moves.Move.TheVariants.{U, L, R, D}
use Rattle.board.specs.Letters.{letter_of, move_of_letter}

one_move : (m m' : Move) → Some m ≡ Some m' → m ≡ m'
one_move m m' e = cc

-- the letter of a move that was found
letter_found : (letter : ℕ) (m : Move) → move_of_letter letter ≡ Some m → letter ≡ letter_of m
letter_found letter m found = by_letter (eqb letter 85) (eqb letter 76) (eqb letter 82) (eqb letter 68) refl refl refl refl found
  where
    by_letter : (u l r d : Bool) → eqb letter 85 ≡ u → eqb letter 76 ≡ l → eqb letter 82 ≡ r → eqb letter 68 ≡ d → cond u (Some U) (cond l (Some L) (cond r (Some R) (cond d (Some D) None))) ≡ Some m → letter ≡ letter_of m
    by_letter true l r d u-is l-is r-is d-is e = eqb-true _ _ u-is ∙ ap letter_of (one_move U m e)
    by_letter false true r d u-is l-is r-is d-is e = eqb-true _ _ l-is ∙ ap letter_of (one_move L m e)
    by_letter false false true d u-is l-is r-is d-is e = eqb-true _ _ r-is ∙ ap letter_of (one_move R m e)
    by_letter false false false true u-is l-is r-is d-is e = eqb-true _ _ d-is ∙ ap letter_of (one_move D m e)
    by_letter false false false false u-is l-is r-is d-is e = absurd cc

-- the move of a move's letter
move_of_own : (m : Move) → move_of_letter (letter_of m) ≡ Some m
move_of_own U = refl
move_of_own L = refl
move_of_own R = refl
move_of_own D = refl

-- a letter is read as the move whose letter it is
pub letter_reads : (m : Move) (letter : ℕ) → (move_of_letter letter ≡ Some m) ↔ (letter ≡ letter_of m)
letter_reads m letter = (letter_found letter m, (λ is. ap move_of_letter is ∙ move_of_own m))
