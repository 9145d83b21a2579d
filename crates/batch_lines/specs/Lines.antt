-- The lines of an input, and what is to be done with each.
use Rattle.std.specs.Prelude.{ℕ, ◌==◌, ◌||◌, List, [], ◌∷◌, length, nat_lt, Bool, true, if◌then◌else◌}
use Rattle.batch_lines.specs.declared.lines.LineKind.{LineKind}
use Rattle.batch_lines.specs.declared.lines.TheConstants.{LINE_LIMIT}
use Rattle.batch_lines.specs.declared.lines.LineKind.TheVariants.{PassedOver, Within, TooLong}

-- a byte before the other bytes of the first line
abbrev pub onto_first : ℕ → List (List ℕ) → List (List ℕ)
onto_first b [] = (b ∷ []) ∷ []
onto_first b (line ∷ lines) = (b ∷ line) ∷ lines

-- The input is cut at its line feeds (10), which belong to no line. Its end right after a line feed begins no line.
abbrev pub lines_of : List ℕ → List (List ℕ)
lines_of [] = []
lines_of (b ∷ bs) = if b == 10 then [] ∷ lines_of bs else onto_first b (lines_of bs)

-- one carriage return (13) at the end of a line doesn't belong to it
abbrev pub without_return : List ℕ → List ℕ
without_return [] = []
without_return (b ∷ []) = if b == 13 then [] else b ∷ []
without_return (b ∷ c ∷ bs) = b ∷ without_return (c ∷ bs)

-- a space or a tab
abbrev pub is_blank : ℕ → Bool
is_blank b = (b == 32) || (b == 9)

-- the line is empty, or has only blanks, or its first byte that is no blank is a number sign (35)
abbrev pub is_passed_over : List ℕ → Bool
is_passed_over [] = true
is_passed_over (b ∷ bs) = if is_blank b then is_passed_over bs else b == 35

-- what is to be done with a line: first a carriage return is dropped, then it is passed over whatever its length, then its length is judged
abbrev pub line_kind_of : List ℕ → LineKind
line_kind_of line = if is_passed_over (without_return line) then PassedOver else if nat_lt LINE_LIMIT (length (without_return line)) then TooLong else Within
