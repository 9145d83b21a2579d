-- How a line begins, byte by byte: as much as is needed to know whether it is passed over.
use Rattle.std.specs.Prelude.{ℕ, ◌≡◌, ◌<◌, ◌==◌, ◌↔◌, List, [], ◌∷◌, length, take, Bool, true, false, IsTrue, if◌then◌else◌}
use Rattle.batch_lines.specs.Lines.{is_blank}
use Rattle.batch_lines.specs.declared.lines.Start.{Start}
use Rattle.batch_lines.specs.declared.lines.Scan.{Scan}
use Rattle.batch_lines.specs.declared.lines.TheConstants.{KEPT}
use Rattle.batch_lines.specs.declared.lines.Start.TheVariants.{Blanks, Return, Comment, Words}

-- after one more byte
abbrev pub start_after : Start → ℕ → Start
start_after Blanks b = if is_blank b then Blanks else if b == 13 then Return else if b == 35 then Comment else Words
start_after Return b = Words
start_after Comment b = Comment
start_after Words b = Words

-- after more bytes
abbrev pub start_of : Start → List ℕ → Start
start_of start [] = start
start_of start (b ∷ bs) = start_of (start_after start b) bs

-- whether a line that begins so and ends here is passed over
abbrev pub passes : Start → Bool
passes Blanks = true
passes Return = true
passes Comment = true
passes Words = false

-- the first bytes of a line are kept, how it begins, and whether it has more bytes
pub record IsScanned (line kept : List ℕ) (scan : Scan) : Type 0 where
  pub first : kept ≡ take KEPT line
  pub begins : scan.start ≡ start_of Blanks line
  pub long : IsTrue scan.more ↔ (KEPT < length line)
