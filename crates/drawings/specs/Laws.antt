-- The laws of drawings. Each is the contract of a function that does nothing.
use Rattle.std.specs.Prelude.{ℕ, ◌≡◌, ◌<◌, ◌++◌, List, length}
use Rattle.std.specs.Int.{div_ceil}
use Rattle.std.specs.List.{flat_map, range_with_len}
use Rattle.drawings.specs.declared.pictures.Picture.{Picture}
use Rattle.certificate.specs.Certificates.{CertificateModel}
use Rattle.drawings.specs.declared.drawing.Style.TheVariants.{Text, Svg}
use Rattle.drawings.specs.Drawings.{band_of, last_line_text, IsDrawing}

-- the bands have each picture once, in order
abbrev pub BandsAreWhole : Type 0
BandsAreWhole = (pictures : List Picture) (n : ℕ) → 0 < n → flat_map (λ k. band_of n pictures k) (range_with_len 0 (div_ceil (length pictures) n)) ≡ pictures

-- a certificate has one drawing in this many columns
abbrev pub DrawingsAreDetermined : Type 0
DrawingsAreDetermined = (width : ℕ) (c : CertificateModel) (a b : List ℕ) → IsDrawing (Text width) c a → IsDrawing (Text width) c b → b ≡ a

-- somewhere in a file is the line of what the certificate claims
abbrev pub FilesSayTheClaim : Type 0
FilesSayTheClaim = (seconds : ℕ) (c : CertificateModel) (bytes : List ℕ) → IsDrawing (Svg seconds) c bytes → (front back : List ℕ) × (bytes ≡ front ++ (last_line_text c.plan c.cost ++ back))
