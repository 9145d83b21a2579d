use Rattle.std.proofs.Common.{◌≡◌, ◌++◌, take}
use Rattle.std.specs.List.{flat_map}
use Rattle.drawings.specs.Drawings.{heading_text}
use Rattle.drawings.proofs.bands.push_headings.Given as goal

abbrev pub invariant-pictures : goal.invariant-pictures
invariant-pictures l = l.text.items ≡ l.fn.text.items ++ flat_map heading_text (take l.picture-index l.pictures)
