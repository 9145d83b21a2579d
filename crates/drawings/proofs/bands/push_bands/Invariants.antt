use Rattle.std.proofs.Common.{◌≡◌, ◌++◌}
use Rattle.std.specs.List.{flat_map, range_with_len}
use Rattle.drawings.specs.Drawings.{band_text, band_of}
use Rattle.drawings.proofs.bands.push_bands.Given as goal

abbrev pub invariant-bands : goal.invariant-bands
invariant-bands l = l.text.items ≡ l.fn.text.items ++ flat_map (λ k. band_text l.shape (band_of l.count l.pictures k)) (range_with_len 0 l.band)
