use Rattle.std.proofs.Common.{List, ◌∙◌, ◌++◌, ap}
use Rattle.drawings.specs.Drawings.{band_text, band_of}
use Rattle.drawings.specs.declared.pictures.Picture.{Picture}
use Rattle.drawings.proofs.TextLemmas.{counted_part}
use Rattle.drawings.proofs.bands.push_bands.Goals as goal

pub bands-preserved : goal.bands-preserved
bands-preserved c =
    let same = ap (λ (ps : List Picture). c.bands.text.items ++ band_text c.args.shape ps) c.part.ensures in
    counted_part (λ k. band_text c.args.shape (band_of c.args.count c.args.pictures.now k)) c.args.text.now.items c.bands.band c.bands.text.items c.push_band.new.text.items c.bands.invariant (c.in_ok-push_band.ensures ∙ same)
