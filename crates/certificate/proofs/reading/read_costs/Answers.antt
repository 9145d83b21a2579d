use Rattle.std.proofs.Common.{[], ℕ, refl, sym, subst}
use Rattle.std.proofs.KnownBytes.{Consumes-nil}
use Rattle.certificate.specs.Fields.{SpellsCosts}
use Rattle.certificate.proofs.CostLemmas.{face_there}
use Rattle.certificate.proofs.reading.read_costs.Goals as goal

pub returns-in-1 : goal.returns-in-1
returns-in-1 g c =
    let grid = c.args.shape in
    record {
      text = [];
      spells = subst (λ (n : ℕ). SpellsCosts grid n c.face.result []) (sym c.in-1.is) (face_there grid c.requires.shape c.face.result [] (c.face.ensures, refl));
      taken = Consumes-nil (g.S.Source.state c.args.source.now).left;
      on = (c.requires.fine, c.requires.fine);
    }
