use Rattle.std.proofs.Common.{refl, sym, ◌∙◌}
use Rattle.certificate.specs.Readings.{version_in}
use Rattle.certificate.proofs.fields.version_from.Goals as goal

pub returns-then-eq : goal.returns-then-eq
unfolding version_in
returns-then-eq c = rw (sym c.eq.ensures ∙ c.if-eq.true) refl

pub returns-then-eq-2 : goal.returns-then-eq-2
unfolding version_in
returns-then-eq-2 c = rw (sym c.eq.ensures ∙ c.if-eq.false, sym c.eq-2.ensures ∙ c.if-eq-2.true) refl

pub returns : goal.returns
unfolding version_in
returns c = rw (sym c.eq.ensures ∙ c.if-eq.false, sym c.eq-2.ensures ∙ c.if-eq-2.false) refl
