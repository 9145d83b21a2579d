use Rattle.std.proofs.Common.{◌≡◌, ◌∙◌, ◌∷◌, [], List, ℕ, ap, sym, subst}
use Rattle.std.specs.Prelude.{codes}
use Rattle.byte_streams.specs.Streams.{change}
use Rattle.byte_streams.specs.Sink.{Writes}
use Rattle.byte_streams.proofs.SinkLemmas.{Writes-after}
use Rattle.certificate.specs.declared.certificate.Version.{Version}
use Rattle.certificate.specs.declared.certificate.Version.TheVariants.{Two}
use Rattle.certificate.specs.Spellings.{claim_of, beginning_text}
use Rattle.certificate.proofs.ReaderLemmas.{writes_stop}
use Rattle.certificate.proofs.writing.write_beginning.Goals as goal

pub returns-in_err-put-in-Two : goal.returns-in_err-put-in-Two
returns-in_err-put-in-Two g c =
    let sink = change g.K.Sink.state c.args.sink.now c.put-in-Two.new.self in
    let d = c.args.certificate.now in
    let r = c.from_residual.result in
    let two : d.version ≡ Two = sym c.version.ensures ∙ c.in-Two.is in
    subst (λ (v : Version). Writes sink (beginning_text v (claim_of d.plan)) r) (sym two)
    (writes_stop _ sink (codes "TILECRT2") (claim_of d.plan ∷ []) r c.from_residual.ensures.1 c.in_err-put-in-Two.ensures)

pub returns-in_ok-put-in-Two : goal.returns-in_ok-put-in-Two
returns-in_ok-put-in-Two g c =
    let state = g.K.Sink.state in
    let d = c.args.certificate.now in
    let r = c.put-in-Two-2.result in
    let two : d.version ≡ Two = sym c.version.ensures ∙ c.in-Two.is in
    let claim : c.claim_byte.result ≡ claim_of d.plan = c.claim_byte.ensures ∙ ap claim_of c.claim.ensures.plan in
    let rest = subst (λ (l : List ℕ). Writes (change state c.put-in-Two.new.self c.put-in-Two-2.new.self) l r) (ap (λ (n : ℕ). n ∷ []) claim) c.put-in-Two-2.ensures in
    subst (λ (v : Version). Writes (change state c.args.sink.now c.put-in-Two-2.new.self) (beginning_text v (claim_of d.plan)) r) (sym two)
    (Writes-after (state c.args.sink.now) (state c.put-in-Two.new.self) (state c.put-in-Two-2.new.self) (codes "TILECRT2") (claim_of d.plan ∷ []) r c.in_ok-put-in-Two.ensures rest)
