use Rattle.std.proofs.Common.{refl, string_bytes, sym, subst, ◌≡◌, None, Some, inl, inr}
use Rattle.certificate_runs.specs.Rules.{MayReport}
use Rattle.std.proofs.lemmas.Result.{IfOk-weaker, IfErr-weaker}
use Rattle.batch_runs.specs.declared.report.NoReport.{NoReport}
use Rattle.board.specs.Shapes.{ShapeModel}
use Rattle.batch_lines.specs.Words.{IsEntry, IsFirstEntryFault}
use Rattle.certificate_runs.specs.declared.faults.CertifyFault.TheVariants.{Memory}
use Rattle.certificate_runs.specs.Certifying.{IsCertificateOf, IsCertifyReply, IsRefusalReply, HasNoReply}
use Rattle.board.specs.Boards.{BoardModel}
use Rattle.outcomes.specs.Outcomes.{Task, Answers}
use Rattle.certificate_runs.proofs.CertifyLemmas.{within, refused_entry, refused_board, reported_entry, report_lacks}
use Rattle.certificate_runs.proofs.certifying.reply_to_entry.Goals as goal

pub certify-requires-clause-answers : goal.certify-requires-clause-answers
certify-requires-clause-answers g c =
    let fits = g.met.A.Prover.fits c.args.prover.now in
    rw c.setup-setup.ensures (subst (λ (task : BoardModel → Task). Answers (task c.in-Ok.entry.board) c.in-Ok-prove.outcome) fits.task (fits.truthful c.in-Ok.entry.board c.in-Ok-prove.outcome c.in-Ok-prove.ensures))

pub returns-in-Err-clause-reply : goal.returns-in-Err-clause-reply
returns-in-Err-clause-reply g c =
    let split = (g.A.Prover.setup c.args.prover.now).tables.split in
    let prover = g.A.ProofRuled.rules c.args.prover.now in
    let fits = g.met.A.Prover.fits c.args.prover.now in
    let fault = subst (λ (grid : ShapeModel). IsFirstEntryFault grid c.args.bytes.now c.in-Err.fault) (sym fits.grid) (rw (c.shape.ensures, c.setup-setup.ensures) at (c.in-Err.ensures.fault c.in-Err.fault).0 refl) in
    IfOk-weaker c.refuse.result (IsRefusalReply c.code.result.now c.args.number) (IsCertifyReply split prover (within c.args.number) c.args.bytes.now)
    (λ reply refused. refused_entry split prover c.args.number c.args.bytes.now c.in-Err.fault reply fault (rw c.code.ensures at refused)) c.refuse.ensures.refusal

pub returns-in-Err-clause-lacking : goal.returns-in-Err-clause-lacking
returns-in-Err-clause-lacking g c =
    let prover = g.A.ProofRuled.rules c.args.prover.now in
    let fits = g.met.A.Prover.fits c.args.prover.now in
    let fault = subst (λ (grid : ShapeModel). IsFirstEntryFault grid c.args.bytes.now c.in-Err.fault) (sym fits.grid) (rw (c.shape.ensures, c.setup-setup.ensures) at (c.in-Err.ensures.fault c.in-Err.fault).0 refl) in
    IfErr-weaker c.refuse.result (λ fault. (lacking : NoReport) × (fault ≡ Memory lacking)) (HasNoReply prover (within c.args.number) c.args.bytes.now)
    (λ told lacks. report_lacks prover (within c.args.number) c.args.bytes.now told (inl (c.in-Err.fault, fault)) lacks) c.refuse.ensures.lacking

pub returns-in-Err-prove-clause-reply : goal.returns-in-Err-prove-clause-reply
returns-in-Err-prove-clause-reply g c =
    let split = (g.A.Prover.setup c.args.prover.now).tables.split in
    let prover = g.A.ProofRuled.rules c.args.prover.now in
    let fits = g.met.A.Prover.fits c.args.prover.now in
    let entry = subst (λ (grid : ShapeModel). IsEntry grid c.args.bytes.now c.in-Ok.entry.id.now c.in-Ok.entry.board) (sym fits.grid) (rw (c.shape.ensures, c.setup-setup.ensures) at c.in-Ok.ensures.entry) in
    IfOk-weaker c.refuse-in-Err-prove.result (IsRefusalReply c.code-in-Err-prove.result.now c.args.number) (IsCertifyReply split prover (within c.args.number) c.args.bytes.now)
    (λ reply refused. refused_board split prover c.args.number c.args.bytes.now c.in-Ok.entry.id.now c.in-Ok.entry.board reply entry c.in-Err-prove.ensures (rw c.code-in-Err-prove.ensures at refused)) c.refuse-in-Err-prove.ensures.refusal

pub returns-in-Err-prove-clause-lacking : goal.returns-in-Err-prove-clause-lacking
returns-in-Err-prove-clause-lacking g c =
    let prover = g.A.ProofRuled.rules c.args.prover.now in
    let fits = g.met.A.Prover.fits c.args.prover.now in
    let entry = subst (λ (grid : ShapeModel). IsEntry grid c.args.bytes.now c.in-Ok.entry.id.now c.in-Ok.entry.board) (sym fits.grid) (rw (c.shape.ensures, c.setup-setup.ensures) at c.in-Ok.ensures.entry) in
    IfErr-weaker c.refuse-in-Err-prove.result (λ fault. (lacking : NoReport) × (fault ≡ Memory lacking)) (HasNoReply prover (within c.args.number) c.args.bytes.now)
    (λ told lacks. report_lacks prover (within c.args.number) c.args.bytes.now told (inr (c.in-Ok.entry.id.now, c.in-Ok.entry.board, None, entry, c.in-Err-prove.ensures)) lacks) c.refuse-in-Err-prove.ensures.lacking

pub returns-in-Err-certify-clause-lacking : goal.returns-in-Err-certify-clause-lacking
returns-in-Err-certify-clause-lacking g c =
    let prover = g.A.ProofRuled.rules c.args.prover.now in
    let fits = g.met.A.Prover.fits c.args.prover.now in
    let entry = c.in-Ok.entry in
    let named = subst (λ (grid : ShapeModel). IsEntry grid c.args.bytes.now entry.id.now entry.board) (sym fits.grid) (rw (c.shape.ensures, c.setup-setup.ensures) at c.in-Ok.ensures.entry) in
    (refl, (entry.id.now, entry.board, c.in-Ok-prove.outcome, named, c.in-Ok-prove.ensures, c.in-Err-certify.ensures.lacking))

pub returns-in-Certificate-clause-reply : goal.returns-in-Certificate-clause-reply
returns-in-Certificate-clause-reply g c =
    let prover = g.A.ProofRuled.rules c.args.prover.now in
    let fits = g.met.A.Prover.fits c.args.prover.now in
    let entry = c.in-Ok.entry in
    let named = subst (λ (grid : ShapeModel). IsEntry grid c.args.bytes.now entry.id.now entry.board) (sym fits.grid) (rw (c.shape.ensures, c.setup-setup.ensures) at c.in-Ok.ensures.entry) in
    let made = rw (c.in-Certificate.is, c.setup-setup.ensures) at c.in-Ok-certify.ensures.made in
    (refl, (entry.id.now, entry.board, c.in-Ok-prove.outcome, named, c.in-Ok-prove.ensures, made.0, made.1, subst (λ (task : BoardModel → Task). IsCertificateOf (g.A.Prover.setup c.args.prover.now).tables.split (task entry.board) c.in-Certificate.certificate) (sym fits.task) made.2))

pub returns-in-Ok-outcome_report : goal.returns-in-Ok-outcome_report
returns-in-Ok-outcome_report g c =
    let prover = g.A.ProofRuled.rules c.args.prover.now in
    let fits = g.met.A.Prover.fits c.args.prover.now in
    let entry = c.in-Ok.entry in
    let ending = c.in-Plain.ending in
    let named = subst (λ (grid : ShapeModel). IsEntry grid c.args.bytes.now entry.id.now entry.board) (sym fits.grid) (rw (c.shape.ensures, c.setup-setup.ensures) at c.in-Ok.ensures.entry) in
    let made = rw c.in-Plain.is at c.in-Ok-certify.ensures.made in
    let allowed : MayReport prover entry.board (Some ending) = (c.in-Ok-prove.outcome, c.in-Ok-prove.ensures, sym made.0, made.1) in
    record {
      reply = reported_entry prover c.args.number c.args.bytes.now entry.id.now (string_bytes c.in-Ok-outcome_report.text) entry.board ending c.status_of.result named allowed c.in-Ok-outcome_report.ensures.small made.2 c.in-Ok-outcome_report.ensures.text c.status_of.ensures;
      lacking = tt;
    }

pub returns-clause-lacking : goal.returns-clause-lacking
returns-clause-lacking g c =
    let prover = g.A.ProofRuled.rules c.args.prover.now in
    let fits = g.met.A.Prover.fits c.args.prover.now in
    let entry = c.in-Ok.entry in
    let ending = c.in-Plain.ending in
    let named = subst (λ (grid : ShapeModel). IsEntry grid c.args.bytes.now entry.id.now entry.board) (sym fits.grid) (rw (c.shape.ensures, c.setup-setup.ensures) at c.in-Ok.ensures.entry) in
    let made = rw c.in-Plain.is at c.in-Ok-certify.ensures.made in
    let allowed : MayReport prover entry.board (Some ending) = (c.in-Ok-prove.outcome, c.in-Ok-prove.ensures, sym made.0, made.1) in
    inr (entry.id.now, entry.board, Some ending, named, allowed)
