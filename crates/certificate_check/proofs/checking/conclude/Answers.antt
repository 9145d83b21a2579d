use Rattle.std.proofs.Common.{Option, ℕ, is_some, ap, subst}
use Rattle.std.specs.Prelude.{IfSome}
use Rattle.board.specs.declared.moves.Move.{Move}
use Rattle.certificate_check.specs.declared.refusals.Refusal.TheVariants.{OpenSuccessor}
use Rattle.certificate_check.specs.Refusals.{IsFirstOpen}
use Rattle.certificate_check.proofs.RefusalLemmas.{first_open, all_proved, refused_verdict, accepted_verdict}
use Rattle.certificate_check.proofs.checking.conclude.Goals as goal

pub returns-in-Some : goal.returns-in-Some
returns-in-Some c =
    let cert = c.args.certificate.now in
    let t = c.args.bound.now in
    let up_to = c.requires.up_to in
    let found = c.in-Some.found in
    refused_verdict cert t (OpenSuccessor found.0 found.1)
    (first_open cert t up_to.plan up_to.fit up_to.start up_to.no_goal found.0 found.1 (subst (λ (o : Option (ℕ × Move)). IfSome o (λ found. IsFirstOpen cert t found.0 found.1)) c.in-Some.is c.requires.first))

pub returns-in-None : goal.returns-in-None
returns-in-None c =
    let cert = c.args.certificate.now in
    let t = c.args.bound.now in
    let up_to = c.requires.up_to in
    accepted_verdict cert t c.sums_are_lower_bounds.ensures.tables c.partition.ensures.tables c.shape.ensures.certificate
    (all_proved cert t up_to.plan up_to.fit up_to.start up_to.no_goal (c.requires.none (ap is_some c.in-None.is)))
