-- What follows of spellings and first faults, and of parts that were found one after the other.
use Rattle.std.proofs.Common.{◌≡◌, ◌++◌, List, [], ℕ, length, Option, refl, sym, ap, subst, ◌∙◌, append-nil, ◌≢◌, ◌⊎◌, inl, inr, ◌∷◌, Bool, true, None, Some, Result, Ok, Err}
use Rattle.std.proofs.KnownBytes.{Consumes-trans}
use Rattle.std.specs.Prelude.{IfSome, ◌↔◌, codes}
use Rattle.std.specs.List.{flat_map}
use Rattle.std.proofs.lemmas.Bool.{false≢true}
use Rattle.std.proofs.lemmas.List.{append_cancel_left, append_cancel_right}
use Rattle.std.specs.Io.KnownBytes.{Consumes}
use Rattle.board.specs.Boards.{BoardModel}
use Rattle.board.specs.Weights.{WeightsModel}
use Rattle.board.specs.declared.moves.Move.{Move}
use Rattle.pattern_index.specs.Partitions.{PartitionModel}
use Rattle.byte_streams.specs.Streams.{SourceState, from_to, Change}
use Rattle.byte_streams.specs.Source.{Takes}
use Rattle.certificate.specs.declared.certificate.Version.{Version}
use Rattle.certificate.specs.declared.certificate.Version.TheVariants.{One, Two}
use Rattle.certificate.specs.Certificates.{CertificateModel, IsCertificate, Allows, upgraded}
use Rattle.certificate.specs.Spellings.{Spells, spelling, front_text, beginning_text, claim_of, opening_text, groups_text, body_text, count_text, row_text}
use Rattle.certificate.specs.Fields.{SpellsBoard, SpellsClaimed, SpellsAllRows, SpellsBody, SpellsFront}
use Rattle.certificate.specs.Sources.{Finds, FindsAll, IfFormat, is_failure, ReadsAll, TellsOfInput, IsAnswerTo, IsShown, StopsAtFault, ReadsCertificate}
use Rattle.certificate.specs.declared.faults.FormatFault.{FormatFault}
use Rattle.certificate.specs.declared.faults.FormatFault.TheVariants.{OtherMagic, Truncated, OutOfRange, NotRising, BytesAfterEnd}
use Rattle.certificate.specs.declared.faults.ReadFault.{ReadFault}
use Rattle.certificate.specs.declared.faults.ReadFault.TheVariants.{Format, Failed, NoMemory}
use Rattle.certificate.specs.Readings.{Reading, certificate, give, end, next_reading, IsFaultOf, IsFirstFormatFault, HasNoFault}
use Rattle.certificate.specs.Laws.{AreBytes, TellsOfBytes, UpgradesKeepTheRest}
use Rattle.certificate.proofs.ReaderLemmas.{all_after, if_known, not_magic, not_range, not_order, not_after, fine, faulty}
use Rattle.certificate.proofs.CertificateLemmas.{BodyParts, bare_of, body_there, with_rows, read_again, read_takes}

-- ---- parts that were found one after the other: the boards, and what is claimed

pub body_found : {a b c z : SourceState} {v : Version} {n : ℕ} {costs : WeightsModel} {split : PartitionModel} {start goal : BoardModel} {found : ℕ × Option (List Move)} (bare : CertificateModel) → Finds (SpellsBoard costs.grid) (from_to a b) start → Finds (SpellsBoard costs.grid) (from_to b c) goal → Finds (SpellsClaimed n) (from_to c z) found
    → bare ≡ bare_of v costs split start goal found → Finds (SpellsBody v n costs split) (from_to a z) bare
body_found {a = a} {b = b} {c = c} {z = z} {v = v} {n = n} {costs = costs} {split = split} {start = start} {goal = goal} {found = found} bare s g f is =
    let boards = s.text ++ (g.text ++ f.text) in
    let parts : BodyParts v n costs split bare boards = (start, s.text, g.text ++ f.text, s.spells, (goal, g.text, f.text, g.spells, (found, f.text, [], f.spells, (is, refl), sym (append-nil f.text)), refl), refl) in
    record {
      text = boards;
      spells = body_there v n costs split bare boards parts;
      taken = Consumes-trans a.left b.left z.left s.text (g.text ++ f.text) s.taken (Consumes-trans b.left c.left z.left g.text f.text g.taken f.taken);
      on = (s.on.0, f.on.1);
    }

-- ---- the whole

pub whole_found : {a b c z : SourceState} {front : CertificateModel} {rows : List (BoardModel × ℕ)} {none : Unit {0}} (whole : CertificateModel) → Finds SpellsFront (from_to a b) front → Finds (SpellsAllRows front.grid) (from_to b c) rows → FindsAll {X = Unit {0}} (λ _ text. text ≡ []) (from_to c z) none
    → whole ≡ record front { rows = rows } → FindsAll Spells (from_to a z) whole
whole_found {a = a} {b = b} {c = c} {z = z} {front = front} {rows = rows} whole f r e is =
    let text = f.text ++ (r.text ++ e.found.text) in
    let same : text ≡ spelling (record front { rows = rows }) = (λ i. f.spells.is i ++ (r.spells.is i ++ e.found.spells i)) ∙ ap (λ (l : List ℕ). front_text front ++ l) (append-nil _) in
    record {
      found = record {
        text = text;
        spells = subst (λ (s : CertificateModel). Spells s text) (sym is) (with_rows front rows f.spells.fits r.spells.count r.spells.rows r.spells.rising, same);
        taken = Consumes-trans a.left b.left z.left f.text (r.text ++ e.found.text) f.taken (Consumes-trans b.left c.left z.left r.text e.found.text r.taken e.found.taken);
        on = (f.on.0, e.found.on.1);
      };
      whole = all_after a.left b.left f.text (r.text ++ e.found.text) f.taken (all_after b.left c.left r.text e.found.text r.taken e.whole);
    }

-- ---- what follows of spellings and first faults

never : (c : CertificateModel) (l : List ℕ) (fault : FormatFault) (from : List ℕ) → fine c l ≡ faulty CertificateModel fault from → ⊥
never c l fault from e = absurd cc

same_value : (c d : CertificateModel) (l : List ℕ) → fine c l ≡ fine d l → d ≡ c
same_value c d l e =
    let p : CertificateModel × List ℕ = (c, l) in
    let q : CertificateModel × List ℕ = (d, l) in
    let same : p ≡ q = cc in
    ap (λ (z : CertificateModel × List ℕ). z.0) (sym same)

same_fault : (f g : FormatFault) (l m : List ℕ) → faulty CertificateModel f l ≡ faulty CertificateModel g m → g ≡ f
same_fault f g l m e =
    let p : FormatFault × List ℕ = (f, l) in
    let q : FormatFault × List ℕ = (g, m) in
    let same : p ≡ q = cc in
    ap (λ (z : FormatFault × List ℕ). z.0) (sym same)

-- what is spelled is read
pub spelled_read : (bytes : List ℕ) (c : CertificateModel) → Spells c bytes → certificate bytes ≡ fine c []
unfolding end give
spelled_read bytes c s = ap certificate (s.1 ∙ sym (append-nil (spelling c))) ∙ read_again c [] s.0

pub spelled_or_faulty : (bytes : List ℕ) → AreBytes bytes → ((c : CertificateModel) × Spells c bytes) ⊎ ((fault : FormatFault) × IsFirstFormatFault bytes fault)
spelled_or_faulty bytes all = by_cases (certificate bytes) refl
  where
    by_cases : (r : Reading CertificateModel) → certificate bytes ≡ r → ((c : CertificateModel) × Spells c bytes) ⊎ ((fault : FormatFault) × IsFirstFormatFault bytes fault)
    by_cases (Ok p) e = inl (p.0, (read_takes bytes all p.0 p.1 e).0)
    by_cases (Err f) e = inr (f.0, (f.1, e))

pub not_both : (bytes : List ℕ) (c : CertificateModel) (fault : FormatFault) → Spells c bytes → IsFirstFormatFault bytes fault → ⊥
not_both bytes c fault s f = never c [] fault f.0 (sym (spelled_read bytes c s) ∙ f.1)

pub one_first_fault : (bytes : List ℕ) (f g : FormatFault) → IsFirstFormatFault bytes f → IsFirstFormatFault bytes g → g ≡ f
one_first_fault bytes f g p q = same_fault f g p.0 q.0 (sym p.1 ∙ q.1)

pub faultless : (bytes : List ℕ) → AreBytes bytes → HasNoFault certificate bytes ↔ (((c : CertificateModel) × Spells c bytes) ⊎ IsFirstFormatFault bytes Truncated)
faultless bytes all = (λ none. there none (spelled_or_faulty bytes all), back)
  where
    there : HasNoFault certificate bytes → ((c : CertificateModel) × Spells c bytes) ⊎ ((fault : FormatFault) × IsFirstFormatFault bytes fault) → ((c : CertificateModel) × Spells c bytes) ⊎ IsFirstFormatFault bytes Truncated
    there none (inl spelled) = inl spelled
    there none (inr (fault, f)) = inr (subst (λ (g : FormatFault). IsFirstFormatFault bytes g) (none fault f) f)

    back : ((c : CertificateModel) × Spells c bytes) ⊎ IsFirstFormatFault bytes Truncated → HasNoFault certificate bytes
    back (inl (c, s)) = λ fault f. absurd (not_both bytes c fault s f)
    back (inr cut) = λ fault f. one_first_fault bytes Truncated fault cut f

pub one_certificate : (c d : CertificateModel) (bytes : List ℕ) → Spells c bytes → Spells d bytes → d ≡ c
one_certificate c d bytes s t = same_value c d [] (sym (spelled_read bytes c s) ∙ spelled_read bytes d t)

pub none_begins_another : (c d : CertificateModel) (bytes more : List ℕ) → Spells c bytes → Spells d (bytes ++ more) → (more ≡ []) × (d ≡ c)
unfolding end give
none_begins_another c d bytes more s t = by_cases more (sym (ap (λ (l : List ℕ). certificate (l ++ more)) s.1 ∙ read_again c more s.0) ∙ spelled_read (bytes ++ more) d t)
  where
    by_cases : (l : List ℕ) → next_reading (λ (u : Unit {0}). give c) (end l) ≡ fine d [] → (l ≡ []) × (d ≡ c)
    by_cases [] e = (refl, same_value c d [] e)
    by_cases (b ∷ l) e = absurd (never d [] BytesAfterEnd (b ∷ l) (sym e))

-- ---- what is answered

decided : (result : Result CertificateModel ReadFault) (input : List ℕ) → TellsOfInput result input → IsAnswerTo result input
decided (Ok d) input tells = record {
  spelled = λ c s. inl (ap (λ (z : CertificateModel). Ok z) (one_certificate c d input s tells));
  faulty = λ fault f. absurd (not_both input d fault tells f);
}
decided (Err (Format g)) input tells = record {
  spelled = λ c s. absurd (not_both input c g s tells);
  faulty = λ fault f. inl (ap (λ (z : FormatFault). Err (Format z)) (one_first_fault input fault g f tells));
}
decided (Err Failed) input tells = record { spelled = λ c s. inr (inl refl); faulty = λ fault f. inr (inl refl) }
decided (Err (NoMemory refused)) input tells = record { spelled = λ c s. inr (inr (refused, refl)); faulty = λ fault f. inr (inr (refused, refl)) }

all_decided : (result : Result CertificateModel ReadFault) (left : Option (List ℕ)) → IfSome left (TellsOfInput result) → IfSome left (IsAnswerTo result)
all_decided result None tells = tt
all_decided result (Some input) tells = decided result input tells

-- what was read is what the input spells
told : (c : CertificateModel) (source : Change SourceState) → FindsAll Spells source c → IfSome source.before.left (TellsOfInput (Ok c))
told c source all = if_known source.before.left (λ input. input ≡ all.found.text) (λ input. Spells c input) (λ input is. subst (λ (l : List ℕ). Spells c l) (sym is) all.found.spells) all.whole

-- a fault is the first of the input
faulted : (f : ReadFault) (left : Option (List ℕ)) → IfFormat f (λ g. IfSome left (λ input. IsFaultOf certificate input g)) → IfSome left (TellsOfInput (Err f))
faulted f None first = tt
faulted (Format g) (Some input) first = first
faulted Failed (Some input) first = tt
faulted (NoMemory refused) (Some input) first = tt

abbrev refusal : ReadFault → Result CertificateModel ReadFault
refusal f = Err f

fails_exactly : (f : ReadFault) (has_failed : Bool) → has_failed ≡ is_failure f → (refusal f ≡ Err Failed) ↔ (has_failed ≡ true)
fails_exactly (Format g) has_failed is = (λ e. absurd cc, λ t. absurd (false≢true (sym is ∙ t)))
fails_exactly Failed has_failed is = (λ e. is, λ t. refl)
fails_exactly (NoMemory refused) has_failed is = (λ e. absurd cc, λ t. absurd (false≢true (sym is ∙ t)))

pub certificate_read : (source : Change SourceState) (result : Result CertificateModel ReadFault) → ReadsAll certificate Spells source result → ReadsCertificate source result
certificate_read source (Ok c) all =
    let tells = told c source all in
    record {
      tells = tells;
      answer = all_decided (Ok c) source.before.left tells;
      failed = (λ e. absurd cc, λ t. absurd (false≢true (sym all.found.on.1 ∙ t)));
      taken = subst (λ (l : List ℕ). Takes source l) all.found.spells.1 all.found.taken;
      stops = tt;
      given = (all.found.text, all.found.taken);
    }
certificate_read source (Err f) refuses =
    let tells = faulted f source.before.left refuses.first in
    record {
      tells = tells;
      answer = all_decided (Err f) source.before.left tells;
      failed = fails_exactly f source.after.has_failed refuses.failed;
      taken = tt;
      stops = record { seen = refuses.seen; taken = refuses.taken; is = refuses.is; stops = refuses.stops };
      given = (refuses.seen, refuses.taken);
    }

-- ---- the bytes that were taken, where those before and after are known

same_bytes : (a b : Option (List ℕ)) (bytes left seen : List ℕ) → a ≡ Some (bytes ++ left) → b ≡ Some left → Consumes a b seen → seen ≡ bytes
same_bytes a b bytes left seen was is taken =
    let known : Consumes (Some (bytes ++ left)) (Some left) seen = subst (λ (o : Option (List ℕ)). Consumes (Some (bytes ++ left)) o seen) is (subst (λ (o : Option (List ℕ)). Consumes o b seen) was taken) in
    append_cancel_right seen bytes left (sym known)

pub told_of_bytes : (source : Change SourceState) (result : Result CertificateModel ReadFault) (bytes left : List ℕ) → source.before.left ≡ Some (bytes ++ left) → source.after.left ≡ Some left → ReadsCertificate source result → TellsOfBytes result bytes
told_of_bytes source (Ok c) bytes left was is reads =
    let spells : Spells c (bytes ++ left) = subst (λ (o : Option (List ℕ)). IfSome o (TellsOfInput (Ok c))) was reads.tells in
    (spells.0, sym (same_bytes source.before.left source.after.left bytes left (spelling c) was is reads.taken))
told_of_bytes source (Err (Format fault)) bytes left was is reads =
    let p = reads.stops in
    subst (λ (l : List ℕ). IsFirstFormatFault l fault) (same_bytes source.before.left source.after.left bytes left p.seen was is p.taken) p.is
told_of_bytes source (Err Failed) bytes left was is reads =
    let p = reads.stops in
    subst (λ (l : List ℕ). HasNoFault certificate l) (same_bytes source.before.left source.after.left bytes left p.seen was is p.taken) p.stops
told_of_bytes source (Err (NoMemory refused)) bytes left was is reads =
    let p = reads.stops in
    subst (λ (l : List ℕ). IsFirstFormatFault l Truncated) (same_bytes source.before.left source.after.left bytes left p.seen was is p.taken) p.stops

-- ---- where a fault shows

-- all that were left, where they are cut off
cut_at_end : (source : Change SourceState) (seen bytes left : List ℕ) → source.before.left ≡ Some (bytes ++ left) → seen ≡ bytes → IsShown (λ l. HasNoFault certificate l) source seen Truncated → left ≡ []
cut_at_end source seen bytes left was same shown =
    let all : bytes ++ left ≡ seen = subst (λ (o : Option (List ℕ)). IfSome o (λ input. input ≡ seen)) was (shown.at_end refl) in
    append_cancel_left bytes left [] (all ∙ same ∙ sym (append-nil bytes))

-- the last byte, where they are not
shown_last : (source : Change SourceState) (fault : FormatFault) (seen bytes : List ℕ) → fault ≢ Truncated → seen ≡ bytes → IsShown (λ l. HasNoFault certificate l) source seen fault → (fault ≢ Truncated) × ((before : List ℕ) × (byte : ℕ) × (bytes ≡ before ++ byte ∷ []) × HasNoFault certificate before)
shown_last source fault seen bytes other same shown =
    let last = shown.at_byte other in
    (other, (last.0, last.1, sym same ∙ last.2, last.3))

pub fault_shows_last : (source : Change SourceState) (fault : FormatFault) (bytes left : List ℕ) → source.before.left ≡ Some (bytes ++ left) → source.after.left ≡ Some left → ReadsCertificate source (Err (Format fault)) → ((fault ≡ Truncated) × (left ≡ [])) ⊎ ((fault ≢ Truncated) × ((before : List ℕ) × (byte : ℕ) × (bytes ≡ before ++ byte ∷ []) × HasNoFault certificate before))
fault_shows_last source fault bytes left was is reads = by_fault fault p.stops
  where
    p : StopsAtFault source (Format fault)
    p = reads.stops

    same : p.seen ≡ bytes
    same = same_bytes source.before.left source.after.left bytes left p.seen was is p.taken

    by_fault : (f : FormatFault) → IsShown (λ l. HasNoFault certificate l) source p.seen f → ((f ≡ Truncated) × (left ≡ [])) ⊎ ((f ≢ Truncated) × ((before : List ℕ) × (byte : ℕ) × (bytes ≡ before ++ byte ∷ []) × HasNoFault certificate before))
    by_fault Truncated shown = inl (refl, cut_at_end source p.seen bytes left was same shown)
    by_fault OtherMagic shown = inr (shown_last source OtherMagic p.seen bytes not_magic same shown)
    by_fault OutOfRange shown = inr (shown_last source OutOfRange p.seen bytes not_range same shown)
    by_fault NotRising shown = inr (shown_last source NotRising p.seen bytes not_order same shown)
    by_fault BytesAfterEnd shown = inr (shown_last source BytesAfterEnd p.seen bytes not_after same shown)

-- ---- what an upgrade changes

-- in version 1 a plan is claimed, so the claim's byte of version 2 is 0
plan_claimed : (version : Version) (plan : Option (List Move)) → version ≡ One → Allows version plan → claim_of plan ≡ 0
plan_claimed One (Some plan) is allows = refl
plan_claimed One None is allows = absurd (false≢true allows)
plan_claimed Two (Some plan) is allows = refl
plan_claimed Two None is allows = absurd cc

module _ (c : CertificateModel) where
  -- what comes before the number of rows, without the beginning
  abbrev MiddleOf : List ℕ
  MiddleOf = opening_text c.costs ++ (groups_text c.groups.groups ++ body_text c)

  abbrev RowsOf : List ℕ
  RowsOf = count_text (length c.rows) ++ flat_map row_text c.rows

  abbrev begun_with : Version → ℕ → List ℕ
  begun_with version claim = (beginning_text version claim ++ MiddleOf) ++ RowsOf

  first_version : IsCertificate c → c.version ≡ One → (rest : List ℕ) × (spelling c ≡ codes "TILECRT1" ++ rest) × (spelling (upgraded c) ≡ codes "TILECRT2" ++ 0 ∷ rest)
  first_version is one = (MiddleOf ++ RowsOf, ap (λ (v : Version). begun_with v (claim_of c.plan)) one, ap (λ (n : ℕ). begun_with Two n) (plan_claimed c.version c.plan one is.claim))

  second_version : c.version ≡ Two → upgraded c ≡ c
  second_version two = ap (λ (v : Version). record c { version = v }) (sym two)

pub upgrade_keeps : UpgradesKeepTheRest
upgrade_keeps c is = (
  record { sides = is.sides; costs = is.costs; groups = is.groups; start = is.start; goal = is.goal; claim = tt; cost = is.cost; plan = is.plan; count = is.count; rows = is.rows; rising = is.rising },
  first_version c is,
  second_version c,
)
