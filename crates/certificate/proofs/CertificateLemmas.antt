-- Certificates are read where they are spelled, and what comes before the first fault begins a spelling, or announces groups or rows.
use Rattle.std.proofs.Common.{◌≡◌, ◌≢◌, ◌⊎◌, inl, inr, ⊎_elim, ℕ, zero, suc, ◌<◌, ◌≤◌, ◌^◌, List, [], ◌∷◌, ◌++◌, length, Option, Some, None, Ok, Err, refl, sym, ap, subst, ◌∙◌, append-nil, append_assoc, arith}
use Rattle.std.specs.List.{flat_map, AllByRecursion}
use Rattle.std.specs.Prelude.{All}
use Rattle.board.specs.declared.moves.Move.{Move}
use Rattle.board.specs.Shapes.{ShapeModel, IsShape}
use Rattle.board.specs.Boards.{BoardModel}
use Rattle.board.specs.Weights.{WeightsModel}
use Rattle.pattern_index.specs.Groups.{GroupModel}
use Rattle.pattern_index.specs.Partitions.{PartitionModel}
use Rattle.certificate.specs.declared.certificate.TheConstants.{GREATEST_BOUND}
use Rattle.certificate.specs.declared.certificate.Version.{Version}
use Rattle.certificate.specs.declared.certificate.Version.TheVariants.{One, Two}
use Rattle.certificate.specs.Fields.{IsClaimIn, SpellsAllGroups, SpellsAllRows, SpellsBeginning, SpellsBoard, SpellsBody, SpellsClaimed, SpellsCount, SpellsFront, SpellsGroups, SpellsOpening}
use Rattle.certificate.specs.declared.faults.FormatFault.{FormatFault}
use Rattle.certificate.specs.declared.faults.FormatFault.TheVariants.{OtherMagic, Truncated, OutOfRange, NotRising, BytesAfterEnd}
use Rattle.certificate.specs.Certificates.{CertificateModel, Allows, IsSplitOf, IsBoardOf, IsRow, RiseAfter, IsCertificate}
use Rattle.certificate.specs.Spellings.{claim_of, beginning_text, opening_text, count_text, group_text, groups_text, claimed_text, row_text, body_text, front_text, heading, announcement, spelling, Spells}
use Rattle.certificate.specs.Readings.{Reading, Reader, ◌>>=◌, next_reading, give, byte_within, byte_in, count, count_in, board, beginning, opening_fields, groups, all_groups, claimed, rows, all_rows, end, body, front, certificate, version, claim, costs_of, grid_with, group, letter, letters, number, number_within, plan, HasNoFault, IsFaultAt, IsFirstFormatFault}
use Rattle.certificate.specs.Laws.{AreBytes, Begins, AnnouncesGroups, AnnouncesRows}
use Rattle.certificate.proofs.ReaderLemmas.{Law, Opens, Law-iff, Opens-iff, Both, Law-seq, Opens-seq, Known, Law-give, Opens-give, fine, faulty, both_ok, one_fails, field_from, AreBytes-rest, Lasts, RefusalsLast, Lasts-give, Lasts-seq, Lasts-field, RefusalsLast-seq, fault_is, err_is, not_magic, not_range, not_order, not_after}
use Rattle.certificate.proofs.TextLemmas.{byte_law, beginning_law, beginning_opens, opening_law, opening_opens, board_law, board_opens, claimed_law, claimed_opens, count_law}
use Rattle.certificate.proofs.RowLemmas.{RowsText, rows_law, rows_before, rows_last, rows_missing}
use Rattle.certificate.proofs.GroupLemmas.{IsGroupHead, all_groups_law, groups_before, groups_missing, no_groups_found, none_apart, split_found}

-- ---- the boards, and what is claimed

abbrev pub bare_of : Version → WeightsModel → PartitionModel → BoardModel → BoardModel → ℕ × Option (List Move) → CertificateModel
bare_of v costs split start goal found = record { version = v; grid = costs.grid; costs = costs; groups = split; start = start; goal = goal; cost = found.0; plan = found.1; rows = [] }

abbrev pub BodyParts : Version → ℕ → WeightsModel → PartitionModel → CertificateModel → List ℕ → Type 0
BodyParts v n costs split = Both (SpellsBoard costs.grid) (λ start. Both (SpellsBoard costs.grid) (λ goal. Both (SpellsClaimed n) (λ found. Known (bare_of v costs split start goal found))))

pub body_there : (v : Version) (n : ℕ) (costs : WeightsModel) (split : PartitionModel) (c : CertificateModel) (text : List ℕ) → BodyParts v n costs split c text → SpellsBody v n costs split c text
body_there v n costs split c text (start, s1, t1, b, (goal, s2, t2, g, (found, s3, t3, f, (known, nil), e3), e2), e1) =
    let made : SpellsBody v n costs split (bare_of v costs split start goal found) text = record {
      start = b.board;
      goal = g.board;
      claim = f.claim;
      cost = f.cost;
      plan = f.plan;
      same = refl;
      is = e1 ∙ (λ i. b.is i ++ e2 i) ∙ (λ i. start.tiles ++ (g.is i ++ e3 i)) ∙ (λ i. start.tiles ++ (goal.tiles ++ (f.is i ++ nil i)))
          ∙ ap (λ (l : List ℕ). start.tiles ++ (goal.tiles ++ l)) (append-nil (claimed_text found.0 found.1));
    } in
    subst (λ (d : CertificateModel). SpellsBody v n costs split d text) (sym known) made

body_back : (v : Version) (n : ℕ) (costs : WeightsModel) (split : PartitionModel) (c : CertificateModel) (text : List ℕ) → SpellsBody v n costs split c text → BodyParts v n costs split c text
body_back v n costs split c text t =
    let found : ℕ × Option (List Move) = (c.cost, c.plan) in
    let last = claimed_text c.cost c.plan in
    let b : SpellsBoard costs.grid c.start c.start.tiles = record { board = t.start; is = refl } in
    let g : SpellsBoard costs.grid c.goal c.goal.tiles = record { board = t.goal; is = refl } in
    let f : SpellsClaimed n found last = record { claim = t.claim; cost = t.cost; plan = t.plan; is = refl } in
    (c.start, c.start.tiles, c.goal.tiles ++ last, b, (c.goal, c.goal.tiles, last, g, (found, last, [], f, (t.same, refl), sym (append-nil last)), refl), t.is)

pub body_law : (v : Version) (n : ℕ) (costs : WeightsModel) (split : PartitionModel) → IsShape costs.grid → n ≤ 1 → Law (body v n costs split) (SpellsBody v n costs split)
unfolding body
body_law v n costs split sides low = Law-iff _ (BodyParts v n costs split) (SpellsBody v n costs split) (body_there v n costs split) (body_back v n costs split)
    (Law-seq (board costs.grid) _ (SpellsBoard costs.grid) _ (board_law costs.grid sides) (λ start _ _.
    Law-seq (board costs.grid) _ (SpellsBoard costs.grid) _ (board_law costs.grid sides) (λ goal _ _.
    Law-seq (claimed n) _ (SpellsClaimed n) _ (claimed_law n low) (λ found _ _. Law-give (bare_of v costs split start goal found)))))

body_opens : (v : Version) (n : ℕ) (costs : WeightsModel) (split : PartitionModel) → IsShape costs.grid → n ≤ 1 → Opens (body v n costs split) (SpellsBody v n costs split)
unfolding body
body_opens v n costs split sides low = Opens-iff _ (BodyParts v n costs split) (SpellsBody v n costs split) (body_there v n costs split)
    (Opens-seq (board costs.grid) _ (SpellsBoard costs.grid) _ (board_law costs.grid sides) (board_opens costs.grid sides) (λ start _ _.
    Opens-seq (board costs.grid) _ (SpellsBoard costs.grid) _ (board_law costs.grid sides) (board_opens costs.grid sides) (λ goal _ _.
    Opens-seq (claimed n) _ (SpellsClaimed n) _ (claimed_law n low) (claimed_opens n low) (λ found _ _. Opens-give (bare_of v costs split start goal found)))))

-- ---- all before the rows

pub at_most_one : (v : Version) (n : ℕ) → IsClaimIn v n → n ≤ 1
at_most_one One n is = omega (arith, is)
at_most_one Two n low = low

-- what is claimed may be claimed in the version
claim_allowed : (v : Version) (plan : Option (List Move)) → IsClaimIn v (claim_of plan) → Allows v plan
claim_allowed One (Some plan) is = refl
claim_allowed One None is = absurd (omega (arith, is))
claim_allowed Two plan is = tt

allowed_claim : (v : Version) (plan : Option (List Move)) → Allows v plan → IsClaimIn v (claim_of plan)
allowed_claim One (Some plan) some = refl
allowed_claim One None some = absurd cc
allowed_claim Two (Some plan) some = omega arith
allowed_claim Two None some = omega arith

abbrev pub CostsParts : Version → ℕ → CertificateModel → List ℕ → Type 0
CostsParts v n = Both SpellsOpening (λ costs. Both (SpellsAllGroups costs.grid) (λ split. SpellsBody v n costs split))

abbrev pub FrontParts : CertificateModel → List ℕ → Type 0
FrontParts = Both SpellsBeginning (λ form. CostsParts form.0 form.1)

pub front_there : (c : CertificateModel) (text : List ℕ) → FrontParts c text → SpellsFront c text
front_there c text (form, s, t, f, (costs, s0, t0, o, (split, s1, t1, g, b, e1), e0), e) =
    let v = form.0 in
    let n = form.1 in
    let whole : text ≡ beginning_text v n ++ (opening_text costs ++ (groups_text split.groups ++ body_text c)) = e ∙ (λ i. f.is i ++ e0 i) ∙ (λ i. beginning_text v n ++ (o.is i ++ e1 i)) ∙ (λ i. beginning_text v n ++ (opening_text costs ++ (g.is i ++ b.is i))) in
    let allowed : Allows v c.plan = claim_allowed v c.plan (subst (λ (m : ℕ). IsClaimIn v m) (sym b.claim) f.allowed) in
    let made : SpellsFront (record c { version = v; grid = costs.grid; costs = costs; groups = split; rows = [] }) text = record {
      fits = record { sides = o.rule.sides; costs = record { rule = o.rule; sides = refl }; groups = g.split; start = b.start; goal = b.goal; claim = allowed; cost = b.cost; plan = b.plan; count = omega arith; rows = tt; rising = tt };
      bare = refl;
      is = whole ∙ ap (λ (m : ℕ). beginning_text v m ++ (opening_text costs ++ (groups_text split.groups ++ body_text c))) (sym b.claim);
    } in
    subst (λ (d : CertificateModel). SpellsFront d text) (sym b.same) made

front_back : (c : CertificateModel) (text : List ℕ) → SpellsFront c text → FrontParts c text
front_back c text t =
    let same : c.costs.grid ≡ c.grid = t.fits.costs.sides in
    let costs = c.costs in
    let form : Version × ℕ = (c.version, claim_of c.plan) in
    let first = beginning_text c.version (claim_of c.plan) in
    let f : SpellsBeginning form first = record { allowed = allowed_claim c.version c.plan t.fits.claim; is = refl } in
    let o : SpellsOpening costs (opening_text costs) = record { rule = t.fits.costs.rule; is = refl } in
    let g : SpellsAllGroups costs.grid c.groups (groups_text c.groups.groups) = record { split = subst (λ (g : ShapeModel). IsSplitOf g c.groups) (sym same) t.fits.groups; is = refl } in
    let b : SpellsBody c.version (claim_of c.plan) costs c.groups c (body_text c) = record {
      start = subst (λ (g : ShapeModel). IsBoardOf g c.start) (sym same) t.fits.start;
      goal = subst (λ (g : ShapeModel). IsBoardOf g c.goal) (sym same) t.fits.goal;
      claim = refl;
      cost = t.fits.cost;
      plan = t.fits.plan;
      same = λ i. record { version = c.version; grid = sym same i; costs = c.costs; groups = c.groups; start = c.start; goal = c.goal; cost = c.cost; plan = c.plan; rows = t.bare i };
      is = refl;
    } in
    (form, first, opening_text costs ++ (groups_text c.groups.groups ++ body_text c), f, (costs, opening_text costs, groups_text c.groups.groups ++ body_text c, o, (c.groups, groups_text c.groups.groups, body_text c, g, b, refl), refl), t.is)

pub costs_parts_law : (v : Version) (n : ℕ) → n ≤ 1 → Law (opening_fields >>= λ costs. all_groups costs.grid >>= λ split. body v n costs split) (CostsParts v n)
costs_parts_law v n low = Law-seq opening_fields _ SpellsOpening _ opening_law (λ costs _ o. Law-seq (all_groups costs.grid) _ (SpellsAllGroups costs.grid) _ (all_groups_law costs.grid o.rule.sides) (λ split _ _. body_law v n costs split o.rule.sides low))

pub front_law : Law front SpellsFront
unfolding front
front_law = Law-iff _ FrontParts SpellsFront front_there front_back (Law-seq beginning _ SpellsBeginning _ beginning_law (λ form _ f. costs_parts_law form.0 form.1 (at_most_one form.0 form.1 f.allowed)))

-- ---- the rows

pub proof_there : (grid : ShapeModel) (rs : List (BoardModel × ℕ)) (text : List ℕ) → Both SpellsCount (λ n. RowsText grid None n) rs text → SpellsAllRows grid rs text
proof_there grid rs text (n, s, t, c, r, e) = record {
  count = subst (λ (m : ℕ). m < 2 ^ 64) (sym r.count) c.within;
  rows = r.rows;
  rising = r.rising;
  is = e ∙ (λ i. c.is i ++ r.is i) ∙ ap (λ (m : ℕ). count_text m ++ flat_map row_text rs) (sym r.count);
}

proof_back : (grid : ShapeModel) (rs : List (BoardModel × ℕ)) (text : List ℕ) → SpellsAllRows grid rs text → Both SpellsCount (λ n. RowsText grid None n) rs text
proof_back grid rs text t = (length rs, count_text (length rs), flat_map row_text rs, record { within = t.count; is = refl }, record { count = refl; rows = t.rows; rising = t.rising; is = refl }, t.is)

pub all_rows_law : (grid : ShapeModel) → IsShape grid → Law (all_rows grid) (SpellsAllRows grid)
unfolding all_rows
all_rows_law grid sides = Law-iff _ (Both SpellsCount (λ n. RowsText grid None n)) (SpellsAllRows grid) (proof_there grid) (proof_back grid) (Law-seq count _ SpellsCount _ count_law (λ n _ _. rows_law grid None n sides tt))

-- ---- the whole

-- the statement without its rows
abbrev pub bare : CertificateModel → CertificateModel
bare c = record c { rows = [] }

bare_fits : (c : CertificateModel) → IsCertificate c → IsCertificate (bare c)
bare_fits c fits = record {
  sides = fits.sides;
  costs = fits.costs;
  groups = fits.groups;
  start = fits.start;
  goal = fits.goal;
  claim = fits.claim;
  cost = fits.cost;
  plan = fits.plan;
  count = omega arith;
  rows = tt;
  rising = tt;
}

pub with_rows : (d : CertificateModel) (rs : List (BoardModel × ℕ)) → IsCertificate d → length rs < 2 ^ 64 → AllByRecursion (IsRow d.grid) rs → RiseAfter None rs → IsCertificate (record d { rows = rs })
with_rows d rs fits count all rising = record {
  sides = fits.sides;
  costs = fits.costs;
  groups = fits.groups;
  start = fits.start;
  goal = fits.goal;
  claim = fits.claim;
  cost = fits.cost;
  plan = fits.plan;
  count = count;
  rows = all;
  rising = rising;
}

abbrev rows_text : CertificateModel → List ℕ
rows_text c = count_text (length c.rows) ++ flat_map row_text c.rows

-- after the spelling only the end is left to be judged
pub read_again : (c : CertificateModel) (rest : List ℕ) → IsCertificate c → certificate (spelling c ++ rest) ≡ next_reading (λ (u : Unit {0}). give c) (end rest)
unfolding certificate ◌>>=◌
read_again c rest fits =
    let first : front (front_text c ++ (rows_text c ++ rest)) ≡ Ok (bare c, rows_text c ++ rest) = front_law.again (bare c) (front_text c) (rows_text c ++ rest) (record { fits = bare_fits c fits; bare = refl; is = refl }) in
    let second : all_rows c.grid (rows_text c ++ rest) ≡ Ok (c.rows, rest) = (all_rows_law c.grid fits.sides).again c.rows (rows_text c) rest (record { count = fits.count; rows = fits.rows; rising = fits.rising; is = refl }) in
    ap (λ (l : List ℕ). certificate l) (append_assoc (front_text c) (rows_text c) rest)
    ∙ ap (next_reading (λ (d : CertificateModel). all_rows d.grid >>= λ rs. end >>= λ u. give (record d { rows = rs }))) first
    ∙ ap (next_reading (λ (rs : List (BoardModel × ℕ)). end >>= λ u. give (record (bare c) { rows = rs }))) second

-- all before the rows, and then the rows
whole_text : (bytes s mid t rest : List ℕ) (d : CertificateModel) (rs : List (BoardModel × ℕ)) → bytes ≡ s ++ mid → s ≡ front_text d → mid ≡ t ++ rest → t ≡ count_text (length rs) ++ flat_map row_text rs → bytes ≡ spelling (record d { rows = rs }) ++ rest
whole_text bytes s mid t rest d rs parts first others proof =
    parts ∙ (λ i. first i ++ others i) ∙ ap (λ (l : List ℕ). front_text d ++ (l ++ rest)) proof ∙ sym (append_assoc (front_text d) (count_text (length rs) ++ flat_map row_text rs) rest)

end_takes : (bytes : List ℕ) (u : Unit {0}) (rest : List ℕ) → end bytes ≡ fine u rest → (bytes ≡ []) × (rest ≡ [])
unfolding end
end_takes [] u rest e =
    let p : Unit {0} × List ℕ = (tt, []) in
    let q : Unit {0} × List ℕ = (u, rest) in
    let same : p ≡ q = cc in
    (refl, ap (λ (z : Unit {0} × List ℕ). z.1) (sym same))
end_takes (b ∷ bytes) u rest e = absurd cc

end_from : (bytes : List ℕ) (fault : FormatFault) (from : List ℕ) → end bytes ≡ faulty (Unit {0}) fault from → bytes ≡ from
unfolding end
end_from [] fault from e = absurd cc
end_from (b ∷ bytes) fault from e =
    let p : FormatFault × List ℕ = (BytesAfterEnd, b ∷ bytes) in
    let q : FormatFault × List ℕ = (fault, from) in
    let same : p ≡ q = cc in
    ap (λ (z : FormatFault × List ℕ). z.1) same

pub read_takes : (bytes : List ℕ) → AreBytes bytes → (c : CertificateModel) (rest : List ℕ) → certificate bytes ≡ fine c rest → Spells c bytes × (rest ≡ [])
unfolding certificate ◌>>=◌ give
read_takes bytes all c rest e =
    let r = both_ok (front bytes) (λ (d : CertificateModel). all_rows d.grid >>= λ rs. end >>= λ u. give (record d { rows = rs })) (c, rest) e in
    let d = r.0.0 in
    let p = front_law.takes bytes all d r.0.1 r.1 in
    let left : AreBytes r.0.1 = AreBytes-rest p.0 r.0.1 (subst (λ (l : List ℕ). AreBytes l) p.2 all) in
    let s = both_ok (all_rows d.grid r.0.1) (λ (rs : List (BoardModel × ℕ)). end >>= λ u. give (record d { rows = rs })) (c, rest) r.2 in
    let q = (all_rows_law d.grid p.1.fits.sides).takes r.0.1 left s.0.0 s.0.1 s.1 in
    let t = both_ok (end s.0.1) (λ (u : Unit {0}). give (record d { rows = s.0.0 })) (c, rest) s.2 in
    let done = end_takes s.0.1 t.0.0 t.0.1 t.1 in
    let made : CertificateModel = record d { rows = s.0.0 } in
    let x : CertificateModel × List ℕ = (made, t.0.1) in
    let y : CertificateModel × List ℕ = (c, rest) in
    let same : x ≡ y = same_pair made c t.0.1 rest t.2 in
    let fits : IsCertificate made = with_rows d s.0.0 p.1.fits q.1.count q.1.rows q.1.rising in
    let whole : bytes ≡ spelling made = whole_text bytes p.0 r.0.1 q.0 s.0.1 d s.0.0 p.2 p.1.is q.2 q.1.is ∙ ap (λ (l : List ℕ). spelling made ++ l) done.0 ∙ append-nil (spelling made) in
    (subst (λ (z : CertificateModel). Spells z bytes) (ap (λ (z : CertificateModel × List ℕ). z.0) same) (fits, whole), ap (λ (z : CertificateModel × List ℕ). z.1) (sym same) ∙ done.1)
  where
    pair : CertificateModel → List ℕ → CertificateModel × List ℕ
    pair a s = (a, s)

    same_pair : (a b : CertificateModel) (s t : List ℕ) → fine a s ≡ fine b t → pair a s ≡ pair b t
    same_pair a b s t e = cc

-- ---- what comes before a fault

-- the beginning of a spelling, or one that announces groups or rows
pub record Precedent (bytes from : List ℕ) : Type 0 where
  pub before : List ℕ
  pub c : CertificateModel
  pub parts : bytes ≡ before ++ from
  pub fits : IsCertificate c
  pub begins : Begins (spelling c) before ⊎ AnnouncesGroups c before ⊎ AnnouncesRows c before

-- what all before the rows begins with begins a spelling
begins_front : (c : CertificateModel) (s t : List ℕ) → SpellsFront c (s ++ t) → Begins (spelling c) s
begins_front c s t f = (t ++ rows_text c, ap (λ (l : List ℕ). l ++ rows_text c) (sym f.is) ∙ append_assoc s t (rows_text c))

-- some statement is of this form, and has these costs and groups
record Completed (form : Version × ℕ) (costs : WeightsModel) (split : PartitionModel) (r s t : List ℕ) : Type 0 where
  c : CertificateModel
  rest : List ℕ
  front : SpellsFront c (r ++ (s ++ (t ++ rest)))
  version_is : c.version ≡ form.0
  claim_is : claim_of c.plan ≡ form.1
  costs_are : c.costs ≡ costs
  groups_are : c.groups ≡ split

completed : (form : Version × ℕ) (costs : WeightsModel) (split : PartitionModel) (r s t : List ℕ) → SpellsBeginning form r → SpellsOpening costs s → SpellsAllGroups costs.grid split t → Completed form costs split r s t
completed form costs split r s t f o g =
    let q = (body_opens form.0 form.1 costs split o.rule.sides (at_most_one form.0 form.1 f.allowed)).some in
    record {
      c = q.0;
      rest = q.1;
      front = front_there q.0 (r ++ (s ++ (t ++ q.1))) (form, r, s ++ (t ++ q.1), f, (costs, s, t ++ q.1, o, (split, t, q.1, g, q.2, refl), refl), refl);
      version_is = ap (λ (d : CertificateModel). d.version) q.2.same;
      claim_is = q.2.claim;
      costs_are = ap (λ (d : CertificateModel). d.costs) q.2.same;
      groups_are = ap (λ (d : CertificateModel). d.groups) q.2.same;
    }

abbrev split_of : ShapeModel → List GroupModel → PartitionModel
split_of grid gs = record { grid = grid; groups = gs }

no_groups : (grid : ShapeModel) → SpellsAllGroups grid (split_of grid []) (0 ∷ [])
no_groups grid = record { split = split_found grid 0 [] [] (omega arith) (no_groups_found grid); is = refl }

regroup : (a b c d : List ℕ) → a ++ (b ++ (c ++ d)) ≡ (a ++ (b ++ c)) ++ d
regroup a b c d = ap (λ (l : List ℕ). a ++ l) (sym (append_assoc b c d)) ∙ sym (append_assoc a (b ++ c) d)

-- within the beginning
before_beginning : (bytes : List ℕ) → AreBytes bytes → (fault : FormatFault) (from : List ℕ) → beginning bytes ≡ Err (fault, from) → Precedent bytes from
before_beginning bytes all fault from e =
    let p = beginning_opens.before bytes all fault from e in
    let o = opening_opens.some in
    let costs = o.0 in
    let q = completed p.2 costs (split_of costs.grid []) (p.0 ++ p.1) o.1 (0 ∷ []) p.4 o.2 (no_groups costs.grid) in
    let rest = o.1 ++ (0 ∷ q.rest) in
    let whole : SpellsFront q.c (p.0 ++ (p.1 ++ rest)) = subst (λ (l : List ℕ). SpellsFront q.c l) (append_assoc p.0 p.1 rest) q.front in
    record { before = p.0; c = q.c; parts = p.3; fits = q.front.fits; begins = inl (begins_front q.c p.0 (p.1 ++ rest) whole) }

-- within the opening
before_opening : (form : Version × ℕ) (r : List ℕ) → SpellsBeginning form r → (bytes : List ℕ) → AreBytes bytes → (fault : FormatFault) (from : List ℕ) → opening_fields bytes ≡ Err (fault, from) → Precedent (r ++ bytes) from
before_opening form r f bytes all fault from e =
    let p = opening_opens.before bytes all fault from e in
    let costs = p.2 in
    let q = completed form costs (split_of costs.grid []) r (p.0 ++ p.1) (0 ∷ []) f p.4 (no_groups costs.grid) in
    let rest = p.1 ++ (0 ∷ q.rest) in
    let again : r ++ ((p.0 ++ p.1) ++ (0 ∷ q.rest)) ≡ (r ++ p.0) ++ rest = ap (λ (l : List ℕ). r ++ l) (append_assoc p.0 p.1 (0 ∷ q.rest)) ∙ sym (append_assoc r p.0 rest) in
    let whole : SpellsFront q.c ((r ++ p.0) ++ rest) = subst (λ (l : List ℕ). SpellsFront q.c l) again q.front in
    record { before = r ++ p.0; c = q.c; parts = ap (λ (l : List ℕ). r ++ l) p.3 ∙ sym (append_assoc r p.0 from); fits = q.front.fits; begins = inl (begins_front q.c (r ++ p.0) rest whole) }

-- groups are announced, and perhaps the number of tiles
announced : (c : CertificateModel) (count : ℕ) (head : List ℕ) → length c.groups.groups < count → count ≤ 24 → IsGroupHead head → AnnouncesGroups c (heading count c ++ head)
announced c count head more few begun = record { count = count; more = more; few = few; is = by_head begun }
  where
    by_head : IsGroupHead head → (heading count c ++ head ≡ heading count c) ⊎ ((size : ℕ) × (0 < size) × (size ≤ 24) × (heading count c ++ head ≡ heading count c ++ size ∷ []))
    by_head (inl nil) = inl (ap (λ (l : List ℕ). heading count c ++ l) nil ∙ append-nil (heading count c))
    by_head (inr w) = inr (w.0, w.1, w.2, ap (λ (l : List ℕ). heading count c ++ l) w.3)

heading_parts : (begun opened : List ℕ) (n : ℕ) (done head from : List ℕ) → begun ++ (opened ++ (n ∷ (done ++ (head ++ from)))) ≡ ((begun ++ (opened ++ (n ∷ done))) ++ head) ++ from
heading_parts begun opened n done head from =
    ap (λ (l : List ℕ). begun ++ l) (sym (append_assoc opened (n ∷ done) (head ++ from)))
    ∙ sym (append_assoc begun (opened ++ (n ∷ done)) (head ++ from))
    ∙ sym (append_assoc (begun ++ (opened ++ (n ∷ done))) head from)

-- within the groups
before_groups : (form : Version × ℕ) (costs : WeightsModel) (r s : List ℕ) → SpellsBeginning form r → SpellsOpening costs s → (bytes : List ℕ) → AreBytes bytes → (fault : FormatFault) (from : List ℕ) → all_groups costs.grid bytes ≡ Err (fault, from) → Precedent (r ++ (s ++ bytes)) from
unfolding all_groups ◌>>=◌ give
before_groups form costs r s f o bytes all fault from e =
    ⊎_elim
    (λ failed.
    let here : bytes ≡ from = field_from OutOfRange 1 (byte_in 0 24) bytes fault from failed in
    let q = completed form costs (split_of costs.grid []) r s (0 ∷ []) f o (no_groups costs.grid) in
    let whole : SpellsFront q.c ((r ++ s) ++ (0 ∷ q.rest)) = subst (λ (l : List ℕ). SpellsFront q.c l) (sym (append_assoc r s (0 ∷ q.rest))) q.front in
    record { before = r ++ s; c = q.c; parts = ap (λ (l : List ℕ). r ++ (s ++ l)) here ∙ sym (append_assoc r s from); fits = q.front.fits; begins = inl (begins_front q.c (r ++ s) (0 ∷ q.rest) whole) })
    (λ x.
    let n = x.0.0 in
    let p = (byte_law 0 24).takes bytes all n x.0.1 x.1 in
    let left : AreBytes x.0.1 = AreBytes-rest p.0 x.0.1 (subst (λ (l : List ℕ). AreBytes l) p.2 all) in
    ⊎_elim
    (λ failed.
    let q = groups_before costs.grid [] n o.rule.sides none_apart x.0.1 left fault from failed in
    let split = split_of costs.grid q.done in
    let found : SpellsGroups costs.grid [] (length q.done) q.done (flat_map group_text q.done) = record { count = refl; groups = q.groups; sides = q.sides; apart = q.apart; is = refl } in
    let m = completed form costs split r s (groups_text q.done) f o (record { split = split_found costs.grid (length q.done) q.done (flat_map group_text q.done) (omega (arith, q.fewer, p.1.below)) found; is = refl }) in
    let begun = beginning_text form.0 form.1 in
    let head_is : heading n m.c ≡ begun ++ (opening_text costs ++ (n ∷ flat_map group_text q.done)) = λ i. beginning_text (m.version_is i) (m.claim_is i) ++ (opening_text (m.costs_are i) ++ (n ∷ flat_map group_text (m.groups_are i).groups)) in
    record {
      before = heading n m.c ++ q.head;
      c = m.c;
      parts = (λ i. f.is i ++ (o.is i ++ (p.2 ∙ (λ j. p.1.is j ++ q.is j)) i)) ∙ heading_parts begun (opening_text costs) n (flat_map group_text q.done) q.head from ∙ ap (λ (l : List ℕ). (l ++ q.head) ++ from) (sym head_is);
      fits = m.front.fits;
      begins = inr (inl (announced m.c n q.head (subst (λ (z : PartitionModel). length z.groups < n) (sym m.groups_are) q.fewer) p.1.below q.begun));
    })
    (λ t. absurd (never (split_of costs.grid t.0.0) t.0.1 t.2))
    (one_fails (groups costs.grid [] n x.0.1) (λ found. give (split_of costs.grid found)) (fault, from) x.2))
    (one_fails (byte_within 0 24 bytes) (λ n. groups costs.grid [] n >>= λ found. give (split_of costs.grid found)) (fault, from) e)
  where
    never : (z : PartitionModel) (l : List ℕ) → fine z l ≡ faulty PartitionModel fault from → ⊥
    never z l e = absurd cc

-- within the boards, and what is claimed
before_body : (form : Version × ℕ) (costs : WeightsModel) (split : PartitionModel) (r s t : List ℕ) → SpellsBeginning form r → SpellsOpening costs s → SpellsAllGroups costs.grid split t → (bytes : List ℕ) → AreBytes bytes → (fault : FormatFault) (from : List ℕ) → body form.0 form.1 costs split bytes ≡ Err (fault, from)
    → Precedent (r ++ (s ++ (t ++ bytes))) from
before_body form costs split r s t f o g bytes all fault from e =
    let b = (body_opens form.0 form.1 costs split o.rule.sides (at_most_one form.0 form.1 f.allowed)).before bytes all fault from e in
    let c = b.2 in
    let last = b.0 ++ b.1 in
    let front : SpellsFront c (r ++ (s ++ (t ++ last))) = front_there c (r ++ (s ++ (t ++ last))) (form, r, s ++ (t ++ last), f, (costs, s, t ++ last, o, (split, t, last, g, b.4, refl), refl), refl) in
    let begun = r ++ (s ++ (t ++ b.0)) in
    let apart : (l : List ℕ) → r ++ (s ++ (t ++ (b.0 ++ l))) ≡ begun ++ l = λ l. ap (λ (m : List ℕ). r ++ m) (regroup s t b.0 l) ∙ sym (append_assoc r (s ++ (t ++ b.0)) l) in
    let whole : SpellsFront c (begun ++ b.1) = subst (λ (l : List ℕ). SpellsFront c l) (apart b.1) front in
    record { before = begun; c = c; parts = ap (λ (l : List ℕ). r ++ (s ++ (t ++ l))) b.3 ∙ apart from; fits = front.fits; begins = inl (begins_front c begun b.1 whole) }

-- within the costs, the groups and the boards
before_costs : (form : Version × ℕ) (r : List ℕ) → SpellsBeginning form r → (bytes : List ℕ) → AreBytes bytes → (fault : FormatFault) (from : List ℕ) → (opening_fields >>= λ costs. all_groups costs.grid >>= λ split. body form.0 form.1 costs split) bytes ≡ Err (fault, from) → Precedent (r ++ bytes) from
unfolding ◌>>=◌
before_costs form r f bytes all fault from e =
    ⊎_elim (λ failed. before_opening form r f bytes all fault from failed)
    (λ x.
    let costs = x.0.0 in
    let p = opening_law.takes bytes all costs x.0.1 x.1 in
    let left : AreBytes x.0.1 = AreBytes-rest p.0 x.0.1 (subst (λ (l : List ℕ). AreBytes l) p.2 all) in
    ⊎_elim (λ failed. subst (λ (l : List ℕ). Precedent (r ++ l) from) (sym p.2) (before_groups form costs r p.0 f p.1 x.0.1 left fault from failed))
    (λ s.
    let q = (all_groups_law costs.grid p.1.rule.sides).takes x.0.1 left s.0.0 s.0.1 s.1 in
    let rest : AreBytes s.0.1 = AreBytes-rest q.0 s.0.1 (subst (λ (l : List ℕ). AreBytes l) q.2 left) in
    let begun : bytes ≡ p.0 ++ (q.0 ++ s.0.1) = p.2 ∙ ap (λ (l : List ℕ). p.0 ++ l) q.2 in
    subst (λ (l : List ℕ). Precedent (r ++ l) from) (sym begun) (before_body form costs s.0.0 r p.0 q.0 f p.1 q.1 s.0.1 rest fault from s.2))
    (one_fails (all_groups costs.grid x.0.1) (λ split. body form.0 form.1 costs split) (fault, from) x.2))
    (one_fails (opening_fields bytes) (λ costs. all_groups costs.grid >>= λ split. body form.0 form.1 costs split) (fault, from) e)

-- within all before the rows
before_front : (bytes : List ℕ) → AreBytes bytes → (fault : FormatFault) (from : List ℕ) → front bytes ≡ Err (fault, from) → Precedent bytes from
unfolding front ◌>>=◌
before_front bytes all fault from e =
    ⊎_elim (λ failed. before_beginning bytes all fault from failed)
    (λ x.
    let form = x.0.0 in
    let p = beginning_law.takes bytes all form x.0.1 x.1 in
    let left : AreBytes x.0.1 = AreBytes-rest p.0 x.0.1 (subst (λ (l : List ℕ). AreBytes l) p.2 all) in
    subst (λ (l : List ℕ). Precedent l from) (sym p.2) (before_costs form p.0 p.1 x.0.1 left fault from x.2))
    (one_fails (beginning bytes) (λ (form : Version × ℕ). opening_fields >>= λ costs. all_groups costs.grid >>= λ split. body form.0 form.1 costs split) (fault, from) e)

-- within the rows
before_rows : (d : CertificateModel) → IsCertificate d → d.rows ≡ [] → (bytes : List ℕ) → AreBytes bytes → (fault : FormatFault) (from : List ℕ) → all_rows d.grid bytes ≡ Err (fault, from) → Precedent (front_text d ++ bytes) from
unfolding all_rows ◌>>=◌
before_rows d fits none bytes all fault from e =
    ⊎_elim
    (λ failed.
    let here : bytes ≡ from = field_from OutOfRange 8 count_in bytes fault from failed in
    record { before = front_text d; c = d; parts = ap (λ (l : List ℕ). front_text d ++ l) here; fits = fits; begins = inl (rows_text d, refl) })
    (λ r.
    let p = count_law.takes bytes all r.0.0 r.0.1 r.1 in
    let left : AreBytes r.0.1 = AreBytes-rest p.0 r.0.1 (subst (λ (l : List ℕ). AreBytes l) p.2 all) in
    let q = rows_before d.grid None r.0.0 fits.sides tt r.0.1 left fault from r.2 in
    let made : CertificateModel = record d { rows = q.done } in
    let text : bytes ≡ (count_text r.0.0 ++ flat_map row_text q.done) ++ from = p.2 ∙ (λ i. p.1.is i ++ q.is i) ∙ sym (append_assoc (count_text r.0.0) (flat_map row_text q.done) from) in
    record {
      before = announcement r.0.0 made;
      c = made;
      parts = ap (λ (l : List ℕ). front_text d ++ l) text ∙ sym (append_assoc (front_text d) (count_text r.0.0 ++ flat_map row_text q.done) from);
      fits = with_rows d q.done fits (omega (arith, q.fewer, p.1.within)) q.rows q.rising;
      begins = inr (inr (record { count = r.0.0; more = q.fewer; few = p.1.within; is = refl }));
    })
    (one_fails (count bytes) (λ n. rows d.grid None n) (fault, from) e)

pub before_fault : (bytes : List ℕ) → AreBytes bytes → (fault : FormatFault) (from : List ℕ) → IsFaultAt bytes fault from → Precedent bytes from
unfolding certificate ◌>>=◌ give
before_fault bytes all fault from e =
    ⊎_elim (λ failed. before_front bytes all fault from failed)
    (λ r.
    let d = r.0.0 in
    let p = front_law.takes bytes all d r.0.1 r.1 in
    let left : AreBytes r.0.1 = AreBytes-rest p.0 r.0.1 (subst (λ (l : List ℕ). AreBytes l) p.2 all) in
    let begun : bytes ≡ front_text d ++ r.0.1 = p.2 ∙ ap (λ (l : List ℕ). l ++ r.0.1) p.1.is in
    ⊎_elim (λ failed. subst (λ (l : List ℕ). Precedent l from) (sym begun) (before_rows d p.1.fits p.1.bare r.0.1 left fault from failed))
    (λ s.
    let q = (all_rows_law d.grid p.1.fits.sides).takes r.0.1 left s.0.0 s.0.1 s.1 in
    let made : CertificateModel = record d { rows = s.0.0 } in
    ⊎_elim
    (λ failed.
    let here : s.0.1 ≡ from = end_from s.0.1 fault from failed in
    record {
      before = spelling made;
      c = made;
      parts = whole_text bytes p.0 r.0.1 q.0 s.0.1 d s.0.0 p.2 p.1.is q.2 q.1.is ∙ ap (λ (l : List ℕ). spelling made ++ l) here;
      fits = with_rows d s.0.0 p.1.fits q.1.count q.1.rows q.1.rising;
      begins = inl ([], sym (append-nil (spelling made)));
    })
    (λ t. absurd (never made t.0.1 t.2))
    (one_fails (end s.0.1) (λ (u : Unit {0}). give made) (fault, from) s.2))
    (one_fails (all_rows d.grid r.0.1) (λ (rs : List (BoardModel × ℕ)). end >>= λ u. give (record d { rows = rs })) (fault, from) r.2))
    (one_fails (front bytes) (λ (d : CertificateModel). all_rows d.grid >>= λ rs. end >>= λ u. give (record d { rows = rs })) (fault, from) e)
  where
    never : (c : CertificateModel) (l : List ℕ) → fine c l ≡ faulty CertificateModel fault from → ⊥
    never c l e = absurd cc

-- ---- what is announced and missing

-- fewer rows than are announced are cut off
rows_announced : (c : CertificateModel) (bytes : List ℕ) → IsCertificate c → AnnouncesRows c bytes → IsFirstFormatFault bytes Truncated
unfolding certificate all_rows ◌>>=◌
rows_announced c bytes fits a =
    let q = rows_missing c.grid None a.count fits.sides tt c.rows a.more fits.rows fits.rising in
    let text = flat_map row_text c.rows in
    let first : front (announcement a.count c) ≡ Ok (bare c, count_text a.count ++ text) = front_law.again (bare c) (front_text c) (count_text a.count ++ text) (record { fits = bare_fits c fits; bare = refl; is = refl }) in
    let second : count (count_text a.count ++ text) ≡ Ok (a.count, text) = count_law.again a.count (count_text a.count) text (record { within = a.few; is = refl }) in
    let last : List (BoardModel × ℕ) → Reader CertificateModel = λ rs. end >>= λ u. give (record (bare c) { rows = rs }) in (
      q.0,
      ap certificate a.is ∙ ap (next_reading (λ (d : CertificateModel). all_rows d.grid >>= λ rs. end >>= λ u. give (record d { rows = rs }))) first
          ∙ ap (λ (r : Reading ℕ). next_reading last (next_reading (rows c.grid None) r)) second
          ∙ ap (next_reading last) q.1,
    )

-- the head of a group that is missing
head_of : (text bytes : List ℕ) → (bytes ≡ text) ⊎ ((size : ℕ) × (0 < size) × (size ≤ 24) × (bytes ≡ text ++ size ∷ [])) → (head : List ℕ) × IsGroupHead head × (bytes ≡ text ++ head)
head_of text bytes (inl is) = ([], inl refl, is ∙ sym (append-nil text))
head_of text bytes (inr (size, some, few, is)) = (size ∷ [], inr (size, some, few, refl), is)

-- fewer groups than are announced are cut off
groups_announced : (c : CertificateModel) (bytes : List ℕ) → IsCertificate c → AnnouncesGroups c bytes → IsFirstFormatFault bytes Truncated
unfolding certificate front all_groups ◌>>=◌
groups_announced c bytes fits a =
    let grid = c.costs.grid in
    let gs = c.groups.groups in
    let sides : IsShape grid = subst (λ (s : ShapeModel). IsShape s) (sym fits.costs.sides) fits.sides in
    let split = fits.groups.split in
    let of_grid : All (λ g. g.grid ≡ grid) gs = subst (λ (s : ShapeModel). All (λ (g : GroupModel). g.grid ≡ s) gs) (fits.groups.sides ∙ sym fits.costs.sides) split.of_grid in
    let h = head_of (heading a.count c) bytes a.is in
    let q = groups_missing grid [] a.count sides none_apart gs h.0 a.more split.groups of_grid split.apart h.1 in
    let form : Version × ℕ = (c.version, claim_of c.plan) in
    let begun = beginning_text c.version (claim_of c.plan) in
    let opened = opening_text c.costs in
    let done = flat_map group_text gs in
    let third : byte_within 0 24 (a.count ∷ (done ++ h.0)) ≡ Ok (a.count, done ++ h.0) = (byte_law 0 24).again a.count (a.count ∷ []) (done ++ h.0) (record { above = omega arith; below = a.few; is = refl }) in
    let second : opening_fields (opened ++ (a.count ∷ (done ++ h.0))) ≡ Ok (c.costs, a.count ∷ (done ++ h.0)) = opening_law.again c.costs opened (a.count ∷ (done ++ h.0)) (record { rule = fits.costs.rule; is = refl }) in
    let first : beginning (begun ++ (opened ++ (a.count ∷ (done ++ h.0)))) ≡ Ok (form, opened ++ (a.count ∷ (done ++ h.0))) = beginning_law.again form begun (opened ++ (a.count ∷ (done ++ h.0))) (record { allowed = allowed_claim c.version c.plan fits.claim; is = refl }) in
    let parts : bytes ≡ begun ++ (opened ++ (a.count ∷ (done ++ h.0))) = h.2 ∙ append_assoc begun (opened ++ (a.count ∷ done)) h.0 ∙ ap (λ (l : List ℕ). begun ++ l) (append_assoc opened (a.count ∷ done) h.0) in
    let body_after : PartitionModel → Reader CertificateModel = λ split. body c.version (claim_of c.plan) c.costs split in
    let to_body : List GroupModel → Reader PartitionModel = λ found. give (split_of grid found) in
    let is : front bytes ≡ Err (Truncated, q.0) =
    ap front parts ∙ ap (next_reading (λ (f : Version × ℕ). opening_fields >>= λ costs. all_groups costs.grid >>= λ split. body f.0 f.1 costs split)) first
    ∙ ap (next_reading (λ (costs : WeightsModel). all_groups costs.grid >>= λ split. body c.version (claim_of c.plan) costs split)) second
    ∙ ap (λ (r : Reading ℕ). next_reading body_after (next_reading (λ (n : ℕ). groups grid [] n >>= to_body) r)) third
    ∙ ap (λ (r : Reading (List GroupModel)). next_reading body_after (next_reading to_body r)) q.1 in
    (q.0, ap (next_reading (λ (d : CertificateModel). all_rows d.grid >>= λ rs. end >>= λ u. give (record d { rows = rs }))) is)

pub announced_cut_off : (c : CertificateModel) (bytes : List ℕ) → IsCertificate c → AnnouncesGroups c bytes ⊎ AnnouncesRows c bytes → IsFirstFormatFault bytes Truncated
announced_cut_off c bytes fits (inl a) = groups_announced c bytes fits a
announced_cut_off c bytes fits (inr a) = rows_announced c bytes fits a

-- ---- a fault other than that the bytes are cut off stays where more bytes follow

claim_lasts : (v : Version) → Lasts (claim v)
claim_lasts One = Lasts-give 0
claim_lasts Two = Lasts-field OutOfRange _ _

beginning_lasts : Lasts beginning
unfolding beginning
beginning_lasts = Lasts-seq version _ (Lasts-field OtherMagic _ _) (λ v. Lasts-seq (claim v) _ (claim_lasts v) (λ n. Lasts-give (v, n)))

costs_last : (grid : ShapeModel) (kind : ℕ) → Lasts (costs_of grid kind)
costs_last grid zero = Lasts-give _
costs_last grid (suc zero) = Lasts-give _
costs_last grid (suc (suc kind)) = Lasts-field OutOfRange _ _

opening_lasts : Lasts opening_fields
unfolding opening_fields
opening_lasts = Lasts-seq (byte_within 2 5) _ (Lasts-field OutOfRange _ _) (λ rows. Lasts-seq (byte_within 2 5) _ (Lasts-field OutOfRange _ _) (λ cols. Lasts-seq (byte_within 0 2) _ (Lasts-field OutOfRange _ _) (λ kind. costs_last (grid_with rows cols) kind)))

group_lasts : (grid : ShapeModel) (before : List GroupModel) → Lasts (group grid before)
unfolding group
group_lasts grid before = Lasts-seq (byte_within 1 24) _ (Lasts-field OutOfRange _ _) (λ n. Lasts-field OutOfRange _ _)

groups_last : (grid : ShapeModel) (before : List GroupModel) (n : ℕ) → Lasts (groups grid before n)
unfolding groups
groups_last grid before zero = Lasts-give []
groups_last grid before (suc n) = Lasts-seq (group grid before) _ (group_lasts grid before) (λ first. Lasts-seq (groups grid (before ++ first ∷ []) n) _ (groups_last grid (before ++ first ∷ []) n) (λ others. Lasts-give (first ∷ others)))

all_groups_last : (grid : ShapeModel) → Lasts (all_groups grid)
unfolding all_groups
all_groups_last grid = Lasts-seq (byte_within 0 24) _ (Lasts-field OutOfRange _ _) (λ n. Lasts-seq (groups grid [] n) _ (groups_last grid [] n) (λ found. Lasts-give _))

letters_last : (n : ℕ) → Lasts (letters n)
unfolding letters
letters_last zero = Lasts-give []
letters_last (suc n) = Lasts-seq letter _ (Lasts-field OutOfRange _ _) (λ m. Lasts-seq (letters n) _ (letters_last n) (λ ms. Lasts-give (m ∷ ms)))

plan_lasts : Lasts plan
unfolding plan
plan_lasts = Lasts-seq number _ (Lasts-field OutOfRange _ _) letters_last

claimed_lasts : (n : ℕ) → Lasts (claimed n)
claimed_lasts zero = Lasts-seq number _ (Lasts-field OutOfRange _ _) (λ cost. Lasts-seq plan _ plan_lasts (λ moves. Lasts-give (cost, Some moves)))
claimed_lasts (suc n) = Lasts-seq (number_within GREATEST_BOUND) _ (Lasts-field OutOfRange _ _) (λ bound. Lasts-give (bound, None))

body_lasts : (v : Version) (n : ℕ) (costs : WeightsModel) (split : PartitionModel) → Lasts (body v n costs split)
unfolding body
body_lasts v n costs split = Lasts-seq (board costs.grid) _ (Lasts-field OutOfRange _ _) (λ start. Lasts-seq (board costs.grid) _ (Lasts-field OutOfRange _ _) (λ goal. Lasts-seq (claimed n) _ (claimed_lasts n) (λ found. Lasts-give (bare_of v costs split start goal found))))

front_lasts : Lasts front
unfolding front
front_lasts = Lasts-seq beginning _ beginning_lasts (λ form. Lasts-seq opening_fields _ opening_lasts (λ costs. Lasts-seq (all_groups costs.grid) _ (all_groups_last costs.grid) (λ split. body_lasts form.0 form.1 costs split)))

all_rows_last : (grid : ShapeModel) → Lasts (all_rows grid)
unfolding all_rows
all_rows_last grid = Lasts-seq count _ (Lasts-field OutOfRange _ _) (λ n. rows_last grid None n)

at_end_lasts : (c : CertificateModel) → RefusalsLast (end >>= λ u. give c)
unfolding end ◌>>=◌ give
at_end_lasts c [] more fault from other e = absurd cc
at_end_lasts c (b ∷ bytes) more fault from other e = λ i. faulty CertificateModel (fault_is CertificateModel BytesAfterEnd fault (b ∷ bytes) from e i) (err_is CertificateModel BytesAfterEnd fault (b ∷ bytes) from e i ++ more)

refusals_last : RefusalsLast certificate
unfolding certificate
refusals_last = RefusalsLast-seq front _ front_lasts (λ d. RefusalsLast-seq (all_rows d.grid) _ (all_rows_last d.grid) (λ rs. at_end_lasts (record d { rows = rs })))

-- what begins a spelling has no fault, except that it may be cut off
pub begun_faultless : (c : CertificateModel) (bytes : List ℕ) → IsCertificate c → Begins (spelling c) bytes → HasNoFault certificate bytes
unfolding end give
begun_faultless c bytes fits (after, is) fault (from, e) = by_fault fault e
  where
    whole : certificate (bytes ++ after) ≡ fine c []
    whole = ap certificate (sym is ∙ sym (append-nil (spelling c))) ∙ read_again c [] fits

    never : (f : FormatFault) (l : List ℕ) → fine c [] ≡ faulty CertificateModel f l → ⊥
    never f l e = absurd cc

    other_fault : (f : FormatFault) → f ≢ Truncated → certificate bytes ≡ faulty CertificateModel f from → ⊥
    other_fault f other e = never f (from ++ after) (sym whole ∙ refusals_last bytes after f from other e)

    by_fault : (f : FormatFault) → certificate bytes ≡ faulty CertificateModel f from → f ≡ Truncated
    by_fault Truncated e = refl
    by_fault OtherMagic e = absurd (other_fault OtherMagic not_magic e)
    by_fault OutOfRange e = absurd (other_fault OutOfRange not_range e)
    by_fault NotRising e = absurd (other_fault NotRising not_order e)
    by_fault BytesAfterEnd e = absurd (other_fault BytesAfterEnd not_after e)
