-- From an outcome to a certificate, from a verdict or a reply to what is written, and where nothing is.
use Rattle.std.proofs.Common.{◌≡◌, ℕ, ◌*◌, ◌<◌, ◌≤◌, List, [], ◌∷◌, map, length, drop, get_or, sym, ap, ◌∙◌, subst, ⊎_elim, arith, ◌≢◌, ◌⊎◌, OnOk, ◌+◌, ◌^◌, Option, None, Some, Result, Ok, Err, codes, refl, inl, inr}
use Rattle.std.specs.Prelude.{All, IfSome}
use Rattle.std.specs.List.{AllByRecursion}
use Rattle.std.proofs.lemmas.Bool.{cases_lt}
use Rattle.std.proofs.lemmas.List.Elements.{recursion_from_All}
use Rattle.std.proofs.lemmas.List.{length-map}
use Rattle.std.proofs.lemmas.List.Sums.{sum_by-cons}
use Rattle.board.specs.Shapes.{ShapeModel}
use Rattle.board.specs.Boards.{BoardModel, IsBoard}
use Rattle.board.specs.Weights.{WeightsModel}
use Rattle.board.specs.Laws.{KeysAreInOrder}
use Rattle.board.specs.Plans.{Leads, NothingBelow}
use Rattle.board.specs.declared.moves.Move.{Move}
use Rattle.outcomes.specs.Outcomes.{Task}
use Rattle.outcomes.specs.declared.outcome.Ending.{Ending}
use Rattle.pattern_index.specs.Views.{ViewModel, IsView, ViewLeads, view_of}
use Rattle.pattern_index.specs.Groups.{GroupModel, AreGroupTiles, IsGroup, rank_in, place_in}
use Rattle.pattern_index.specs.Partitions.{PartitionModel, IsPartition}
use Rattle.pattern_index.proofs.ViewMoveLemmas.{board_view}
use Rattle.pattern_search.specs.declared.finding.TheConstants.{NO_VALUE}
use Rattle.database_build.specs.Tables.{IsPotential, TableModel, HoldsValues, value_in}
use Rattle.database_build.specs.Folds.{FoldedModel}
use Rattle.database_build.proofs.FoldLemmas.{potential_below, values_potential}
use Rattle.lower_bound.specs.declared.bound.TheConstants.{GREATEST_SUM}
use Rattle.lower_bound.specs.Bounds.{Part, sum_of}
use Rattle.lower_bound.specs.Folded.{AreFoldsOf, IsFoldedPotential, folded_parts, part_folded, value_for}
use Rattle.lower_bound.specs.Tables.{BoundModel, IsTables, AreTablesOf, ArePotentials, AreWhole, part_of, parts_of}
use Rattle.lower_bound.proofs.PartLemmas.{each_lookup, table_grids, whole_each, whole_parts, all_folded_parts}
use Rattle.byte_streams.specs.Streams.{SourceState, SinkState, Change}
use Rattle.batch_lines.specs.Lines.{without_return, line_kind_of}
use Rattle.batch_lines.specs.Readings.{IsJudged, LineReaderModel}
use Rattle.batch_lines.specs.Words.{IsEntry, IsFirstEntryFault, entry_code}
use Rattle.batch_lines.specs.declared.words.EntryFault.{EntryFault}
use Rattle.batch_lines.specs.declared.lines.Line.{Line}
use Rattle.batch_lines.specs.declared.lines.LineKind.{LineKind}
use Rattle.batch_lines.specs.declared.lines.LineKind.TheVariants.{PassedOver, Within, TooLong}
use Rattle.batch_runs.specs.declared.report.NoReport.{NoReport}
use Rattle.batch_runs.specs.ReportReadings.{HasSmallNumbers}
use Rattle.batch_runs.specs.Reports.{outcome_data, report_text}
use Rattle.certificate.specs.declared.certificate.Version.{Version}
use Rattle.certificate.specs.declared.certificate.Version.TheVariants.{One, Two}
use Rattle.certificate.specs.Certificates.{CertificateModel, AreCostsOf, IsBoardOf, IsCertificate, IsWithinLimit, greatest}
use Rattle.certificate.specs.Spellings.{spelling}
use Rattle.certificate.proofs.RowLemmas.{rise, rows_fit}
use Rattle.certificate.specs.declared.faults.ReadFault.{ReadFault}
use Rattle.certificate.specs.Sources.{ReadsCertificate}
use Rattle.certificate.proofs.CertificateLemmas.{read_takes}
use Rattle.certificate_check.proofs.RowLemmas.{folded_below, proved_above}
use Rattle.certificate_check.specs.Refusals.{ItsPlanLeads, IsProved}
use Rattle.batch_runs.specs.Batches.Answer.{refused, answered}
use Rattle.batch_runs.specs.Batches.{HasFailed, no_lines, with_outcome, status_of_counts}
use Rattle.batch_runs.specs.Batches.AnswersEntry.{by_fault, by_outcome, by_want}
use Rattle.batch_runs.specs.FirstLines.{FindsFirst, FindsLine}
use Rattle.batch_runs.specs.Setups.{SetupModel, Guides, task_of_setup}
use Rattle.batch_runs.proofs.BatchLemmas.{answer_is}
use Rattle.certificate_runs.specs.Built.{HasSmallEntries, HasSmallFolds, HaveSmallEntries, AreBuiltFor}
use Rattle.certificate_runs.specs.Rules.{ProofRules, MayReport, report_rules}
use Rattle.certificate_runs.specs.declared.faults.CertifyFault.{CertifyFault}
use Rattle.certificate_runs.specs.declared.faults.CertifyFault.TheVariants.{Read, Write, Memory, GroupsMemory, CertificateWrite}
use Rattle.certificate_runs.specs.declared.certifying.Reply.{Reply}
use Rattle.certificate_runs.specs.declared.certifying.Reply.TheVariants.{Certified, Reported}
use Rattle.certificate_runs.specs.Outputs.{Output}
use Rattle.certificate_runs.specs.Certifying.{IsAnswerOf, IsCertificateOf, IsCertificateFor, IsUncertified, NamesCertifiable, IsReportDue, HasNoReply, ReportsLine, IsCertifyReply, IsRefusalReply, HasFirst, PutsReply, EndsReplying, first_line, report_of, reply_output}
use Rattle.certificate_runs.specs.declared.faults.CheckFault.{CheckFault}
use Rattle.certificate_runs.specs.Checking.{IsVerdictOutput, PutsVerdict, EndsCheck, Checks}
use Rattle.certificate_runs.specs.Headline.AnswersFirst.{by_none, by_certificate, by_report}
use Rattle.certificate_runs.specs.Laws.{SilenceIsUnasked}

-- ---- rows that prove a cost with the sums of potentials prove it with those of the tables that are built for their groups

-- a table of no group
abbrev nothing : GroupModel
nothing = record { grid = record { rows = 0; cols = 0 }; tiles = [] }

module _ (rule : WeightsModel) (goal b : BoardModel) (board : IsBoard b) (same : goal.grid ≡ b.grid) where
  abbrev IsGuide : TableModel → Type 0
  IsGuide table = IsPotential rule table.selection.tiles goal (value_in table)

  -- a table that is built for a group of the board's grid
  abbrev HoldsFor : TableModel → Type 0
  HoldsFor table = IsGroup table.selection × (table.selection.grid ≡ b.grid) × HoldsValues table rule goal

  abbrev said : TableModel → ℕ
  said table = value_in table (view_of table.selection.tiles b)

  -- what is at most the greatest value, and at most what a potential of a group says of the board, is no more than what the group's table says
  under : (value : ViewModel → ℕ) (table : TableModel) (n : ℕ) → IsPotential rule table.selection.tiles goal value → HoldsFor table → n ≤ value (view_of table.selection.tiles b) → n ≤ NO_VALUE → n ≤ said table
  under value table n falls (group, sides, holds) most cap =
      let tiles = table.selection.tiles in
      let view : IsView b.grid tiles (view_of tiles b) = board_view tiles b board (subst (λ (g : ShapeModel). AreGroupTiles g tiles) sides group.group) in
      let is = holds (view_of tiles b) (subst (λ (g : ShapeModel). IsView g tiles (view_of tiles b)) (sym sides) view) in
      let view' : IsView goal.grid tiles (view_of tiles b) = subst (λ (g : ShapeModel). IsView g tiles (view_of tiles b)) (sym same) view in
      ⊎_elim
      (λ (low : value_in table (view_of tiles b) < NO_VALUE).
      let way = is.reached low in
      let below : value (view_of tiles b) ≤ value_in table (view_of tiles b) =
      potential_below rule tiles goal value falls (view_of tiles b) way.0 (value_in table (view_of tiles b)) view' (subst (λ (g : ShapeModel). ViewLeads (record { grid = g; rule = rule; tiles = tiles }) (view_of tiles b) way.0 (view_of tiles goal) (value_in table (view_of tiles b))) (sides ∙ sym same) way.1) in
      omega (arith, most, below))
      (λ (high : NO_VALUE ≤ value_in table (view_of tiles b)). omega (arith, cap, high))
      (cases_lt (value_in table (view_of tiles b)) NO_VALUE)

  -- a potential of a group says no more of the board than the group's table
  value_below : (guide table : TableModel) → guide.selection ≡ table.selection → IsGuide guide → HasSmallEntries guide → HoldsFor table → said guide ≤ said table
  value_below guide table of_one potential small hold =
      let at : said guide ≡ value_in guide (view_of table.selection.tiles b) = ap (λ (s : GroupModel). value_in guide (view_of s.tiles b)) of_one in
      let cap : said guide ≤ NO_VALUE = small (rank_in guide.selection.grid (view_of guide.selection.tiles b)) in
      under (value_in guide) table (said guide) (subst (λ (s : GroupModel). IsPotential rule s.tiles goal (value_in guide)) of_one potential) hold (omega (arith, at)) cap

  -- nor does one that was folded
  fold_below : (fold : FoldedModel) (table : TableModel) → fold.selection ≡ table.selection → IsFoldedPotential rule goal fold → HasSmallFolds fold → HoldsFor table → value_for b fold ≤ said table
  fold_below fold table of_one (guide, is, potential) small (group, sides, holds) =
      let of_guide : guide.selection ≡ table.selection = sym is.selection ∙ of_one in
      let fits : IsGroup guide.selection × (guide.selection.grid ≡ b.grid) = subst (λ (s : GroupModel). IsGroup s × (s.grid ≡ b.grid)) (sym of_guide) (group, sides) in
      let low : value_for b fold ≤ said guide = folded_below guide fold b is board fits.0 fits.1 in
      let at : said guide ≡ value_in guide (view_of table.selection.tiles b) = ap (λ (s : GroupModel). value_in guide (view_of s.tiles b)) of_guide in
      let cap : value_for b fold ≤ NO_VALUE = small (place_in fold.selection.grid (view_of fold.selection.tiles b)) in
      under (value_in guide) table (value_for b fold) (subst (λ (s : GroupModel). IsPotential rule s.tiles goal (value_in guide)) of_guide potential) (group, sides, holds) (omega (arith, low, at)) cap

  -- nor does the sum of such potentials
  sum_below : (guides tables : List TableModel) → map (λ (t : TableModel). t.selection) guides ≡ map (λ (t : TableModel). t.selection) tables → AllByRecursion IsGuide guides → AllByRecursion HasSmallEntries guides → AllByRecursion HoldsFor tables → sum_of (map part_of guides) b ≤ sum_of (map part_of tables) b
  sum_below [] tables of_one guide small hold = omega arith
  sum_below (g ∷ guides) [] of_one guide small hold = let count = ap (λ (ss : List GroupModel). length ss) of_one in absurd (omega (arith, count))
  sum_below (g ∷ guides) (t ∷ tables) of_one guide small hold =
      let first = value_below g t (ap (λ (ss : List GroupModel). get_or ss 0 nothing) of_one) guide.0 small.0 hold.0 in
      let rest = sum_below guides tables (ap (λ (ss : List GroupModel). drop 1 ss) of_one) guide.1 small.1 hold.1 in
      let before = sum_by-cons (λ (p : Part). p.value (view_of p.tiles b)) (part_of g) (map part_of guides) in
      let after = sum_by-cons (λ (p : Part). p.value (view_of p.tiles b)) (part_of t) (map part_of tables) in
      omega (arith, first, rest, before, after)

  folds_below : (folds : List FoldedModel) (tables : List TableModel) → map (λ (f : FoldedModel). f.selection) folds ≡ map (λ (t : TableModel). t.selection) tables → AllByRecursion (IsFoldedPotential rule goal) folds → AllByRecursion HasSmallFolds folds → AllByRecursion HoldsFor tables → sum_of (folded_parts folds) b ≤ sum_of (map part_of tables) b
  folds_below [] tables of_one guide small hold = omega arith
  folds_below (f ∷ folds) [] of_one guide small hold = let count = ap (λ (ss : List GroupModel). length ss) of_one in absurd (omega (arith, count))
  folds_below (f ∷ folds) (t ∷ tables) of_one guide small hold =
      let first = fold_below f t (ap (λ (ss : List GroupModel). get_or ss 0 nothing) of_one) guide.0 small.0 hold.0 in
      let rest = folds_below folds tables (ap (λ (ss : List GroupModel). drop 1 ss) of_one) guide.1 small.1 hold.1 in
      let before = sum_by-cons (λ (p : Part). p.value (view_of p.tiles b)) (part_folded f) (folded_parts folds) in
      let after = sum_by-cons (λ (p : Part). p.value (view_of p.tiles b)) (part_of t) (map part_of tables) in
      omega (arith, first, rest, before, after)

-- tables for the groups of others, which are built for the goal and the costs
pub record AreTrue (rule : WeightsModel) (goal : BoardModel) (tables : BoundModel) : Type 0 where
  pub tables_there : IsTables tables
  pub whole : AreWhole tables
  pub sides : tables.split.grid ≡ goal.grid
  pub values : All (λ table. HoldsValues table rule goal) tables.lookups

-- the sum of potentials, whole or folded, is at most that of the tables of their groups
pub sums_below : (rule : WeightsModel) (goal b : BoardModel) (guides tables : BoundModel) → IsTables guides → guides.split ≡ tables.split → ArePotentials rule goal guides → HaveSmallEntries guides → AreTrue rule goal tables → IsBoard b → b.grid ≡ goal.grid → sum_of (parts_of guides) b ≤ sum_of (parts_of tables) b
sums_below rule goal b guides tables there of_one potentials small built board same =
    subst (λ (ps : List Part). sum_of (parts_of guides) b ≤ sum_of ps b) (sym (whole_parts tables built.whole))
    (⊎_elim
    (λ (whole : AreTablesOf guides.split.groups guides.lookups × AreWhole guides).
    subst (λ (ps : List Part). sum_of ps b ≤ sum_of (map part_of tables.lookups) b) (sym (whole_parts guides whole.1))
    (sum_below rule goal b board (sym same) guides.lookups tables.lookups (whole.0 ∙ groups)
    (recursion_from_All (λ table. IsPotential rule table.selection.tiles goal (value_in table)) guides.lookups potentials.whole)
    (recursion_from_All HasSmallEntries guides.lookups small.whole) hold))
    (λ (folded : AreFoldsOf guides.split.groups guides.folds × (guides.lookups ≡ [])).
    subst (λ (ps : List Part). sum_of ps b ≤ sum_of (map part_of tables.lookups) b) (sym (all_folded_parts guides folded.1))
    (folds_below rule goal b board (sym same) guides.folds tables.lookups (folded.0 ∙ groups)
    (recursion_from_All (λ fold. IsFoldedPotential rule goal fold) guides.folds potentials.folded)
    (recursion_from_All HasSmallFolds guides.folds small.folded) hold))
    there.one_each)
  where
    groups : guides.split.groups ≡ map (λ (t : TableModel). t.selection) tables.lookups
    groups = ap (λ (s : PartitionModel). s.groups) of_one ∙ sym (whole_each tables built.tables_there built.whole)

    each : All (λ table. IsGroup table.selection × (table.selection.grid ≡ b.grid) × HoldsValues table rule goal) tables.lookups
    each k d k_in = (
      each_lookup (λ s. IsGroup s) tables built.tables_there built.tables_there.partition.groups k d k_in,
      table_grids tables built.tables_there k d k_in ∙ built.sides ∙ sym same,
      built.values k d k_in,
    )

    hold : AllByRecursion (λ table. IsGroup table.selection × (table.selection.grid ≡ b.grid) × HoldsValues table rule goal) tables.lookups
    hold = recursion_from_All (λ table. IsGroup table.selection × (table.selection.grid ≡ b.grid) × HoldsValues table rule goal) tables.lookups each

-- and these are potentials themselves
pub true_potentials : (rule : WeightsModel) (goal : BoardModel) (tables : BoundModel) → IsBoard goal → AreTrue rule goal tables → ArePotentials rule goal tables
true_potentials rule goal tables board built = record {
  whole = λ k d k_in.
      values_potential (get_or tables.lookups k d) rule goal (built.values k d k_in)
      (each_lookup (λ s. IsGroup s) tables built.tables_there built.tables_there.partition.groups k d k_in) board
      (sym (table_grids tables built.tables_there k d k_in ∙ built.sides));
  folded = λ k d k_in. let none : length tables.folds ≡ 0 = ap length built.whole in absurd (omega (arith, k_in, none));
}

-- no sum of tables with small entries is above the greatest value for each
whole_low : (lookups : List TableModel) (b : BoardModel) → AllByRecursion HasSmallEntries lookups → sum_of (map part_of lookups) b ≤ length lookups * NO_VALUE
whole_low [] b small = omega arith
whole_low (t ∷ ts) b small =
    let first : value_in t (view_of t.selection.tiles b) ≤ NO_VALUE = small.0 (rank_in t.selection.grid (view_of t.selection.tiles b)) in
    let rest = whole_low ts b small.1 in
    let all = sum_by-cons (λ (p : Part). p.value (view_of p.tiles b)) (part_of t) (map part_of ts) in
    omega (arith, first, rest, all)

folds_low : (folds : List FoldedModel) (b : BoardModel) → AllByRecursion HasSmallFolds folds → sum_of (folded_parts folds) b ≤ length folds * NO_VALUE
folds_low [] b small = omega arith
folds_low (f ∷ fs) b small =
    let first : value_for b f ≤ NO_VALUE = small.0 (place_in f.selection.grid (view_of f.selection.tiles b)) in
    let rest = folds_low fs b small.1 in
    let all = sum_by-cons (λ (p : Part). p.value (view_of p.tiles b)) (part_folded f) (folded_parts fs) in
    omega (arith, first, rest, all)

-- so no sum is above that of the greatest value for 24 groups
pub sums_low : (tables : BoundModel) (b : BoardModel) → IsTables tables → HaveSmallEntries tables → sum_of (parts_of tables) b ≤ GREATEST_SUM
sums_low tables b there small =
    ⊎_elim
    (λ (whole : AreTablesOf tables.split.groups tables.lookups × AreWhole tables).
    let low = whole_low tables.lookups b (recursion_from_All HasSmallEntries tables.lookups small.whole) in
    let count = sym (length-map tables.lookups (λ (t : TableModel). t.selection)) ∙ ap (λ (ss : List GroupModel). length ss) whole.0 in
    let few = there.partition.few in
    subst (λ (ps : List Part). sum_of ps b ≤ GREATEST_SUM) (sym (whole_parts tables whole.1)) (omega (arith, low, count, few)))
    (λ (folded : AreFoldsOf tables.split.groups tables.folds × (tables.lookups ≡ [])).
    let low = folds_low tables.folds b (recursion_from_All HasSmallFolds tables.folds small.folded) in
    let count = sym (length-map tables.folds (λ (f : FoldedModel). f.selection)) ∙ ap (λ (ss : List GroupModel). length ss) folded.0 in
    let few = there.partition.few in
    subst (λ (ps : List Part). sum_of ps b ≤ GREATEST_SUM) (sym (all_folded_parts tables folded.1)) (omega (arith, low, count, few)))
    there.one_each

-- ---- from an outcome to a certificate, and from a reply to what is written

-- a line that is to be read
abbrev pub within : ℕ → Line
within n = record { number = n; kind = Within }

-- no certificate is a refusal
no_refusal : (c : CertificateModel) (code : List ℕ) (n : ℕ) → ¬ IsRefusalReply code n (Certified c)
no_refusal c code n is = let told = ap (λ (output : Output). get_or output.text 0 0) is in letters c.version told
  where
    -- a certificate begins with a T, and a report with a brace
    letters : (v : Version) → get_or (spelling (record c { version = v })) 0 0 ≡ get_or (report_of n (refused code)).text 0 0 → ⊥
    letters One told = omega (arith, told)
    letters Two told = omega (arith, told)

-- a line that is refused by its first fault
pub refused_entry : (split : PartitionModel) (rules : ProofRules) (n : ℕ) (bytes : List ℕ) (fault : EntryFault) (reply : Reply) → IsFirstEntryFault rules.grid bytes fault → IsRefusalReply (entry_code fault) n reply → IsCertifyReply split rules (within n) bytes reply
refused_entry split rules n bytes fault (Certified c) first is = absurd (no_refusal c (entry_code fault) n is)
refused_entry split rules n bytes fault (Reported text status) first is = (refused (entry_code fault), by_fault fault first, tt, is)

-- a board for which memory was refused before the first step
pub refused_board : (split : PartitionModel) (rules : ProofRules) (n : ℕ) (bytes id : List ℕ) (b : BoardModel) (reply : Reply) → IsEntry rules.grid bytes id b → rules.allows b None → IsRefusalReply (codes "V3") n reply → IsCertifyReply split rules (within n) bytes reply
refused_board split rules n bytes id b (Certified c) entry lacking is = absurd (no_refusal c (codes "V3") n is)
refused_board split rules n bytes id b (Reported text status) entry lacking is = (refused (codes "V3"), by_want id b entry lacking, tt, is)

-- an outcome that has no certificate
pub reported_entry : (rules : ProofRules) (n : ℕ) (bytes id text : List ℕ) (b : BoardModel) (outcome : Ending) (status : ℕ) → IsEntry rules.grid bytes id b → MayReport rules b (Some outcome) → HasSmallNumbers outcome → IsUncertified outcome → text ≡ report_text (outcome_data id outcome) → status ≡ status_of_counts (with_outcome no_lines outcome)
    → ReportsLine rules (within n) bytes (record { text = text; status = status })
reported_entry rules n bytes id text b outcome status entry allowed small other written told =
    (answered id outcome, by_outcome id b outcome entry allowed small, other, λ i. record { text = written i; status = told i })

-- a line that is too long
pub refused_line : (split : PartitionModel) (rules : ProofRules) (n : ℕ) (kind : LineKind) (bytes : List ℕ) (reply : Reply) → kind ≢ PassedOver → kind ≢ Within → IsRefusalReply (codes "E12") n reply → IsCertifyReply split rules (record { number = n; kind = kind }) bytes reply
refused_line split rules n PassedOver bytes reply here long is = absurd (here refl)
refused_line split rules n Within bytes reply here long is = absurd (long refl)
refused_line split rules n TooLong bytes (Certified c) here long is = absurd (no_refusal c (codes "E12") n is)
refused_line split rules n TooLong bytes (Reported text status) here long is = (refused (codes "E12"), refl, tt, is)

-- the reply to the bytes that were kept is one to the first line
reply_is : (split : PartitionModel) (rules : ProofRules) (source : Change SourceState) (first : HasFirst source) (line : Line) (kept : List ℕ) (reply : Reply) → IsJudged first.line line.kind kept → line.number ≡ length first.passed + 1 → IsCertifyReply split rules line kept reply
    → IsCertifyReply split rules (first_line source first) (without_return first.line) reply
reply_is split rules source first line kept (Certified c) judged at (is, named) = (sym judged.judged ∙ is, subst (λ (bytes : List ℕ). IsCertificateFor split rules bytes c) (judged.whole is) named)
reply_is split rules source first line kept (Reported text status) judged at (answer, is, other, output) =
    (answer, answer_is (report_rules rules) first.line line.kind kept answer judged is, other, output ∙ ap (λ (n : ℕ). report_of n answer) at)

-- the first line, with what was found of it
abbrev first_of : (source : Change SourceState) (passed : List (List ℕ)) (bytes : List ℕ) → FindsFirst source passed bytes → HasFirst source
first_of source passed bytes finds = record { passed = passed; line = bytes; finds = finds }

-- a reply to the line that was found is written, or a beginning of it
pub replied : (split : PartitionModel) (rules : ProofRules) (source : Change SourceState) (sink : Change SinkState) (line : Line) (reader : LineReaderModel) (reply : Reply) (result : Result ℕ CertifyFault) → FindsLine source reader (Ok (Some line)) → IsCertifyReply split rules line reader.kept reply → PutsReply sink reply result → EndsReplying split rules source sink result
replied split rules source sink line reader (Certified c) (Ok status) (readable, (passed, bytes, finds, has, judged, at)) reply put =
    let named = reply_is split rules source (first_of source passed bytes finds) line reader.kept (Certified c) judged at reply in
    (readable, inr (reply_output (Certified c), (first_of source passed bytes finds, inl (named.0, (c, named.1, refl))), put.0, put.1))
replied split rules source sink line reader (Certified c) (Err fault) (readable, (passed, bytes, finds, has, judged, at)) reply put =
    let named = reply_is split rules source (first_of source passed bytes finds) line reader.kept (Certified c) judged at reply in
    subst (λ (f : CertifyFault). EndsReplying split rules source sink (Err f)) (sym put.1) (readable, (reply_output (Certified c), (first_of source passed bytes finds, named.0, (c, named.1, refl)), put.0))
replied split rules source sink line reader (Reported text told) (Ok status) (readable, (passed, bytes, finds, has, judged, at)) reply put =
    let reported = reply_is split rules source (first_of source passed bytes finds) line reader.kept (Reported text told) judged at reply in
    (readable, inr (reply_output (Reported text told), (first_of source passed bytes finds, inr reported), put.0, put.1))
replied split rules source sink line reader (Reported text told) (Err fault) (readable, (passed, bytes, finds, has, judged, at)) reply put =
    let reported = reply_is split rules source (first_of source passed bytes finds) line reader.kept (Reported text told) judged at reply in
    subst (λ (f : CertifyFault). EndsReplying split rules source sink (Err f)) (sym put.1) (readable, (reply_output (Reported text told), (first_of source passed bytes finds, reported), put.0))

-- a report that is due by the bytes that were kept is due for the line
due_is : (rules : ProofRules) (line : List ℕ) (kind : LineKind) (kept : List ℕ) → IsJudged line kind kept → IsReportDue rules kind kept → IsReportDue rules (line_kind_of line) (without_return line)
due_is rules line PassedOver kept judged due = absurd due
due_is rules line TooLong kept judged due = subst (λ (kind : LineKind). IsReportDue rules kind (without_return line)) judged.judged tt
due_is rules line Within kept judged due = subst (λ (kind : LineKind). IsReportDue rules kind (without_return line)) judged.judged (subst (λ (bytes : List ℕ). IsReportDue rules Within bytes) (judged.whole refl) due)

-- a report is due for a line that can't be read
pub due_long : (rules : ProofRules) (kind : LineKind) (bytes : List ℕ) → kind ≢ PassedOver → kind ≢ Within → IsReportDue rules kind bytes
due_long rules PassedOver bytes here long = absurd (here refl)
due_long rules TooLong bytes here long = tt
due_long rules Within bytes here long = absurd (long refl)

-- there is no reply to the line that was found
pub unreplied : (split : PartitionModel) (rules : ProofRules) (source : Change SourceState) (sink : Change SinkState) (line : Line) (reader : LineReaderModel) (fault : CertifyFault) → FindsLine source reader (Ok (Some line)) → HasNoReply rules line reader.kept fault → sink.after ≡ sink.before → EndsReplying split rules source sink (Err fault)
unreplied split rules source sink line reader Read (readable, (passed, bytes, finds, has, judged, at)) lack same = absurd lack
unreplied split rules source sink line reader Write (readable, (passed, bytes, finds, has, judged, at)) lack same = absurd lack
unreplied split rules source sink line reader (Memory lacking) (readable, (passed, bytes, finds, has, judged, at)) lack same =
    (readable, (first_of source passed bytes finds, due_is rules bytes line.kind reader.kept judged lack), same)
unreplied split rules source sink line reader (GroupsMemory wanting) (readable, (passed, bytes, finds, has, judged, at)) (within, named) same =
    (readable, (first_of source passed bytes finds, (sym judged.judged ∙ within, subst (NamesCertifiable rules) (judged.whole within) named)), same)
unreplied split rules source sink line reader CertificateWrite (readable, (passed, bytes, finds, has, judged, at)) lack same = absurd lack

-- a fault of a report that is due is one for which there is no reply
pub report_lacks : (rules : ProofRules) (line : Line) (bytes : List ℕ) (fault : CertifyFault) → IsReportDue rules line.kind bytes → (lacking : NoReport) × (fault ≡ Memory lacking) → HasNoReply rules line bytes fault
report_lacks rules line bytes fault due (lacking, is) = subst (HasNoReply rules line bytes) (sym is) due

-- what a certificate of the setup's goal states
abbrev pub stated : SetupModel → BoardModel → ℕ → Option (List Move) → List (BoardModel × ℕ) → CertificateModel
stated setup b cost plan rows = record { version = Two; grid = setup.goal.grid; costs = setup.rule; groups = setup.tables.split; start = b; goal = setup.goal; cost = cost; plan = plan; rows = rows }

-- what an outcome says can be written
cost_fits : (setup : SetupModel) (b : BoardModel) (cost : ℕ) (plan : Option (List Move)) (rows : List (BoardModel × ℕ)) → IsTables setup.tables → HaveSmallEntries setup.tables → IsAnswerOf (task_of_setup setup b) cost plan rows → cost ≤ greatest plan
cost_fits setup b cost (Some plan) rows there small answers = answers.leads.1
cost_fits setup b cost None rows there small answers = let le = answers.low GREATEST_SUM (λ c board same. sums_low setup.tables c there small) in omega (arith, le)

plan_fits : (task : Task) (cost : ℕ) (plan : Option (List Move)) (rows : List (BoardModel × ℕ)) → IsAnswerOf task cost plan rows → IfSome plan (λ moves. IsWithinLimit (length moves))
plan_fits task cost (Some plan) rows answers = answers.leads.2
plan_fits task cost None rows answers = tt

plan_leads : (task : Task) (cost : ℕ) (plan : Option (List Move)) (rows : List (BoardModel × ℕ)) → IsAnswerOf task cost plan rows → IfSome plan (λ moves. Leads task.rule task.start moves task.goal cost)
plan_leads task cost (Some plan) rows answers = answers.leads.0
plan_leads task cost None rows answers = tt

-- so it has a certificate
pub certificate_is : (order : KeysAreInOrder) (setup : SetupModel) (b : BoardModel) (cost : ℕ) (plan : Option (List Move)) (rows : List (BoardModel × ℕ)) → IsBoard setup.goal → IsTables setup.tables → HaveSmallEntries setup.tables → setup.tables.split.grid ≡ setup.goal.grid → IsBoardOf setup.goal.grid b → AreCostsOf setup.goal.grid setup.rule → length rows < 2 ^ 64 → IsAnswerOf (task_of_setup setup b) cost plan rows → IsCertificate (stated setup b cost plan rows)
certificate_is order setup b cost plan rows goal there small sides start costs few answers = record {
  sides = goal.sides;
  costs = costs;
  groups = record { split = there.partition; sides = sides };
  start = start;
  goal = record { board = goal; sides = refl };
  claim = tt;
  cost = cost_fits setup b cost plan rows there small answers;
  plan = plan_fits (task_of_setup setup b) cost plan rows answers;
  count = few;
  rows = rows_fit setup.goal.grid rows answers.rows.boards answers.rows.low;
  rising = rise order setup.goal.grid rows answers.rows.boards answers.rows.rising;
}

-- its rows prove the cost with the tables of its groups
proved_by : (setup : SetupModel) (b : BoardModel) (cost : ℕ) (plan : Option (List Move)) (rows : List (BoardModel × ℕ)) → IsBoard setup.goal → IsTables setup.tables → Guides setup.goal setup.rule setup.tables → HaveSmallEntries setup.tables → IsBoardOf setup.goal.grid b → IsAnswerOf (task_of_setup setup b) cost plan rows
    → (tables : BoundModel) → AreBuiltFor (stated setup b cost plan rows) tables → IsProved (stated setup b cost plan rows) tables
proved_by setup b cost plan rows goal there guides small start answers tables built =
    let are_true : AreTrue setup.rule setup.goal tables = record {
      tables_there = record { partition = subst (λ (s : PartitionModel). IsPartition s) (sym built.groups) there.partition; one_each = inl (built.each.one_each ∙ ap (λ (s : PartitionModel). s.groups) (sym built.groups), built.whole) };
      whole = built.whole;
      sides = ap (λ (s : PartitionModel). s.grid) built.groups ∙ guides.0;
      values = built.each.values;
    } in
    record {
      plan = plan_leads (task_of_setup setup b) cost plan rows answers;
      fit = record { groups = built.groups; whole = built.whole; potentials = true_potentials setup.rule setup.goal tables goal are_true };
      rows = proved_above setup.rule rows (sum_of (parts_of setup.tables)) (sum_of (parts_of tables)) b setup.goal cost start.board start.sides answers.rows.boards (λ r board same. sums_below setup.rule setup.goal r setup.tables tables there (sym built.groups) guides.1 small are_true board same) answers.rows.proves;
    }

-- a certificate that states what such an outcome does answers its task
pub certificate_of : (setup : SetupModel) (b : BoardModel) (cost : ℕ) (plan : Option (List Move)) (rows : List (BoardModel × ℕ)) (c : CertificateModel) → IsBoard setup.goal → IsTables setup.tables → Guides setup.goal setup.rule setup.tables → HaveSmallEntries setup.tables → IsBoardOf setup.goal.grid b → IsAnswerOf (task_of_setup setup b) cost plan rows
    → c ≡ stated setup b cost plan rows → IsCertificate c → IsCertificateOf setup.tables.split (task_of_setup setup b) c
certificate_of setup b cost plan rows c goal there guides small start answers same is = record {
  sides = ap (λ (d : CertificateModel). d.grid) same;
  costs = ap (λ (d : CertificateModel). d.costs) same;
  groups = ap (λ (d : CertificateModel). d.groups) same;
  start = ap (λ (d : CertificateModel). d.start) same;
  goal = ap (λ (d : CertificateModel). d.goal) same;
  certificate = is;
  version = ap (λ (d : CertificateModel). d.version) same;
  leads = subst (λ (d : CertificateModel). ItsPlanLeads d) (sym same) (plan_leads (task_of_setup setup b) cost plan rows answers);
  below = subst (λ (d : CertificateModel). NothingBelow d.costs d.start d.goal d.cost) (sym same) answers.below;
  proved = subst (λ (d : CertificateModel). (tables : BoundModel) → AreBuiltFor d tables → IsProved d tables) (sym same) (proved_by setup b cost plan rows goal there guides small start answers);
}

-- a reply that is put is passed on where its status is answered; else the sink has failed
pub is_passed_on : {Flushed Same : Type 0} (sink : Change SinkState) (reply : Reply) (result : Result ℕ CertifyFault) → PutsReply sink reply result → OnOk result Flushed → Flushed ⊎ Same ⊎ HasFailed sink.after
is_passed_on sink reply (Ok status) puts last = inl last
is_passed_on sink reply (Err fault) puts last = inr (inr puts.0.1)

-- ---- from a verdict to what is written

-- the verdict on what was read is written, or a beginning of it
pub checked : (source : Change SourceState) (sink : Change SinkState) (read : Result CertificateModel ReadFault) (output : Output) (result : Result ℕ CheckFault) → ReadsCertificate source read → IsVerdictOutput read output → PutsVerdict sink output result → Checks source sink result
checked source sink read output (Ok status) reads verdict put = (read, reads, (output, verdict, put.0, put.1))
checked source sink read output (Err fault) reads verdict put = (read, reads, subst (λ (f : CheckFault). EndsCheck read sink (Err f)) (sym put.1) (output, verdict, put.0))

-- ---- nothing is written only where nothing is asked

-- a certificate begins with a T
spelled : (c : CertificateModel) → ¬ ([] ≡ spelling c)
spelled c e = by_version c.version (ap (λ (text : List ℕ). get_or text 0 0) e)
  where
    by_version : (v : Version) → 0 ≡ get_or (spelling (record c { version = v })) 0 0 → ⊥
    by_version One e = omega (arith, e)
    by_version Two e = omega (arith, e)

pub silence : (rules : ProofRules) → SilenceIsUnasked rules
silence rules split lines (by_none none empty) = none
silence rules split lines (by_certificate n line id b c asked names certifies) = absurd (spelled c (read_takes [] tt c [] certifies.read).0.1)
silence rules split lines (by_report n line asked truth lacking) =
    let many = truth.one_each in
    let one = ap (λ (asking : List (ℕ × List ℕ)). length asking) asked in
    absurd (omega (arith, many, one))
