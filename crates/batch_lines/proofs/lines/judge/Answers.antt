use Rattle.std.proofs.Common.{◌≡◌, ℕ, ◌<◌, ◌≤◌, List, Bool, true, false, length, sym, ap, ◌∙◌, subst, arith, ⊎_elim, take}
use Rattle.std.proofs.lemmas.Bool.{cases_lt}
use Rattle.std.proofs.lemmas.List.{take_all}
use Rattle.batch_lines.specs.declared.lines.LineKind.TheVariants.{PassedOver, Within, TooLong}
use Rattle.batch_lines.specs.declared.lines.Start.{Start}
use Rattle.batch_lines.specs.Lines.{without_return}
use Rattle.batch_lines.specs.Starts.{passes, IsScanned}
use Rattle.batch_lines.specs.Readings.{IsJudged}
use Rattle.batch_lines.specs.declared.lines.TheConstants.{LINE_LIMIT, KEPT}
use Rattle.batch_lines.proofs.LineLemmas.{scan_of, kind_of-passed, kind_of-long, kind_of-within, length-without_return}
use Rattle.batch_lines.proofs.lines.judge.Goals as goal

-- What is remembered of a line is enough to judge it.

-- a line that is passed over
judged_passed : (line kept left : List ℕ) (start : Start) (more : Bool) → IsScanned line kept (scan_of start more) → passes start ≡ true → IsJudged line PassedOver left
judged_passed line kept left start more scan passed = record {
  judged = sym (kind_of-passed line (ap passes (sym scan.begins) ∙ passed));
  whole = λ e. absurd (cc);
}

-- a line with more bytes than are kept
judged_more : (line kept left : List ℕ) (start : Start) (more : Bool) → IsScanned line kept (scan_of start more) → passes start ≡ false → more ≡ true → IsJudged line TooLong left
judged_more line kept left start more scan answered long = record {
  judged = sym (kind_of-long line (ap passes (sym scan.begins) ∙ answered) (omega (arith, scan.long.0 long, length-without_return line)));
  whole = λ e. absurd (cc);
}

-- all bytes of the line are kept
whole_line : (line kept : List ℕ) (start : Start) → IsScanned line kept (scan_of start false) → kept ≡ line
whole_line line kept start scan =
    let short : length line ≤ KEPT = ⊎_elim (λ (long : KEPT < length line). absurd (let e = scan.long.1 long in cc)) (λ (l : length line ≤ KEPT). l) (cases_lt KEPT (length line)) in
    scan.first ∙ take_all KEPT line short

-- a line whose bytes are all kept, and what is left of them without a carriage return
judged_long : (line kept left : List ℕ) (start : Start) (more : Bool) → IsScanned line kept (scan_of start more) → passes start ≡ false → more ≡ false → left ≡ without_return kept → LINE_LIMIT < length left → IsJudged line TooLong left
judged_long line kept left start more scan answered all dropped long =
    let whole = whole_line line kept start (subst (λ (m : Bool). IsScanned line kept (scan_of start m)) all scan) in
    let is : left ≡ without_return line = dropped ∙ ap without_return whole in
    record {
      judged = sym (kind_of-long line (ap passes (sym scan.begins) ∙ answered) (omega (arith, long, ap length is)));
      whole = λ e. absurd (cc);
    }

judged_within : (line kept left : List ℕ) (start : Start) (more : Bool) → IsScanned line kept (scan_of start more) → passes start ≡ false → more ≡ false → left ≡ without_return kept → length left ≤ LINE_LIMIT → IsJudged line Within left
judged_within line kept left start more scan answered all dropped short =
    let whole = whole_line line kept start (subst (λ (m : Bool). IsScanned line kept (scan_of start m)) all scan) in
    let is : left ≡ without_return line = dropped ∙ ap without_return whole in
    record {
      judged = sym (kind_of-within line (ap passes (sym scan.begins) ∙ answered) (omega (arith, short, ap length is)));
      whole = λ e. is;
    }

pub returns-then-passes : goal.returns-then-passes
returns-then-passes c = λ line scan. judged_passed line c.args.kept.now.items _ c.args.scan.start c.args.scan.more scan (sym c.passes.ensures ∙ c.if-passes.true)

pub returns-then-scan : goal.returns-then-scan
returns-then-scan c = λ line scan. judged_more line c.args.kept.now.items _ c.args.scan.start c.args.scan.more scan (sym c.passes.ensures ∙ c.if-passes.false) c.if-scan.true

pub returns-then-len-gt-LINE_LIMIT : goal.returns-then-len-gt-LINE_LIMIT
returns-then-len-gt-LINE_LIMIT c = λ line scan. judged_long line c.args.kept.now.items _ c.args.scan.start c.args.scan.more scan (sym c.passes.ensures ∙ c.if-passes.false) c.if-scan.false
    (c.truncate.ensures.items ∙ subst (λ (bytes : List ℕ). take c.length_without_return.result bytes ≡ without_return bytes) c.as_slice.ensures.value c.length_without_return.ensures) (omega (arith, c.len.ensures.value))

pub returns : goal.returns
returns c = λ line scan. judged_within line c.args.kept.now.items _ c.args.scan.start c.args.scan.more scan (sym c.passes.ensures ∙ c.if-passes.false) c.if-scan.false
    (c.truncate.ensures.items ∙ subst (λ (bytes : List ℕ). take c.length_without_return.result bytes ≡ without_return bytes) c.as_slice.ensures.value c.length_without_return.ensures) (omega (arith, c.len.ensures.value))
