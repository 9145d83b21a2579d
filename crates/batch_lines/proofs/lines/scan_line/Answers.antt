use Rattle.std.proofs.Common.{◌-◌, ◌∷◌, [], length, arith, sym, ◌∙◌, inl, inr}
use Rattle.std.proofs.lemmas.Bool.{eqb-false, eqb-true}
use Rattle.std.specs.Io.KnownBytes.{Consumes}
use Rattle.batch_lines.specs.declared.lines.TheConstants.{INPUT_LIMIT}
use Rattle.batch_lines.proofs.LineLemmas.{IsUnderWay-kept, IsUnderWay-long, ends_before, ends_after, ends_by_feed, lost_on_the_way, lost_past_limit, counted_on_the_way, counted_with_byte}
use Rattle.batch_lines.proofs.lines.scan_line.Goals as goal

pub returns-in-Err : goal.returns-in-Err
returns-in-Err g c =
    let state = g.S.Source.state in
    let way = c.bytes.invariant.way in (
      lost_on_the_way (state c.args.source.now).left (state c.bytes.source).left (state c.next_byte.new.self).left c.args.taken.now c.bytes.taken (INPUT_LIMIT - c.args.taken.now) c.bytes.kept.items c.bytes.start c.bytes.more c.in-Err.ensures.0 way,
      counted_on_the_way (state c.args.source.now).left (state c.bytes.source).left (state c.next_byte.new.self).left c.args.taken.now c.bytes.taken c.bytes.kept.items c.bytes.start c.bytes.more c.in-Err.ensures.0 way,
      inl c.in-Err.ensures.1,
      omega (arith, way.counted),
    )

pub returns-then-is_empty : goal.returns-then-is_empty
returns-then-is_empty g c =
    let state = g.S.Source.state in
    let last = rw c.in_default.is at c.in-Ok.ensures in
    let none = ends_before (state c.args.source.now).left (state c.bytes.source).left (state c.next_byte.new.self).left c.args.taken.now c.bytes.taken c.bytes.kept.items c.bytes.start c.bytes.more (eqb-true (length c.bytes.kept.items) 0 (sym c.is_empty.ensures ∙ c.if-is_empty.true)) last.0.0 last.0.1 c.bytes.invariant.way in
    ((none.0, none.1), none.2, ((c.bytes.invariant.before ∙ last.1.0, last.1.1), c.bytes.invariant.way.within))

pub returns-in_default : goal.returns-in_default
returns-in_default g c =
    let state = g.S.Source.state in
    let last = rw c.in_default.is at c.in-Ok.ensures in
    let way = c.bytes.invariant.way in
    let line = ends_after (state c.args.source.now).left (state c.bytes.source).left (state c.next_byte.new.self).left c.args.taken.now c.bytes.taken c.bytes.kept.items c.bytes.start c.bytes.more (omega (arith, eqb-false (length c.bytes.kept.items) 0 (sym c.is_empty.ensures ∙ c.if-is_empty.false))) last.0.0 last.0.1 way in
    (line.0, line.1, line.2, line.3, counted_on_the_way (state c.args.source.now).left (state c.bytes.source).left (state c.next_byte.new.self).left c.args.taken.now c.bytes.taken c.bytes.kept.items c.bytes.start c.bytes.more last.0.1 way, ((c.bytes.invariant.before ∙ last.1.0, last.1.1), way.within))

pub returns-then-taken-gt-INPUT_LIMIT-2 : goal.returns-then-taken-gt-INPUT_LIMIT-2
returns-then-taken-gt-INPUT_LIMIT-2 g c =
    let state = g.S.Source.state in
    let byte = rw c.in-Some.is at c.in-Ok.ensures in
    let way = c.bytes.invariant.way in (
      lost_past_limit (state c.args.source.now).left (state c.bytes.source).left (state c.next_byte.new.self).left c.args.taken.now c.bytes.taken c.bytes.kept.items c.bytes.start c.bytes.more c.in-Some.byte byte.0 c.if-taken-gt-INPUT_LIMIT-2.true way,
      counted_with_byte (state c.args.source.now).left (state c.bytes.source).left (state c.next_byte.new.self).left c.args.taken.now c.bytes.taken c.bytes.kept.items c.bytes.start c.bytes.more c.in-Some.byte byte.0 way,
      inr c.if-taken-gt-INPUT_LIMIT-2.true,
      omega (arith, way.counted),
    )

pub returns-then-byte-eq10 : goal.returns-then-byte-eq10
returns-then-byte-eq10 g c =
    let state = g.S.Source.state in
    let byte = rw c.in-Some.is at c.in-Ok.ensures in
    let way = c.bytes.invariant.way in
    let feed : Consumes (state c.bytes.source).left (state c.next_byte.new.self).left (10 ∷ []) = rw c.if-byte-eq10.true at byte.0 in
    let line = ends_by_feed (state c.args.source.now).left (state c.bytes.source).left (state c.next_byte.new.self).left c.args.taken.now c.bytes.taken c.bytes.kept.items c.bytes.start c.bytes.more feed way in
    (line.0, line.1, line.2, line.3, counted_with_byte (state c.args.source.now).left (state c.bytes.source).left (state c.next_byte.new.self).left c.args.taken.now c.bytes.taken c.bytes.kept.items c.bytes.start c.bytes.more c.in-Some.byte byte.0 way, ((c.bytes.invariant.before ∙ byte.1.0, byte.1.1), c.if-taken-gt-INPUT_LIMIT-2.false))

pub bytes-preserved-then-len-lt-KEPT : goal.bytes-preserved-then-len-lt-KEPT
bytes-preserved-then-len-lt-KEPT g c =
    let state = g.S.Source.state in
    let byte = rw c.in-Some.is at c.in-Ok.ensures in
    record {
      way = rw (c.push.ensures.items, c.after-start.ensures)
          (IsUnderWay-kept (state c.args.source.now).left (state c.bytes.source).left (state c.next_byte.new.self).left c.args.taken.now c.bytes.taken c.bytes.kept.items c.bytes.start c.bytes.more c.in-Some.byte (omega (arith, c.len.ensures.value)) c.if-byte-eq10.false byte.0 c.if-taken-gt-INPUT_LIMIT-2.false c.bytes.invariant.way);
      before = c.bytes.invariant.before ∙ byte.1.0 ∙ sym byte.1.1;
      fine = c.bytes.invariant.fine;
    }

pub bytes-preserved : goal.bytes-preserved
bytes-preserved g c =
    let state = g.S.Source.state in
    let byte = rw c.in-Some.is at c.in-Ok.ensures in
    record {
      way = rw c.after-start.ensures
          (IsUnderWay-long (state c.args.source.now).left (state c.bytes.source).left (state c.next_byte.new.self).left c.args.taken.now c.bytes.taken c.bytes.kept.items c.bytes.start c.bytes.more c.in-Some.byte (omega (arith, c.len.ensures.value)) c.if-byte-eq10.false byte.0 c.if-taken-gt-INPUT_LIMIT-2.false c.bytes.invariant.way);
      before = c.bytes.invariant.before ∙ byte.1.0 ∙ sym byte.1.1;
      fine = c.bytes.invariant.fine;
    }
