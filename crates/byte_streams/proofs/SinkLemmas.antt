-- What several calls of a sink wrote.
use Rattle.std.proofs.Common.{ℕ, ◌≡◌, ◌≢◌, ◌<◌, ◌+◌, ◌-◌, false, List, [], ◌++◌, length, Option, Result, Ok, Err, sym, ◌∙◌, ap, append_assoc, append-nil, refl, take, drop, take-append-drop, arith}
use Rattle.std.proofs.lemmas.Bool.{false≢true}
use Rattle.std.proofs.lemmas.List.{length-drop}
use Rattle.std.specs.Io.KnownBytes.{Appends, Keeps}
use Rattle.std.proofs.KnownBytes.{Appends-nil, Appends-trans, Appends-kept}
use Rattle.byte_streams.specs.Streams.{SinkState, Change, from_to}
use Rattle.byte_streams.specs.Sink.{Puts, PutsBeginning, WritesAll, FailsWriting, Writes, AreTaken, StopsAtFailure}
use Rattle.byte_streams.specs.Sink.AreTaken.{by_none, by_one_more}
use Rattle.byte_streams.specs.Laws.{NotesWrites, WritesAreNoted}

-- nothing is a beginning of any bytes
pub PutsBeginning-none : (a : SinkState) (bytes : List ℕ) → PutsBeginning (from_to a a) bytes
PutsBeginning-none a bytes = record { sent = []; unsent = bytes; parts = refl; put = Appends-nil a.contents }

-- the first n bytes were written, and then a call failed
pub PutsBeginning-from_take : (sink : Change SinkState) (between : Option (List ℕ)) (n : ℕ) (bytes : List ℕ) → Appends sink.before.contents between (take n bytes) → Keeps between sink.after.contents → PutsBeginning sink bytes
PutsBeginning-from_take sink between n bytes first none = record {
  sent = take n bytes;
  unsent = drop n bytes;
  parts = sym (take-append-drop n bytes);
  put = Appends-kept sink.before.contents between sink.after.contents (take n bytes) first none;
}

-- all of the first bytes were written, and then a beginning of the next
pub PutsBeginning-after : (a b c : SinkState) (xs ys : List ℕ) → Puts (from_to a b) xs → PutsBeginning (from_to b c) ys → PutsBeginning (from_to a c) (xs ++ ys)
PutsBeginning-after a b c xs ys p q = record {
  sent = xs ++ q.sent;
  unsent = q.unsent;
  parts = ap (λ l. xs ++ l) q.parts ∙ sym (append_assoc xs q.sent q.unsent);
  put = Appends-trans a.contents b.contents c.contents xs q.sent p q.put;
}

-- a beginning of the first bytes is one of the first and the next
pub PutsBeginning-longer : (sink : Change SinkState) (xs ys : List ℕ) → PutsBeginning sink xs → PutsBeginning sink (xs ++ ys)
PutsBeginning-longer sink xs ys p = record {
  sent = p.sent;
  unsent = p.unsent ++ ys;
  parts = ap (λ l. l ++ ys) p.parts ∙ append_assoc p.sent p.unsent ys;
  put = p.put;
}

-- all of the first bytes are a beginning of the first and the next
pub PutsBeginning-from_all : (sink : Change SinkState) (xs ys : List ℕ) → Puts sink xs → PutsBeginning sink (xs ++ ys)
PutsBeginning-from_all sink xs ys p = record { sent = xs; unsent = ys; parts = refl; put = p }

-- the first bytes were written, and then the next, as far as the second call wrote them
pub Writes-after : {E : Type 0} (a b c : SinkState) (xs ys : List ℕ) (result : Result (Unit {0}) E) → WritesAll (from_to a b) xs → Writes (from_to b c) ys result → Writes (from_to a c) (xs ++ ys) result
Writes-after a b c xs ys (Ok done) first second = (Appends-trans a.contents b.contents c.contents xs ys first.0 second.0, (first.1.0, second.1.1))
Writes-after a b c xs ys (Err fault) first second =
    (PutsBeginning-after a b c xs ys first.0 second.0, second.1, λ failed. absurd (false≢true (sym first.1.0 ∙ failed)))

-- the first call failed, so the next bytes were not begun
pub FailsWriting-longer : (sink : Change SinkState) (xs ys : List ℕ) → FailsWriting sink xs → FailsWriting sink (xs ++ ys)
FailsWriting-longer sink xs ys first = (PutsBeginning-longer sink xs ys first.0, first.1, first.2)

-- nothing was to be written
pub WritesAll-nothing : (a : SinkState) → a.has_failed ≡ false → WritesAll (from_to a a) []
WritesAll-nothing a unfailed = (Appends-nil a.contents, (unfailed, unfailed))

-- the first n bytes were taken, bytes were left, and then a write failed
pub StopsAtFailure-from_take : {W : Type 0} (takes : W → List ℕ → W → Type 0) (fails : W → W → Type 0) (old before new : W) (n : ℕ) (bytes : List ℕ) → n < length bytes → AreTaken takes old (take n bytes) before → fails before new → StopsAtFailure takes fails (from_to old new) bytes
StopsAtFailure-from_take takes fails old before new n bytes within taken failed =
    let shorter : length (drop n bytes) ≡ length bytes - n = length-drop n bytes in
    record {
      sent = take n bytes;
      unsent = drop n bytes;
      between = before;
      parts = sym (take-append-drop n bytes);
      left = omega (arith, within, shorter);
      taken = taken;
      failed = failed;
    }

module _ {W : Type 0} (takes : W → List ℕ → W → Type 0) (fails : W → W → Type 0) (noted : W → List ℕ) (failures : W → ℕ) (notes : NotesWrites takes fails noted failures) where
  -- the bytes of a chain of writes are noted, and no failure
  pub puts_noted : (old new : W) (bytes : List ℕ) → AreTaken takes old bytes new → (noted new ≡ noted old ++ bytes) × (failures new ≡ failures old)
  puts_noted old _ _ by_none = (sym (append-nil (noted old)), refl)
  puts_noted old _ _ (by_one_more sent part before new taken takes_part) =
      let first = puts_noted old before sent taken in
      let next = notes.took before new part takes_part in
      (next.0 ∙ ap (λ (l : List ℕ). l ++ part) first.0 ∙ append_assoc (noted old) sent part, next.1 ∙ first.1)

  -- where one more fails, a beginning of the bytes is noted, and this failure
  pub stops_noted : (writer : Change W) (bytes : List ℕ) → StopsAtFailure takes fails writer bytes → (sent unsent : List ℕ) × (bytes ≡ sent ++ unsent) × (unsent ≢ []) × (noted writer.after ≡ noted writer.before ++ sent) × (failures writer.after ≡ failures writer.before + 1)
  stops_noted writer bytes stops =
      let first = puts_noted writer.before stops.between stops.sent stops.taken in
      let last = notes.failed stops.between writer.after stops.failed in (
        stops.sent,
        stops.unsent,
        stops.parts,
        (λ none. let z = ap (λ (l : List ℕ). length l) none in absurd (omega (arith, z, stops.left))),
        last.0 ∙ first.0,
        last.1 ∙ ap (λ (n : ℕ). n + 1) first.1,
      )

pub writes_noted : {W : Type 0} → (takes : W → List ℕ → W → Type 0) (fails : W → W → Type 0) → WritesAreNoted takes fails
writes_noted takes fails = record { puts = puts_noted takes fails; stops = stops_noted takes fails }
