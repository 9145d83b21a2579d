-- What is written line by line.
use Rattle.std.proofs.Common.{◌≡◌, ℕ, ◌+◌, ◌-◌, ◌<◌, List, [], ◌∷◌, ◌++◌, length, Result, Ok, Err, refl, sym, ap, subst, ◌∙◌, arith, append_assoc, append-nil, replicate}
use Rattle.std.proofs.KnownBytes.{Appends-nil, Appends-trans, Appends-kept}
use Rattle.std.proofs.lemmas.List.{length_push, length-append, length-replicate}
use Rattle.std.proofs.lemmas.List.Elements.{All-nil, All-push, All-append, All-cons, All-replicate}
use Rattle.board.specs.Boards.{BoardModel, IsBoard}
use Rattle.board.specs.Shapes.{cell_count}
use Rattle.board.specs.Classes.{SameClass}
use Rattle.byte_streams.specs.Streams.{SinkState, Change, from_to}
use Rattle.byte_streams.specs.Sink.{Puts, PutsBeginning, WritesAll, FailsWriting, Flushes}
use Rattle.byte_streams.specs.declared.sink.WriteFailed.{WriteFailed}
use Rattle.byte_streams.proofs.SinkLemmas.{PutsBeginning-after, PutsBeginning-longer}
use Rattle.pattern_index.specs.Ranks.{ways}
use Rattle.board_lists.specs.Classes.{AreBoardsWith, AreWholeClass}
use Rattle.board_lists.specs.Lines.{line_text, lines_text}
use Rattle.board_lists.specs.Lists.{BeginsList, ListsBoards}
use Rattle.board_lists.specs.Classes.{board_at}
use Rattle.board_lists.proofs.ClassLemmas.{AreBelow, AreBelow-none, AreBelow-more, AreBelow-same, AreBelow-on, AreBelow-all}

-- ---- texts

-- the lines of two lists, one behind the other
lines_text-append : (n : ℕ) (xs ys : List BoardModel) → lines_text n (xs ++ ys) ≡ lines_text n xs ++ lines_text (n + length xs) ys
lines_text-append n [] ys = ap (λ (k : ℕ). lines_text k ys) (omega arith)
lines_text-append n (x ∷ xs) ys =
    let next : n + 1 + length xs ≡ n + length (x ∷ xs) = omega arith in
    ap (λ (t : List ℕ). line_text n x ++ t) (lines_text-append (n + 1) xs ys ∙ ap (λ (k : ℕ). lines_text (n + 1) xs ++ lines_text k ys) next) ∙ sym (append_assoc (line_text n x) (lines_text (n + 1) xs) (lines_text (n + length (x ∷ xs)) ys))

-- one more line, and the lines behind it
lines_more : (boards : List BoardModel) (n : ℕ) (b : BoardModel) (rest : List BoardModel) → n ≡ length boards + 1 → lines_text 1 (boards ++ b ∷ rest) ≡ lines_text 1 boards ++ (line_text n b ++ lines_text (n + 1) rest)
lines_more boards n b rest is = lines_text-append 1 boards (b ∷ rest) ∙ ap (λ (k : ℕ). lines_text 1 boards ++ lines_text k (b ∷ rest)) (omega arith)

-- ---- what is written so far

-- the lines of these boards are written, and the sink has failed only if it had before
pub record AreListed (sink : Change SinkState) (boards : List BoardModel) : Type 0 where
  pub put : Puts sink (lines_text 1 boards)
  pub kept : sink.after.has_failed ≡ sink.before.has_failed

pub AreListed-none : (a : SinkState) → AreListed (from_to a a) []
AreListed-none a = record { put = Appends-nil a.contents; kept = refl }

-- one more line is written
pub AreListed-more : (a b c : SinkState) (boards : List BoardModel) (n : ℕ) (board : BoardModel) → AreListed (from_to a b) boards → n ≡ length boards + 1 → WritesAll (from_to b c) (line_text n board) → AreListed (from_to a c) (boards ++ board ∷ [])
AreListed-more a b c boards n board before is written = record {
  put = subst (λ (t : List ℕ). Puts (from_to a c) t) (sym (lines_more boards n board [] is ∙ ap (λ (t : List ℕ). lines_text 1 boards ++ t) (append-nil (line_text n board))))
      (Appends-trans a.contents b.contents c.contents (lines_text 1 boards) (line_text n board) before.put written.0);
  kept = written.1.1 ∙ sym written.1.0 ∙ before.kept;
}

-- the next line is not written whole
pub AreListed-failed : (IsSuch : List BoardModel → Type 0) (a b c : SinkState) (boards : List BoardModel) (n : ℕ) (board : BoardModel) (rest : List BoardModel) → AreListed (from_to a b) boards → n ≡ length boards + 1 → FailsWriting (from_to b c) (line_text n board) → IsSuch (boards ++ board ∷ rest) → BeginsList IsSuch (from_to a c)
AreListed-failed IsSuch a b c boards n board rest before is failed such = record {
  boards = boards ++ board ∷ rest;
  such = such;
  begun = subst (λ (t : List ℕ). PutsBeginning (from_to a c) t) (sym (lines_more boards n board rest is))
      (PutsBeginning-after a b c (lines_text 1 boards) (line_text n board ++ lines_text (n + 1) rest) before.put (PutsBeginning-longer (from_to b c) (line_text n board) (lines_text (n + 1) rest) failed.0));
  failed = failed.1;
}

-- all lines are written, and then the sink is flushed
pub AreListed-flushed : (IsSuch : List BoardModel → Type 0) (a b c : SinkState) (boards : List BoardModel) (answer : Result (Unit {0}) WriteFailed) → AreListed (from_to a b) boards → IsSuch boards → Flushes (from_to b c) answer → ListsBoards IsSuch (from_to a c) answer
AreListed-flushed IsSuch a b c boards (Ok done) before such flushed =
    record { boards = boards; such = such; written = (Appends-kept a.contents b.contents c.contents (lines_text 1 boards) before.put flushed.0, (sym before.kept ∙ flushed.1.0, flushed.1.1)) }
AreListed-flushed IsSuch a b c boards (Err failure) before such flushed = record {
  boards = boards;
  such = such;
  begun = record { sent = lines_text 1 boards; unsent = []; parts = sym (append-nil (lines_text 1 boards)); put = Appends-kept a.contents b.contents c.contents (lines_text 1 boards) before.put flushed.0 };
  failed = flushed.1;
}

-- ---- boards one by one

-- `count` boards are listed, each with the property
pub record EachIsListed (HasIt : BoardModel → Type 0) (sink : Change SinkState) (count : ℕ) : Type 0 where
  pub boards : List BoardModel
  pub each : AreBoardsWith HasIt count boards
  pub listed : AreListed sink boards

pub EachIsListed-none : (HasIt : BoardModel → Type 0) (a : SinkState) → EachIsListed HasIt (from_to a a) 0
EachIsListed-none HasIt a = record { boards = []; each = record { counted = refl; each = All-nil HasIt }; listed = AreListed-none a }

pub EachIsListed-more : (HasIt : BoardModel → Type 0) (a b c : SinkState) (count : ℕ) (board : BoardModel) → EachIsListed HasIt (from_to a b) count → HasIt board → WritesAll (from_to b c) (line_text (count + 1) board) → EachIsListed HasIt (from_to a c) (count + 1)
EachIsListed-more HasIt a b c count board before has written = record {
  boards = before.boards ++ board ∷ [];
  each = record { counted = length_push before.boards board ∙ ap (λ (k : ℕ). k + 1) before.each.counted; each = All-push HasIt before.boards board before.each.each has };
  listed = AreListed-more a b c before.boards (count + 1) board before.listed (ap (λ (k : ℕ). k + 1) (sym before.each.counted)) written;
}

pub EachIsListed-failed : (HasIt : BoardModel → Type 0) (a b c : SinkState) (count most : ℕ) (board : BoardModel) → EachIsListed HasIt (from_to a b) count → count < most → HasIt board → FailsWriting (from_to b c) (line_text (count + 1) board) → BeginsList (AreBoardsWith HasIt most) (from_to a c)
EachIsListed-failed HasIt a b c count most board before low has failed =
    let rest = replicate (most - (count + 1)) board in
    let counted = before.each.counted in
    AreListed-failed (AreBoardsWith HasIt most) a b c before.boards (count + 1) board rest before.listed (ap (λ (k : ℕ). k + 1) (sym counted)) failed
    (record {
      counted = omega (arith, length-append before.boards (board ∷ rest), length-replicate (most - (count + 1)) board);
      each = All-append HasIt before.boards (board ∷ rest) before.each.each (All-cons HasIt board rest has (All-replicate HasIt (most - (count + 1)) board has));
    })

pub EachIsListed-flushed : (HasIt : BoardModel → Type 0) (a b c : SinkState) (count : ℕ) (answer : Result (Unit {0}) WriteFailed) → EachIsListed HasIt (from_to a b) count → Flushes (from_to b c) answer → ListsBoards (AreBoardsWith HasIt count) (from_to a c) answer
EachIsListed-flushed HasIt a b c count answer before flushed = AreListed-flushed (AreBoardsWith HasIt count) a b c before.boards answer before.listed before.each flushed

-- ---- the boards of a class

-- those at the places below k are listed
pub record ClassIsListed (goal : BoardModel) (sink : Change SinkState) (k count : ℕ) : Type 0 where
  pub boards : List BoardModel
  pub are : AreBelow goal k boards
  pub listed : AreListed sink boards
  pub counted : count ≡ length boards

pub ClassIsListed-none : (goal : BoardModel) (a : SinkState) → ClassIsListed goal (from_to a a) 0 0
ClassIsListed-none goal a = record { boards = []; are = AreBelow-none goal; listed = AreListed-none a; counted = refl }

-- the next board is of the class, and its line is written
pub ClassIsListed-more : (goal : BoardModel) (a b c : SinkState) (k count : ℕ) (board : BoardModel) → IsBoard goal → ClassIsListed goal (from_to a b) k count → k < ways (cell_count goal.grid) (cell_count goal.grid) → board ≡ board_at goal.grid k → SameClass board goal → WritesAll (from_to b c) (line_text (count + 1) board) → ClassIsListed goal (from_to a c) (k + 1) (count + 1)
ClassIsListed-more goal a b c k count board goal_is before low is same written = record {
  boards = before.boards ++ board ∷ [];
  are = subst (λ (p : BoardModel). AreBelow goal (k + 1) (before.boards ++ p ∷ [])) (sym is) (AreBelow-more goal k before.boards goal_is before.are low (subst (λ (p : BoardModel). SameClass p goal) is same));
  listed = AreListed-more a b c before.boards (count + 1) board before.listed (ap (λ (m : ℕ). m + 1) before.counted) written;
  counted = ap (λ (m : ℕ). m + 1) before.counted ∙ sym (length_push before.boards board);
}

-- it isn't
pub ClassIsListed-same : (goal : BoardModel) (sink : Change SinkState) (k count : ℕ) (board : BoardModel) → IsBoard goal → ClassIsListed goal sink k count → k < ways (cell_count goal.grid) (cell_count goal.grid) → board ≡ board_at goal.grid k → ¬ SameClass board goal → ClassIsListed goal sink (k + 1) count
ClassIsListed-same goal sink k count board goal_is before low is other = record {
  boards = before.boards;
  are = AreBelow-same goal k before.boards goal_is before.are low (subst (λ (p : BoardModel). ¬ SameClass p goal) is other);
  listed = before.listed;
  counted = before.counted;
}

-- its line is not written whole
pub ClassIsListed-failed : (goal : BoardModel) (a b c : SinkState) (k count : ℕ) (board : BoardModel) → IsBoard goal → ClassIsListed goal (from_to a b) k count → k < ways (cell_count goal.grid) (cell_count goal.grid) → board ≡ board_at goal.grid k → SameClass board goal → FailsWriting (from_to b c) (line_text (count + 1) board) → BeginsList (AreWholeClass goal) (from_to a c)
ClassIsListed-failed goal a b c k count board goal_is before low is same failed =
    let all = ways (cell_count goal.grid) (cell_count goal.grid) in
    let more : AreBelow goal (k + 1) (before.boards ++ board ∷ []) = subst (λ (p : BoardModel). AreBelow goal (k + 1) (before.boards ++ p ∷ [])) (sym is) (AreBelow-more goal k before.boards goal_is before.are low (subst (λ (p : BoardModel). SameClass p goal) is same)) in
    let on = AreBelow-on goal (all - (k + 1)) (k + 1) (before.boards ++ board ∷ []) goal_is more (omega arith) in
    AreListed-failed (AreWholeClass goal) a b c before.boards (count + 1) board on.0 before.listed (ap (λ (m : ℕ). m + 1) before.counted) failed
    (subst (AreWholeClass goal) (append_assoc before.boards (board ∷ []) on.0) on.1)

pub ClassIsListed-flushed : (goal : BoardModel) (a b c : SinkState) (k count : ℕ) (answer : Result (Unit {0}) WriteFailed) → ClassIsListed goal (from_to a b) k count → k ≡ ways (cell_count goal.grid) (cell_count goal.grid) → Flushes (from_to b c) answer → ListsBoards (AreWholeClass goal) (from_to a c) answer
ClassIsListed-flushed goal a b c k count answer before all flushed =
    AreListed-flushed (AreWholeClass goal) a b c before.boards answer before.listed (AreBelow-all goal before.boards (subst (λ (n : ℕ). AreBelow goal n before.boards) all before.are)) flushed
