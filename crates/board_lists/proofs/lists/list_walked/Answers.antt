use Rattle.std.proofs.Common.{◌≡◌, subst, arith, ℕ}
use Rattle.byte_streams.specs.Streams.{change}
use Rattle.board_lists.specs.Walks.{IsWalked}
use Rattle.board_lists.specs.Classes.{AreBoardsWith}
use Rattle.board_lists.specs.Lists.{ListsBoards}
use Rattle.board_lists.proofs.ListLemmas.{EachIsListed-none, EachIsListed-more, EachIsListed-failed, EachIsListed-flushed}
use Rattle.board_lists.proofs.WalkLemmas.{walk_keeps_class}
use Rattle.board_lists.proofs.lists.list_walked.Goals as goal

pub boards-init : goal.boards-init
boards-init g c = EachIsListed-none (IsWalked c.args.goal.now c.args.moves) (g.K.Sink.state c.args.sink.now)

pub returns-in_default-clause-lists : goal.returns-in_default-clause-lists
returns-in_default-clause-lists g c =
    let state = g.K.Sink.state in
    let has : IsWalked c.args.goal.now c.args.moves c.walk-board.result = record { walked = c.walk-board.ensures.walked; class = walk_keeps_class c.args.goal.now c.args.moves c.walk-board.result c.walk-board.ensures.goal c.walk-board.ensures.walked } in
    EachIsListed-failed (IsWalked c.args.goal.now c.args.moves) (state c.args.sink.now) (state c.boards.sink) (state c.put_line.new.sink) c.boards.place c.args.count c.walk-board.result c.boards.invariant c.boards-test.true has (rw c.in_default.is at c.put_line.ensures)

pub boards-preserved : goal.boards-preserved
boards-preserved g c =
    let state = g.K.Sink.state in
    let has : IsWalked c.args.goal.now c.args.moves c.walk-board.result = record { walked = c.walk-board.ensures.walked; class = walk_keeps_class c.args.goal.now c.args.moves c.walk-board.result c.walk-board.ensures.goal c.walk-board.ensures.walked } in
    EachIsListed-more (IsWalked c.args.goal.now c.args.moves) (state c.args.sink.now) (state c.boards.sink) (state c.put_line.new.sink) c.boards.place c.walk-board.result c.boards.invariant has (rw c.in-Ok.is at c.put_line.ensures)

pub returns-clause-lists : goal.returns-clause-lists
returns-clause-lists g c =
    let state = g.K.Sink.state in
    let all : c.boards.place ≡ c.args.count = omega arith in
    subst (λ (n : ℕ). ListsBoards (AreBoardsWith (IsWalked c.args.goal.now c.args.moves) n) (change state c.args.sink.now c.flush.new.self) c.flush.result) all
    (EachIsListed-flushed (IsWalked c.args.goal.now c.args.moves) (state c.args.sink.now) (state c.boards.sink) (state c.flush.new.self) c.boards.place c.flush.result c.boards.invariant c.flush.ensures.flushes)
