-- Figures of searches: that they are handed over with each answered line, and what is printed of them.
use Rattle.std.specs.Prelude.{ℕ, ◌≡◌, ◌<◌, ◌^◌, List, [], ◌∷◌, length, Option, ⊤, codes}
use Rattle.serde_json.specs.Data.{Data, number, unsigned, string, object, member, no_members}
use Rattle.board.specs.Shapes.{ShapeModel}
use Rattle.board.specs.Boards.{BoardModel}
use Rattle.byte_streams.specs.Streams.{SinkState, Change}
use Rattle.byte_streams.specs.Sink.{PutsBeginning}
use Rattle.batch_lines.specs.Lines.{without_return}
use Rattle.batch_lines.specs.Words.{IsEntry}
use Rattle.batch_runs.specs.Batches.{Rules, Answer, AnswersLines, answers_text, AreFirst}
use Rattle.batch_runs.specs.Batches.Answer.{passed_over, refused, answered}
use Rattle.batch_runs.specs.declared.stats.Stats.{Stats}
use Rattle.batch_runs.specs.declared.stats.Solved.{Solved}

-- ---- figures that are handed over

-- Where an ending answers the line with these bytes, figures were handed over with the line's id: those of its board, beside this ending.
abbrev pub HandsOver : ShapeModel → (List ℕ → BoardModel → Solved → Type 0) → List ℕ → Answer → Type 0
HandsOver grid handed bytes passed_over = ⊤
HandsOver grid handed bytes (refused code) = ⊤
HandsOver grid handed bytes (answered id ending) = (b : BoardModel) × (solved : Solved) × IsEntry grid bytes id b × handed id b solved × (solved.ending ≡ ending)

-- the same of each of these lines
abbrev pub HandsAllOver : ShapeModel → (List ℕ → BoardModel → Solved → Type 0) → List (List ℕ) → List Answer → Type 0
HandsAllOver grid handed [] answers = ⊤
HandsAllOver grid handed (line ∷ lines) [] = ⊤
HandsAllOver grid handed (line ∷ lines) (answer ∷ answers) = HandsOver grid handed (without_return line) answer × HandsAllOver grid handed lines answers

-- a beginning of the reports of the first lines was written, and the figures of all these lines were handed over
pub record HandsFigures (rules : Rules) (handed : List ℕ → BoardModel → Solved → Type 0) (input : Option (List ℕ)) (sink : Change SinkState) : Type 0 where
  pub lines : List (List ℕ)
  pub answers : List Answer
  pub few : length lines < 2 ^ 64
  pub first : AreFirst input lines
  pub answered : AnswersLines rules lines answers
  pub begun : PutsBeginning sink (answers_text 1 answers)
  pub figures : HandsAllOver rules.grid handed lines answers

-- ---- what is printed

-- the figures for the line with this id
abbrev pub stats_data : List ℕ → Stats → Data
stats_data id stats =
    object
    (member (codes "expanded") (number (unsigned stats.expanded))
    (member (codes "id") (string id)
    (member (codes "known") (number (unsigned stats.known))
    (member (codes "microseconds") (number (unsigned stats.microseconds)) (member (codes "start_sum") (number (unsigned stats.start_sum)) no_members)))))
