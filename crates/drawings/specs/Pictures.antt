-- The pictures of a certificate: its start, the board after each move of its plan, and its goal.
use Rattle.std.specs.Prelude.{ℕ, ◌≡◌, ◌+◌, List, [], ◌∷◌, ◌++◌, Option, Some, None}
use Rattle.board.specs.declared.moves.Move.{Move}
use Rattle.board.specs.Boards.{BoardModel}
use Rattle.board.specs.Weights.{WeightsModel}
use Rattle.board.specs.Moves.{Moves}
use Rattle.certificate.specs.Certificates.{CertificateModel}
use Rattle.drawings.specs.declared.pictures.Caption.{Caption}
use Rattle.drawings.specs.declared.pictures.Caption.TheVariants.{Start, Step, Goal}
use Rattle.drawings.specs.declared.pictures.Picture.{Picture}

-- a board under a caption
abbrev pub picture : Caption → BoardModel → Picture
picture caption b = record { caption = caption; board = b }

-- the boards after each move of a plan that leaves from b, the first move with this number
abbrev pub AreSteps : WeightsModel → ℕ → BoardModel → List Move → List Picture → Type 0
AreSteps rule n b [] steps = steps ≡ []
AreSteps rule n b (m ∷ plan) steps =
    (next : BoardModel) × (c : ℕ) × (later : List Picture) × Moves rule b m next c × AreSteps rule (n + 1) next plan later × (steps ≡ picture (Step n m) next ∷ later)

-- those of the plan, where there is one
abbrev pub AreStepsOf : WeightsModel → BoardModel → Option (List Move) → List Picture → Type 0
AreStepsOf rule b None steps = steps ≡ []
AreStepsOf rule b (Some plan) steps = AreSteps rule 1 b plan steps

-- the start, the steps, and the goal
abbrev pub ArePictures : CertificateModel → List Picture → Type 0
ArePictures c pictures = (steps : List Picture) × AreStepsOf c.costs c.start c.plan steps × (pictures ≡ picture Start c.start ∷ (steps ++ picture Goal c.goal ∷ []))
