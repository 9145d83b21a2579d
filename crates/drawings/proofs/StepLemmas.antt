-- The pictures of a plan, move by move.
use Rattle.std.specs.Prelude.{Option, None, Some}
use Rattle.std.proofs.Common.{ℕ, ◌≡◌, ◌+◌, ◌<◌, ◌≤◌, List, [], ◌∷◌, ◌++◌, length, drop, get_or, refl, sym, ap, subst, ◌∙◌, append_assoc, append-nil}
use Rattle.std.proofs.lemmas.List.{drop_more, drop_all}
use Rattle.board.specs.declared.moves.Move.{Move}
use Rattle.board.specs.declared.moves.Move.TheVariants.{U}
use Rattle.board.specs.Boards.{BoardModel}
use Rattle.board.specs.Weights.{WeightsModel}
use Rattle.board.specs.Moves.{Moves}
use Rattle.board.specs.Plans.{Leads}
use Rattle.board.proofs.MoveLemmas.{one_move}
use Rattle.certificate.specs.Certificates.{CertificateModel}
use Rattle.drawings.specs.declared.pictures.Caption.TheVariants.{Start, Step, Goal}
use Rattle.drawings.specs.declared.pictures.Picture.{Picture}
use Rattle.drawings.specs.Pictures.{picture, AreSteps, AreStepsOf, ArePictures}
use Rattle.drawings.specs.Drawings.{drawing_text}
use Rattle.drawings.specs.Laws.{DrawingsAreDetermined, FilesSayTheClaim}
use Rattle.std.specs.Prelude.{codes}

-- the pictures, and behind them those of the moves from place i on, are those before the plan and then those of the plan
abbrev pub AreBehind : WeightsModel → BoardModel → List Move → List Picture → ℕ → BoardModel → List Picture → Type 0
AreBehind rule start plan before i here pictures =
    (later : List Picture) → AreSteps rule (i + 1) here (drop i plan) later → (steps : List Picture) × AreSteps rule 1 start plan steps × (pictures ++ later ≡ before ++ steps)

-- the plan leads on from here
abbrev pub LeadsOn : WeightsModel → BoardModel → List Move → Type 0
LeadsOn rule here plan = (q : BoardModel) × (k : ℕ) × Leads rule here plan q k

-- the first i moves have their pictures
pub record IsPushed (rule : WeightsModel) (start : BoardModel) (plan : List Move) (before : List Picture) (i number : ℕ) (here : BoardModel) (pictures : List Picture) : Type 0 where
  pub count : number ≡ i
  pub sides : rule.grid ≡ here.grid
  pub leads : LeadsOn rule here (drop i plan)
  pub behind : AreBehind rule start plan before i here pictures

pub none_pushed : (rule : WeightsModel) (start : BoardModel) (plan : List Move) (before : List Picture) → rule.grid ≡ start.grid → LeadsOn rule start plan → IsPushed rule start plan before 0 0 start before
none_pushed rule start plan before sides leads = record { count = refl; sides = sides; leads = leads; behind = λ later steps. (later, steps, refl) }

-- the next move of a plan that leads on
pub next_move : (rule : WeightsModel) (here : BoardModel) (plan : List Move) (i : ℕ) → i < length plan → LeadsOn rule here (drop i plan) → (next : BoardModel) × (c : ℕ) × Moves rule here (get_or plan i U) next c × LeadsOn rule next (drop (i + 1) plan)
next_move rule here plan i l leads =
    let led : Leads rule here (get_or plan i U ∷ drop (i + 1) plan) leads.0 leads.1 = subst (λ (ms : List Move). Leads rule here ms leads.0 leads.1) (drop_more plan i U l) leads.2 in
    (led.0, led.1, led.3, (leads.0, led.2, led.4))

-- one more picture
pub one_more_pushed : (rule : WeightsModel) (start : BoardModel) (plan : List Move) (before : List Picture) (i number : ℕ) (here : BoardModel) (pictures : List Picture) (next : BoardModel) (c : ℕ) → i < length plan → IsPushed rule start plan before i number here pictures → Moves rule here (get_or plan i U) next c → LeadsOn rule next (drop (i + 1) plan) → IsPushed rule start plan before (i + 1) (number + 1) next (pictures ++ picture (Step (number + 1) (get_or plan i U)) next ∷ [])
one_more_pushed rule start plan before i number here pictures next c l pushed moves leads =
    let at : number + 1 ≡ i + 1 = ap (λ (n : ℕ). n + 1) pushed.count in
    let one = picture (Step (number + 1) (get_or plan i U)) next in
    let behind : AreBehind rule start plan before (i + 1) next (pictures ++ one ∷ []) = λ later steps.
    let these = subst (λ (ms : List Move). AreSteps rule (i + 1) here ms (one ∷ later)) (sym (drop_more plan i U l)) (next, c, later, moves, steps, ap (λ (n : ℕ). picture (Step n (get_or plan i U)) next ∷ later) at) in
    let all = pushed.behind (one ∷ later) these in
    (all.0, all.1, append_assoc pictures (one ∷ []) later ∙ all.2)
    in
    record { count = at; sides = pushed.sides ∙ ap (λ (b : BoardModel). b.grid) (sym moves.after); leads = leads; behind = behind }

-- all moves have their pictures
pub all_pushed : (rule : WeightsModel) (start : BoardModel) (plan : List Move) (before : List Picture) (i number : ℕ) (here : BoardModel) (pictures : List Picture) → length plan ≤ i → IsPushed rule start plan before i number here pictures → (steps : List Picture) × AreSteps rule 1 start plan steps × (pictures ≡ before ++ steps)
all_pushed rule start plan before i number here pictures l pushed =
    let none = subst (λ (ms : List Move). AreSteps rule (i + 1) here ms []) (sym (drop_all i plan l)) refl in
    let all = pushed.behind [] none in
    (all.0, all.1, sym (append-nil pictures) ∙ all.2)

-- ---- one list of pictures

one_list : (rule : WeightsModel) (n : ℕ) (b : BoardModel) (plan : List Move) (xs ys : List Picture) → AreSteps rule n b plan xs → AreSteps rule n b plan ys → ys ≡ xs
one_list rule n b [] xs ys first second = second ∙ sym first
one_list rule n b (m ∷ plan) xs ys (p, c, later, made, steps, is) (q, d, after, done, more, also) =
    let same : q ≡ p = (one_move rule b m p q c d made done).0 in
    let more' : AreSteps rule (n + 1) p plan after = subst (λ (x : BoardModel). AreSteps rule (n + 1) x plan after) same more in
    let rest : after ≡ later = one_list rule (n + 1) p plan later after steps more' in
    also ∙ (λ i. picture (Step n m) (same i) ∷ rest i) ∙ sym is

one_list_of : (rule : WeightsModel) (b : BoardModel) (plan : Option (List Move)) (xs ys : List Picture) → AreStepsOf rule b plan xs → AreStepsOf rule b plan ys → ys ≡ xs
one_list_of rule b None xs ys first second = second ∙ sym first
one_list_of rule b (Some plan) xs ys first second = one_list rule 1 b plan xs ys first second

-- a certificate has one list of pictures
pub same_pictures : (c : CertificateModel) (xs ys : List Picture) → ArePictures c xs → ArePictures c ys → ys ≡ xs
same_pictures c xs ys first second =
    let steps = one_list_of c.costs c.start c.plan first.0 second.0 first.1 second.1 in
    second.2 ∙ ap (λ (s : List Picture). picture Start c.start ∷ (s ++ picture Goal c.goal ∷ [])) steps ∙ sym first.2

-- ---- what is drawn

pub one_drawing : DrawingsAreDetermined
one_drawing width c a b first second = second.2 ∙ ap (λ (p : List Picture). drawing_text width c p) (same_pictures c first.0 second.0 first.1 second.1) ∙ sym first.2

-- the claim's line is between the others
pub claim_said : FilesSayTheClaim
claim_said seconds c bytes (front, back, is) = (codes "<svg " ++ front, back ++ codes "</svg>\n", is)
