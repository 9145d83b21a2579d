-- Plans: joined, cut, followed.
use Rattle.std.proofs.Common.{◌≡◌, ℕ, zero, suc, ◌+◌, ◌*◌, ◌<◌, ◌≤◌, List, [], ◌∷◌, ◌++◌, length, take, drop, get_or, Some, Result, Ok, Err, refl, sym, ap, ◌∙◌, subst, arith}
use Rattle.std.specs.Prelude.{slice_get, ◌↔◌}
use Rattle.std.specs.Result.{result_unwrap_or}
use Rattle.std.proofs.lemmas.List.{take_more, take_all}
use Rattle.std.proofs.lemmas.Option.{slice_get_within, slice_get-get_or, get_or_from_slice_get}
use Rattle.board.specs.declared.moves.Move.{Move}
use Rattle.board.specs.declared.moves.Move.TheVariants.{U}
use Rattle.board.specs.Boards.{BoardModel, IsBoard}
use Rattle.board.specs.Weights.{WeightsModel}
use Rattle.board.specs.Moves.{Moves}
use Rattle.board.specs.Plans.{Leads, IsStuckAt}
use Rattle.board.proofs.MoveLemmas.{moved_board, one_move}

-- the end of a plan, and its cost, by other names
renamed : (rule : WeightsModel) (b : BoardModel) (plan : List Move) (q q' : BoardModel) (j k : ℕ) → Leads rule b plan q j → q ≡ q' → j ≡ k → Leads rule b plan q' k
renamed rule b plan q q' j k leads e f = subst (λ (x : BoardModel). Leads rule b plan x k) e (subst (λ (n : ℕ). Leads rule b plan q n) f leads)

-- plans that follow one another make one plan
pub joined : (rule : WeightsModel) (b : BoardModel) (plan : List Move) (middle : BoardModel) (j : ℕ) (plan' : List Move) (q : BoardModel) (k : ℕ) → Leads rule b plan middle j → Leads rule middle plan' q k → Leads rule b (plan ++ plan') q (j + k)
joined rule b [] middle j plan' q k first second =
    let same : k ≡ j + k = omega (arith, first.1) in
    subst (λ (x : BoardModel). Leads rule x plan' q (j + k)) first.0 (renamed rule middle plan' q q k (j + k) second refl same)
joined rule b (m ∷ plan) middle j plan' q k first second =
    (first.0, first.1, first.2 + k, first.3, joined rule first.0 plan middle first.2 plan' q k first.4 second, omega (arith, first.5))

-- a plan can be cut at any place
pub cut : (rule : WeightsModel) (b : BoardModel) (plan : List Move) (q : BoardModel) (k place : ℕ) → Leads rule b plan q k → (middle : BoardModel) × (i j : ℕ) × Leads rule b (take place plan) middle i × Leads rule middle (drop place plan) q j × (k ≡ i + j)
cut rule b [] q k zero leads = (b, 0, k, (refl, refl), leads, omega arith)
cut rule b [] q k (suc place) leads = (b, 0, k, (refl, refl), leads, omega arith)
cut rule b (m ∷ plan) q k zero leads = (b, 0, k, (refl, refl), leads, omega arith)
cut rule b (m ∷ plan) q k (suc place) leads =
    let rest = cut rule leads.0 plan q leads.2 place leads.4 in
    (rest.0, leads.1 + rest.1, rest.2, (leads.0, leads.1, rest.1, leads.3, rest.3, refl), rest.4, omega (arith, leads.5, rest.5))

-- a plan leads from a board to a board
pub led_board : (rule : WeightsModel) (b : BoardModel) (plan : List Move) (q : BoardModel) (k : ℕ) → IsBoard b → Leads rule b plan q k → IsBoard q
led_board rule b [] q k board leads = subst IsBoard (sym leads.0) board
led_board rule b (m ∷ plan) q k board leads = led_board rule leads.0 plan q leads.2 (moved_board rule b board m leads.0 leads.1 leads.3) leads.4

-- a plan leads to one board, at one cost
pub one_end : (rule : WeightsModel) (b : BoardModel) (plan : List Move) (q q' : BoardModel) (j k : ℕ) → Leads rule b plan q j → Leads rule b plan q' k → (q' ≡ q) × (k ≡ j)
one_end rule b [] q q' j k first second = (second.0 ∙ sym first.0, second.1 ∙ sym first.1)
one_end rule b (m ∷ plan) q q' j k first second =
    let one = one_move rule b m first.0 second.0 first.1 second.1 first.3 second.3 in
    let rest = one_end rule first.0 plan q q' first.2 second.2 first.4 (subst (λ (x : BoardModel). Leads rule x plan q' second.2) one.0 second.4) in
    (rest.0, omega (arith, first.5, second.5, one.1, rest.1))

-- one more move at the end
pub one_more : (rule : WeightsModel) (b : BoardModel) (plan : List Move) (here : BoardModel) (k : ℕ) (m : Move) (next : BoardModel) (c : ℕ) → Leads rule b plan here k → Moves rule here m next c → Leads rule b (plan ++ m ∷ []) next (k + c)
one_more rule b plan here k m next c leads moves = joined rule b plan here k (m ∷ []) next c leads (next, c, 0, moves, (refl, refl), omega arith)

-- a plan that leads somewhere is stuck nowhere
pub never_stuck : (rule : WeightsModel) (b : BoardModel) (plan : List Move) (q : BoardModel) (k place : ℕ) → Leads rule b plan q k → IsStuckAt rule b plan place → ⊥
never_stuck rule b [] q k place leads (here, i, m, begins, at, stuck) = cc
never_stuck rule b (n ∷ plan) q k zero leads (here, i, m, begins, at, stuck) =
    let same : n ≡ m = cc in
    stuck leads.0 leads.1 (subst (λ (x : BoardModel). Moves rule x m leads.0 leads.1) (sym begins.0) (subst (λ (d : Move). Moves rule b d leads.0 leads.1) same leads.3))
never_stuck rule b (n ∷ plan) q k (suc place) leads (here, i, m, begins, at, stuck) =
    let one = one_move rule b n leads.0 begins.0 leads.1 begins.1 leads.3 begins.3 in
    never_stuck rule leads.0 plan q leads.2 place leads.4 (here, begins.2, m, subst (λ (x : BoardModel). Leads rule x (take place plan) here begins.2) one.0 begins.4, at, stuck)

-- a plan is stuck at one place
pub stuck_once : (rule : WeightsModel) (b : BoardModel) (plan : List Move) (place place' : ℕ) → IsStuckAt rule b plan place → IsStuckAt rule b plan place' → place' ≡ place
stuck_once rule b [] place place' (here, i, m, begins, at, stuck) second = cc
stuck_once rule b (n ∷ plan) zero zero first second = refl
stuck_once rule b (n ∷ plan) zero (suc place') (here, i, m, begins, at, stuck) (here', i', m', begins', at', stuck') =
    let same : n ≡ m = cc in
    absurd (stuck begins'.0 begins'.1 (subst (λ (x : BoardModel). Moves rule x m begins'.0 begins'.1) (sym begins.0) (subst (λ (d : Move). Moves rule b d begins'.0 begins'.1) same begins'.3)))
stuck_once rule b (n ∷ plan) (suc place) zero (here, i, m, begins, at, stuck) (here', i', m', begins', at', stuck') =
    let same : n ≡ m' = cc in
    absurd (stuck' begins.0 begins.1 (subst (λ (x : BoardModel). Moves rule x m' begins.0 begins.1) (sym begins'.0) (subst (λ (d : Move). Moves rule b d begins.0 begins.1) same begins.3)))
stuck_once rule b (n ∷ plan) (suc place) (suc place') (here, i, m, begins, at, stuck) (here', i', m', begins', at', stuck') =
    let one = one_move rule b n begins.0 begins'.0 begins.1 begins'.1 begins.3 begins'.3 in
    let rest = stuck_once rule begins.0 plan place place' (here, begins.2, m, begins.4, at, stuck) (here', begins'.2, m', subst (λ (x : BoardModel). Leads rule x (take place' plan) here' begins'.2) one.0 begins'.4, at', stuck') in
    ap suc rest

-- the moves before a place of the plan lead from the start to this board at this cost
pub record IsFollowed (rule : WeightsModel) (start : BoardModel) (plan : List Move) (place : ℕ) (b : BoardModel) (cost : ℕ) : Type 0 where
  pub leads : Leads rule start (take place plan) b cost
  pub grid : b.grid ≡ start.grid
  pub cheap : cost ≤ 255 * place

-- one move further
pub IsFollowed-more : (rule : WeightsModel) (start : BoardModel) (plan : List Move) (place : ℕ) (b : BoardModel) (cost : ℕ) (m : Move) (next : BoardModel) (c : ℕ) → IsFollowed rule start plan place b cost → slice_get plan place ≡ Some m → Moves rule b m next c → c ≤ 255 → IsFollowed rule start plan (place + 1) next (cost + c)
IsFollowed-more rule start plan place b cost m next c before at moves paid =
    let within : place < length plan = slice_get_within plan place m at in
    let is : get_or plan place m ≡ m = get_or_from_slice_get plan place m m at in
    let more : take (place + 1) plan ≡ take place plan ++ m ∷ [] = take_more plan place m within ∙ ap (λ (d : Move). take place plan ++ d ∷ []) is in
    record {
      leads = subst (λ (ms : List Move). Leads rule start ms next (cost + c)) (sym more) (one_more rule start (take place plan) b cost m next c before.leads moves);
      grid = ap (λ (p : BoardModel). p.grid) moves.after ∙ before.grid;
      cheap = omega (arith, before.cheap);
    }

-- what is answered at the end of the plan
pub followed_to_end : (rule : WeightsModel) (start : BoardModel) (plan : List Move) (q : BoardModel) (cost : ℕ) → Leads rule start plan q cost → (answer : Result (BoardModel × ℕ) ℕ) → answer ≡ Ok (q, cost) → ((b : BoardModel) (k : ℕ) → (answer ≡ Ok (b, k)) ↔ Leads rule start plan b k) × ((place : ℕ) → (answer ≡ Err place) ↔ IsStuckAt rule start plan place)
followed_to_end rule start plan q cost leads answer is = (
  (λ b k. (
    (λ e. let one : q ≡ b = ap (λ (r : Result (BoardModel × ℕ) ℕ). (result_unwrap_or r (q, cost)).0) (sym is ∙ e) in
        let two : cost ≡ k = ap (λ (r : Result (BoardModel × ℕ) ℕ). (result_unwrap_or r (q, cost)).1) (sym is ∙ e) in
        renamed rule start plan q b cost k leads one two),
    (λ other. let one = one_end rule start plan q b cost k leads other in is ∙ (λ i. Ok (sym one.0 i, sym one.1 i))),
  )),
  (λ place. ((λ e. absurd (cc)), (λ stuck. absurd (never_stuck rule start plan q cost place leads stuck)))),
)

-- what is answered where the blank would leave the board
pub followed_to_edge : (rule : WeightsModel) (start : BoardModel) (plan : List Move) (at : ℕ) → IsStuckAt rule start plan at → (answer : Result (BoardModel × ℕ) ℕ) → answer ≡ Err at → ((b : BoardModel) (k : ℕ) → (answer ≡ Ok (b, k)) ↔ Leads rule start plan b k) × ((place : ℕ) → (answer ≡ Err place) ↔ IsStuckAt rule start plan place)
followed_to_edge rule start plan at stuck answer is = (
  (λ b k. ((λ e. absurd (cc)), (λ leads. absurd (never_stuck rule start plan b k at leads stuck)))),
  (λ place. (
    (λ e. let same : at ≡ place = cc in subst (λ (x : ℕ). IsStuckAt rule start plan x) same stuck),
    (λ other. is ∙ ap Err (sym (stuck_once rule start plan at place stuck other))),
  )),
)

-- the whole plan is followed
pub led_here : (rule : WeightsModel) (start : BoardModel) (plan : List Move) (place : ℕ) (b : BoardModel) (cost : ℕ) → IsFollowed rule start plan place b cost → length plan ≤ place → Leads rule start plan b cost
led_here rule start plan place b cost followed end = subst (λ (ms : List Move). Leads rule start ms b cost) (take_all place plan end) followed.leads

-- no move is possible at this place
pub stuck_here : (rule : WeightsModel) (start : BoardModel) (plan : List Move) (place : ℕ) (b : BoardModel) (cost : ℕ) (m : Move) → IsFollowed rule start plan place b cost → slice_get plan place ≡ Some m → ((next : BoardModel) (c : ℕ) → ¬ Moves rule b m next c) → IsStuckAt rule start plan place
stuck_here rule start plan place b cost m followed at none = (b, cost, m, followed.leads, at, none)

-- a plan without its last move leads somewhere, and that move leads on from there
last_move : (rule : WeightsModel) (b : BoardModel) (plan : List Move) (m : Move) (q : BoardModel) (k : ℕ) → Leads rule b (plan ++ m ∷ []) q k → (here : BoardModel) × (i c : ℕ) × Leads rule b plan here i × Moves rule here m q c
last_move rule b [] m q k leads = (b, 0, leads.1, (refl, refl), subst (λ (x : BoardModel). Moves rule b m x leads.1) (sym leads.4.0) leads.3)
last_move rule b (n ∷ plan) m q k leads =
    let rest = last_move rule leads.0 plan m q leads.2 leads.4 in
    (rest.0, leads.1 + rest.1, rest.2, (leads.0, leads.1, rest.1, leads.3, rest.3, refl), rest.4)

-- a plan is stuck at a place exactly where the moves before it lead somewhere, and with the move there they lead nowhere
pub stuck_there : (rule : WeightsModel) (b : BoardModel) (plan : List Move) (place : ℕ) → IsStuckAt rule b plan place ↔ ((place < length plan) × ((here : BoardModel) × (k : ℕ) × Leads rule b (take place plan) here k) × ((q : BoardModel) (j : ℕ) → ¬ Leads rule b (take (place + 1) plan) q j))
stuck_there rule b plan place = (
  (λ stuck_at.
      let (here, k, m, begins, at, stuck) = stuck_at in
      let within : place < length plan = slice_get_within plan place m at in
      let more : take (place + 1) plan ≡ take place plan ++ m ∷ [] = take_more plan place m within ∙ ap (λ (d : Move). take place plan ++ d ∷ []) (get_or_from_slice_get plan place m m at) in (
        within,
        (here, k, begins),
        (λ q j leads.
            let last = last_move rule b (take place plan) m q j (subst (λ (ms : List Move). Leads rule b ms q j) more leads) in
            let one = one_end rule b (take place plan) here last.0 k last.1 begins last.3 in
            stuck q last.2 (subst (λ (x : BoardModel). Moves rule x m q last.2) one.0 last.4)),
      )),
  (λ ends.
      let (within, before, nowhere) = ends in
      let more : take (place + 1) plan ≡ take place plan ++ get_or plan place U ∷ [] = take_more plan place U within in (
        before.0,
        before.1,
        get_or plan place U,
        before.2,
        slice_get-get_or plan place U within,
        (λ next c moves. nowhere next (before.1 + c) (subst (λ (ms : List Move). Leads rule b ms next (before.1 + c)) (sym more) (one_more rule b (take place plan) before.0 before.1 (get_or plan place U) next c before.2 moves))),
      )),
)
