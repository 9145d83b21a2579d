-- Workers that are computed: what is known is a list of entries, where the first with a key counts.
use Rattle.std.proofs.Common.{◌≡◌, ◌≢◌, ◌⊎◌, ℕ, ◌+◌, ◌-◌, ◌<◌, ◌≤◌, Bool, true, false, ltb, List, [], ◌∷◌, ◌++◌, refl, sym, ap, ◌∙◌, subst, inl, inr, ⊎_elim, arith, Option, Some, None}
use Rattle.std.specs.Prelude.{⊤, if◌then◌else◌, ◌==◌, nat_lt, fold, slice_get, slice_set, unwrap_or}
use Rattle.std.specs.Ordering.{nat_cmp}
use Rattle.std.specs.FinMap as map
use Rattle.std.proofs.lemmas.Bool.{cases_eq, cases_Bool, cond-true, cond-false, eq-eqb, ne_eqb, eqb-false, ltb-true, ltb-false}
use Rattle.board.specs.Boards.{BoardModel, IsBoard}
use Rattle.search_keys.specs.SearchKeys.{search_key}
use Rattle.outcomes.specs.Outcomes.{Task}
use Rattle.world_model.specs.declared.parts.Item.{Item}
use Rattle.world_model.specs.declared.parts.Known.{Known}
use Rattle.world_model.specs.Expansions.{expansion, successor_items, with_successor}
use Rattle.world_model.specs.Knowledge.{Knowledge, is_news, relaxation}
use Rattle.world_model.specs.Workers.{IsOpen, IsTaskBoard, Packet, Role, WorkerState}
use Rattle.world_model.proofs.ChangeLemmas.{same_search_key, entry, with_insert, get_inserted}

-- the element is one of the list
abbrev pub In : {X : Type 0} → List X → X → Type 0
In [] x = ⊥
In (y ∷ ys) x = (y ≡ x) ⊎ In ys x

-- boards with what was known of them, the latest first
abbrev pub Entries : Type 0
Entries = List (BoardModel × Known)

abbrev pub knowledge_of : Entries → Knowledge
knowledge_of [] = map.empty
knowledge_of (e ∷ es) = map.insert (knowledge_of es) (search_key e.0) e.1

-- what is known at a key
abbrev pub look_up : Entries → ℕ → Option Known
look_up [] key = None
look_up (e ∷ es) key = if key == search_key e.0 then Some e.1 else look_up es key

pub found : (es : Entries) (key : ℕ) → map.get (knowledge_of es) key ≡ look_up es key
found [] key = map.get-empty nat_cmp key
found (e ∷ es) key =
    ⊎_elim
    (λ (same : key ≡ search_key e.0). ap (map.get (knowledge_of (e ∷ es))) same ∙ get_inserted (knowledge_of es) (search_key e.0) e.1 ∙ sym (cond-true _ _ _ (eq-eqb _ _ same)))
    (λ (other : key ≢ search_key e.0). ⊎_elim (λ old. old ∙ found es key ∙ sym (cond-false _ _ _ (ne_eqb _ _ other))) (λ new. absurd (other new.0)) (with_insert (knowledge_of es) (search_key e.0) key e.1))
    (cases_eq key (search_key e.0))

-- a worker whose knowledge is a list
pub record Small : Type 0 where
  pub entries : Entries
  pub held : List Item
  pub unsent : List Packet
  pub purse : ℕ
  pub allowance : ℕ
  pub expansions : ℕ
  pub best : Option ℕ

abbrev pub worker_of : Small → WorkerState
worker_of s = record { known = knowledge_of s.entries; held = s.held; unsent = s.unsent; purse = s.purse; allowance = s.allowance; expansions = s.expansions; best = s.best }

-- what the first of some workers knows
abbrev pub look_first : List Small → ℕ → Option Known
look_first [] key = None
look_first (x ∷ xs) key = look_up x.entries key

pub if_kept : {A B : Type 0} (f : A → B) (b : Bool) (x y : A) → (if b then f x else f y) ≡ f (if b then x else y)
if_kept f true x y = refl
if_kept f false x y = refl

abbrev pub relax : Entries → Item → Entries
relax es item = if is_news (look_up es (search_key item.board)) item.cost then (item.board, entry item) ∷ es else es

pub relax_is : (es : Entries) (item : Item) → relaxation (knowledge_of es) item ≡ knowledge_of (relax es item)
relax_is es item =
    ap (λ (o : Option Known). if is_news o item.cost then knowledge_of ((item.board, entry item) ∷ es) else knowledge_of es) (found es (search_key item.board))
    ∙ if_kept knowledge_of (is_news (look_up es (search_key item.board)) item.cost) ((item.board, entry item) ∷ es) es

abbrev pub put_for : Small → ℕ → Item → List Packet
put_for s to item = slice_set s.unsent to (unwrap_or (slice_get s.unsent to) [] ++ item ∷ [])

abbrev pub small_successor : Role → Small → Item → Small
small_successor role s item = if role.owner item.board == role.me then record s { entries = relax s.entries item } else record s { unsent = put_for s (role.owner item.board) item }

successor_is : (role : Role) (s : Small) (item : Item) → with_successor role (worker_of s) item ≡ worker_of (small_successor role s item)
successor_is role s item =
    ap (λ (k : Knowledge). if role.owner item.board == role.me then record (worker_of s) { known = k } else record (worker_of s) { unsent = put_for s (role.owner item.board) item }) (relax_is s.entries item)
    ∙ if_kept worker_of (role.owner item.board == role.me) (record s { entries = relax s.entries item }) (record s { unsent = put_for s (role.owner item.board) item })

fold_is : (role : Role) (items : List Item) (s : Small) → fold (with_successor role) (worker_of s) items ≡ worker_of (fold (small_successor role) s items)
fold_is role [] s = refl
fold_is role (item ∷ items) s = ap (λ (x : WorkerState). fold (with_successor role) x items) (successor_is role s item) ∙ fold_is role items (small_successor role s item)

abbrev pub small_closed : Small → BoardModel → Known → Small
small_closed s b known = record s { entries = (b, record known { expanded = true }) ∷ s.entries; allowance = s.allowance - 1; expansions = s.expansions + 1 }

abbrev pub small_expansion : Role → Small → BoardModel → Known → Small
small_expansion role s b known = fold (small_successor role) (small_closed s b known) (successor_items role.task.rule b known.cost)

pub expansion_is : (role : Role) (s : Small) (b : BoardModel) (known : Known) → expansion role (worker_of s) b known ≡ worker_of (small_expansion role s b known)
expansion_is role s b known = fold_is role (successor_items role.task.rule b known.cost) (small_closed s b known)

-- each entry with what is known of its board now
abbrev pub with_current : BoardModel → Option Known → Entries → Entries
with_current b None rest = rest
with_current b (Some k) rest = (b, k) ∷ rest

abbrev pub current : Entries → Entries → Entries
current all [] = []
current all (e ∷ es) = with_current e.0 (look_up all (search_key e.0)) (current all es)

-- each entry is of a board of the task
abbrev pub AreBoards : Task → Entries → Type 0
AreBoards task [] = ⊤
AreBoards task (e ∷ es) = IsTaskBoard task e.0 × AreBoards task es

abbrev pub IsCurrent : Task → Entries → BoardModel × Known → Type 0
IsCurrent task all e = IsTaskBoard task e.0 × (look_up all (search_key e.0) ≡ Some e.1)

current_first : (task : Task) (all : Entries) (b : BoardModel) → IsTaskBoard task b → (o : Option Known) → look_up all (search_key b) ≡ o → (rest : Entries) (e : BoardModel × Known) → (In rest e → IsCurrent task all e) → In (with_current b o rest) e → IsCurrent task all e
current_first task all b board None is rest e later has = later has
current_first task all b board (Some k) is rest e later (inl same) = subst (IsCurrent task all) same (board, is)
current_first task all b board (Some k) is rest e later (inr has) = later has

pub current_sound : (task : Task) (all es : Entries) → AreBoards task es → (e : BoardModel × Known) → In (current all es) e → IsCurrent task all e
current_sound task all [] boards e has = absurd has
current_sound task all (first ∷ rest) boards e has = current_first task all first.0 boards.0 (look_up all (search_key first.0)) refl (current all rest) e (current_sound task all rest boards.1 e) has

abbrev HasKeyIn : Entries → ℕ → Type 0
HasKeyIn [] key = ⊥
HasKeyIn (e ∷ es) key = (search_key e.0 ≡ key) ⊎ HasKeyIn es key

has_key : (es : Entries) (key : ℕ) (known : Known) → look_up es key ≡ Some known → HasKeyIn es key
has_key [] key known is = absurd (cc)
has_key (e ∷ es) key known is =
    ⊎_elim (λ (same : key ≡ search_key e.0). inl (sym same)) (λ (other : key ≢ search_key e.0). inr (has_key es key known (sym (cond-false _ _ _ (ne_eqb _ _ other)) ∙ is))) (cases_eq key (search_key e.0))

kept_in : (b : BoardModel) (o : Option Known) (rest : Entries) (e : BoardModel × Known) → In rest e → In (with_current b o rest) e
kept_in b None rest e has = has
kept_in b (Some k) rest e has = inr has

complete_at : (task : Task) (all es : Entries) → AreBoards task es → (b : BoardModel) (known : Known) → IsTaskBoard task b → look_up all (search_key b) ≡ Some known → HasKeyIn es (search_key b) → In (current all es) (b, known)
complete_at task all [] boards b known board is has = absurd has
complete_at task all (e ∷ es) boards b known board is (inl same) =
    let there : e.0 ≡ b = same_search_key task e.0 b boards.0 board same in
    let looked : look_up all (search_key e.0) ≡ Some known = ap (look_up all) same ∙ is in
    subst (λ (o : Option Known). In (with_current e.0 o (current all es)) (b, known)) (sym looked) (inl (λ t. (there t, known)))
complete_at task all (e ∷ es) boards b known board is (inr later) = kept_in e.0 (look_up all (search_key e.0)) (current all es) (b, known) (complete_at task all es boards.1 b known board is later)

pub current_complete : (task : Task) (all : Entries) → AreBoards task all → (b : BoardModel) (known : Known) → IsTaskBoard task b → look_up all (search_key b) ≡ Some known → In (current all all) (b, known)
current_complete task all boards b known board is = complete_at task all all boards b known board is (has_key all (search_key b) known is)

-- those that are open
abbrev pub with_open : Bool → Bool → BoardModel × Known → Entries → Entries
with_open true goal e rest = rest
with_open false true e rest = rest
with_open false false e rest = e ∷ rest

abbrev pub opens : Task → Entries → Entries
opens task [] = []
opens task (e ∷ es) = with_open e.1.expanded (search_key e.0 == search_key task.goal) e (opens task es)

abbrev IsOpenIn : Task → Entries → BoardModel × Known → Type 0
IsOpenIn task es e = In es e × (e.1.expanded ≡ false) × (search_key e.0 ≢ search_key task.goal)

opens_first : (task : Task) (first : BoardModel × Known) (es : Entries) (x y : Bool) → first.1.expanded ≡ x → (search_key first.0 == search_key task.goal) ≡ y → (rest : Entries) (e : BoardModel × Known) → (In rest e → IsOpenIn task es e) → In (with_open x y first rest) e → IsOpenIn task (first ∷ es) e
opens_first task first es true y is is' rest e later has = let h = later has in (inr h.0, h.1, h.2)
opens_first task first es false true is is' rest e later has = let h = later has in (inr h.0, h.1, h.2)
opens_first task first es false false is is' rest e later (inl same) = subst (IsOpenIn task (first ∷ es)) same (inl refl, is, eqb-false _ _ is')
opens_first task first es false false is is' rest e later (inr has) = let h = later has in (inr h.0, h.1, h.2)

opens_sound : (task : Task) (es : Entries) (e : BoardModel × Known) → In (opens task es) e → IsOpenIn task es e
opens_sound task [] e has = absurd has
opens_sound task (first ∷ es) e has = opens_first task first es first.1.expanded (search_key first.0 == search_key task.goal) refl refl (opens task es) e (opens_sound task es e) has

open_kept : (x y : Bool) (first : BoardModel × Known) (rest : Entries) (e : BoardModel × Known) → In rest e → In (with_open x y first rest) e
open_kept true y first rest e has = has
open_kept false true first rest e has = has
open_kept false false first rest e has = inr has

opens_complete : (task : Task) (es : Entries) (e : BoardModel × Known) → In es e → e.1.expanded ≡ false → search_key e.0 ≢ search_key task.goal → In (opens task es) e
opens_complete task [] e has is other = absurd has
opens_complete task (first ∷ es) e (inl same) is other =
    subst (λ (p : Bool × Bool). In (with_open p.0 p.1 first (opens task es)) e)
    (λ t. (sym (ap (λ (x : BoardModel × Known). x.1.expanded) same ∙ is) t, sym (ap (λ (x : BoardModel × Known). search_key x.0 == search_key task.goal) same ∙ ne_eqb _ _ other) t))
    (inl same)
opens_complete task (first ∷ es) e (inr later) is other = open_kept first.1.expanded (search_key first.0 == search_key task.goal) first (opens task es) e (opens_complete task es e later is other)

abbrev pub open_list : Task → Small → Entries
open_list task s = opens task (current s.entries s.entries)

-- the open list is what is open
module _ (task : Task) (goal : IsBoard task.goal) (s : Small) (boards : AreBoards task s.entries) where
  pub open_there : (e : BoardModel × Known) → In (open_list task s) e → IsOpen task (worker_of s) e.0 e.1
  open_there e has =
      let h = opens_sound task (current s.entries s.entries) e has in
      let now = current_sound task s.entries s.entries boards e h.0 in
      record { board = now.0; knows = found s.entries (search_key e.0) ∙ now.1; unexpanded = h.1; no_goal = λ same. h.2 (ap search_key same) }

  pub open_listed : (b : BoardModel) (known : Known) → IsOpen task (worker_of s) b known → In (open_list task s) (b, known)
  open_listed b known at =
      opens_complete task (current s.entries s.entries) (b, known)
      (current_complete task s.entries boards b known at.board (sym (found s.entries (search_key b)) ∙ at.knows))
      at.unexpanded
      (λ same. at.no_goal (same_search_key task b task.goal at.board (goal, refl) same))

-- one of least cost plus sum
abbrev pub cost_of : Task → BoardModel × Known → ℕ
cost_of task e = e.1.cost + task.sum e.0

abbrev pub lower : Task → BoardModel × Known → Option (BoardModel × Known) → Option (BoardModel × Known)
lower task e None = Some e
lower task e (Some f) = if nat_lt (cost_of task f) (cost_of task e) then Some f else Some e

abbrev pub least : Task → Entries → Option (BoardModel × Known)
least task [] = None
least task (e ∷ es) = lower task e (least task es)

abbrev pub IsLeastIn : Task → Entries → Option (BoardModel × Known) → Type 0
IsLeastIn task es None = (e : BoardModel × Known) → ¬ In es e
IsLeastIn task es (Some f) = In es f × ((e : BoardModel × Known) → In es e → cost_of task f ≤ cost_of task e)

least_first : (task : Task) (e : BoardModel × Known) (es : Entries) (o : Option (BoardModel × Known)) → IsLeastIn task es o → IsLeastIn task (e ∷ es) (lower task e o)
least_first task e es None none = (inl refl, λ x has. below x has)
  where
    below : (x : BoardModel × Known) → In (e ∷ es) x → cost_of task e ≤ cost_of task x
    below x (inl same) = let n = ap (cost_of task) same in omega arith
    below x (inr later) = absurd (none x later)
least_first task e es (Some f) is =
    ⊎_elim
    (λ (lt : ltb (cost_of task f) (cost_of task e) ≡ true). subst (IsLeastIn task (e ∷ es)) (sym (cond-true _ _ _ lt)) (inr is.0, λ x has. from_f x has (ltb-true _ _ lt)))
    (λ (ge : ltb (cost_of task f) (cost_of task e) ≡ false). subst (IsLeastIn task (e ∷ es)) (sym (cond-false _ _ _ ge)) (inl refl, λ x has. from_e x has (ltb-false _ _ ge)))
    (cases_Bool (ltb (cost_of task f) (cost_of task e)))
  where
    from_f : (x : BoardModel × Known) → In (e ∷ es) x → cost_of task f < cost_of task e → cost_of task f ≤ cost_of task x
    from_f x (inl same) lt = let n = ap (cost_of task) same in omega arith
    from_f x (inr later) lt = is.1 x later

    from_e : (x : BoardModel × Known) → In (e ∷ es) x → cost_of task e ≤ cost_of task f → cost_of task e ≤ cost_of task x
    from_e x (inl same) le = let n = ap (cost_of task) same in omega arith
    from_e x (inr later) le = let h = is.1 x later in omega arith

pub least_is : (task : Task) (es : Entries) → IsLeastIn task es (least task es)
least_is task [] = λ e has. has
least_is task (e ∷ es) = least_first task e es (least task es) (least_is task es)
