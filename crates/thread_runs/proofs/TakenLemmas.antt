-- Parts that are taken apart, and the rows of what is taken of them.
use Rattle.std.proofs.Common.{◌≡◌, ◌≢◌, ℕ, ◌+◌, ◌<◌, List, [], inl, inr, Vec, map, set, get_or, length, slice_index_or, ap, ◌∙◌, refl, arith, zero, suc, ◌∷◌, ◌++◌, Some, subst, sym, append-nil}
use Rattle.std.proofs.Math.Seq.{map-set_same}
use Rattle.std.proofs.lemmas.Bool.Decides.{eqb_tells}
use Rattle.std.specs.declared.alloc.Global.{Global}
use Rattle.std.specs.Prelude.{option_map, slice_get}
use Rattle.std.proofs.lemmas.Option.{slice_get-map}
use Rattle.std.proofs.lemmas.List.{map-append, length-map, length-append, append_assoc}
use Rattle.std.proofs.lemmas.List.Elements.{All-push}
use Rattle.board.specs.Boards.{BoardModel}
use Rattle.world_model.specs.Workers.{Lane, WorkerState, Role}
use Rattle.world_model.specs.ThreadParts.{PartState, IsRole, Keeps}
use Rattle.world_model.specs.JoinedParts.{workers_of, role_in}
use Rattle.worker_core.specs.declared.worker.Worker.{Worker}
use Rattle.worker_core.specs.Roles.{IsGuided, guide_of}
use Rattle.worker_core.specs.Workers.{state_of}
use Rattle.world_ends.specs.Parts.{AreWorkersGuided, states_of}
use Rattle.thread_parts.specs.Rings.{SenderModel, ReceiverModel, out_rings, in_rings, sent_lanes, received_lanes, rings_of_outs, rings_of_ins, sent_rows, received_rows, lane_at, Ring, ArePaired}
use Rattle.thread_parts.proofs.EndLemmas.{map_at_set, map_at_other}
use Rattle.hda_run.specs.Jobs.{JobModel, task_in}
use Rattle.thread_parts.specs.declared.part.Part.{Part}
use Rattle.thread_parts.specs.Parts.{SealedModel, IsSoundPart, face_of, part_state, role_of_part}
use Rattle.thread_runs.specs.Lanes.{IsTied}
use Rattle.thread_runs.specs.Worlds.{parts_with, AreTakenApart, shared_of_job}
use Rattle.thread_runs.specs.declared.apart.Joined.{Joined}
use Rattle.thread_runs.specs.Threads.{IsJoint}

-- ---- rows of ends where one has changed

-- a row of the same rings, by which the same was sent or received, in the place of another
pub out_rings-set : (xs : List (Vec SenderModel Global)) (i : ℕ) (q x : Vec SenderModel Global) → x ≡ get_or xs i x → q.items ≡ x.items → rings_of_outs (set xs i q) ≡ rings_of_outs xs
out_rings-set xs i q x at same = map-set_same (λ (v : Vec SenderModel Global). out_rings v.items) xs i q x (ap out_rings same ∙ ap (λ (v : Vec SenderModel Global). out_rings v.items) at)

pub sent-set : (xs : List (Vec SenderModel Global)) (i : ℕ) (q x : Vec SenderModel Global) → x ≡ get_or xs i x → q.items ≡ x.items → sent_rows (set xs i q) ≡ sent_rows xs
sent-set xs i q x at same = map-set_same (λ (v : Vec SenderModel Global). sent_lanes v.items) xs i q x (ap sent_lanes same ∙ ap (λ (v : Vec SenderModel Global). sent_lanes v.items) at)

pub in_rings-set : (xs : List (Vec ReceiverModel Global)) (i : ℕ) (q x : Vec ReceiverModel Global) → x ≡ get_or xs i x → in_rings q.items ≡ in_rings x.items → rings_of_ins (set xs i q) ≡ rings_of_ins xs
in_rings-set xs i q x at same = map-set_same (λ (v : Vec ReceiverModel Global). in_rings v.items) xs i q x (same ∙ ap (λ (v : Vec ReceiverModel Global). in_rings v.items) at)

pub received-set : (xs : List (Vec ReceiverModel Global)) (i : ℕ) (q x : Vec ReceiverModel Global) → x ≡ get_or xs i x → received_lanes q.items ≡ received_lanes x.items → received_rows (set xs i q) ≡ received_rows xs
received-set xs i q x at same = map-set_same (λ (v : Vec ReceiverModel Global). received_lanes v.items) xs i q x (same ∙ ap (λ (v : Vec ReceiverModel Global). received_lanes v.items) at)

pub ruleset rows = (out_rings-set, sent-set, in_rings-set, received-set)

-- In row j of those from which two lists of lanes are made, the i-th lane has changed: f has what was received, g what is left.
module _ {V : Type 0} (f g : V → List Lane) (xs : List V) (j i : ℕ) (q x : V) (inside : j < length xs) where
  pub tied_row : (sent : List Lane) → IsTied (slice_index_or sent j []) (slice_index_or (f q) i []) (slice_index_or (g q) i [])
      → ((k : ℕ) → k < j → IsTied (slice_index_or sent k []) (lane_at (map f xs) k i) (lane_at (map g xs) k i))
      → (k : ℕ) → k < j + 1 → IsTied (slice_index_or sent k []) (lane_at (map f (set xs j q)) k i) (lane_at (map g (set xs j q)) k i)
  tied_row sent new below k low = elim (eqb_tells k j) [
    | inl p ↦ rw (p.1, map_at_set f xs j q [] inside, map_at_set g xs j q [] inside) new
    | inr p ↦ rw (map_at_other f xs j k q [] p.1, map_at_other g xs j k q [] p.1) (below k (omega (arith, p.1)))
  ]

  pub quiet_row : slice_index_or (g q) i [] ≡ []
      → ((k : ℕ) → k < j → lane_at (map g xs) k i ≡ [])
      → (k : ℕ) → k < j + 1 → lane_at (map g (set xs j q)) k i ≡ []
  quiet_row new below k low = elim (eqb_tells k j) [
    | inl p ↦ rw (p.1, map_at_set g xs j q [] inside) new
    | inr p ↦ rw (map_at_other g xs j k q [] p.1) (below k (omega (arith, p.1)))
  ]

  pub others_row : slice_index_or (map g xs) j [] ≡ g x → ((m : ℕ) → m ≢ i → slice_index_or (g q) m [] ≡ slice_index_or (g x) m [])
      → (k m : ℕ) → m ≢ i → lane_at (map g (set xs j q)) k m ≡ lane_at (map g xs) k m
  others_row here same k m other = elim (eqb_tells k j) [
    | inl p ↦ rw (p.1, map_at_set g xs j q [] inside, here) (same m other)
    | inr p ↦ rw (map_at_other g xs j k q [] p.1) refl
  ]

-- one more row was tied, and the others' are as before
module _ (n i : ℕ) (sent received left left' : List (List Lane)) (row : List Lane) (at : slice_index_or sent i [] ≡ row) (others : (j k : ℕ) → k ≢ i → lane_at left' j k ≡ lane_at left j k) where
  pub tied_more : ((j : ℕ) → j < n → IsTied (slice_index_or row j []) (lane_at received j i) (lane_at left' j i))
      → ((a b : ℕ) → a < i → b < n → IsTied (lane_at sent a b) (lane_at received b a) (lane_at left b a))
      → (a b : ℕ) → a < i + 1 → b < n → IsTied (lane_at sent a b) (lane_at received b a) (lane_at left' b a)
  tied_more new below a b low inside = elim (eqb_tells a i) [
    | inl p ↦ rw (p.1, at) (new b inside)
    | inr p ↦ rw (others b a p.1) (below a b (omega (arith, p.1)) inside)
  ]

  pub quiet_more : ((j : ℕ) → j < n → lane_at left' j i ≡ [])
      → ((a b : ℕ) → a < i → b < n → lane_at left b a ≡ [])
      → (a b : ℕ) → a < i + 1 → b < n → lane_at left' b a ≡ []
  quiet_more new below a b low inside = elim (eqb_tells a i) [
    | inl p ↦ rw p.1 (new b inside)
    | inr p ↦ rw (others b a p.1) (below a b (omega (arith, p.1)) inside)
  ]

-- ---- workers, with what each sent and received: the parts that were taken apart

abbrev pub part : WorkerState → List Lane → List Lane → PartState
part worker sent received = record { worker = worker; sent = sent; received = received }

pub some_is : {X : Type 0} (a b : X) → Some a ≡ Some b → a ≡ b
some_is a b h = cc

-- what a part is made of
pub part_at : (ws : List WorkerState) (ss rs : List (List Lane)) (i : ℕ) (it : PartState) → slice_get (parts_with ws ss rs) i ≡ Some it → (slice_get ws i ≡ Some it.worker) × (slice_get ss i ≡ Some it.sent) × (slice_get rs i ≡ Some it.received)
part_at [] ss rs i it at = absurd (cc at)
part_at (w ∷ ws) [] rs i it at = absurd (cc at)
part_at (w ∷ ws) (s ∷ ss) [] i it at = absurd (cc at)
part_at (w ∷ ws) (s ∷ ss) (r ∷ rs) zero it at =
    let e = some_is (part w s r) it at in
    (ap (λ (x : PartState). Some x.worker) e, ap (λ (x : PartState). Some x.sent) e, ap (λ (x : PartState). Some x.received) e)
part_at (w ∷ ws) (s ∷ ss) (r ∷ rs) (suc i) it at = part_at ws ss rs i it at

pub part_count : (ws : List WorkerState) (ss rs : List (List Lane)) → length ss ≡ length ws → length rs ≡ length ws → length (parts_with ws ss rs) ≡ length ws
part_count [] ss rs a b = refl
part_count (w ∷ ws) [] rs a b = absurd (omega (arith, a))
part_count (w ∷ ws) (s ∷ ss) [] a b = absurd (omega (arith, b))
part_count (w ∷ ws) (s ∷ ss) (r ∷ rs) a b = let e = part_count ws ss rs (omega (arith, a)) (omega (arith, b)) in omega (arith, e)

pub part_workers : (ws : List WorkerState) (ss rs : List (List Lane)) → length ss ≡ length ws → length rs ≡ length ws → workers_of (parts_with ws ss rs) ≡ ws
part_workers [] ss rs a b = refl
part_workers (w ∷ ws) [] rs a b = absurd (omega (arith, a))
part_workers (w ∷ ws) (s ∷ ss) [] a b = absurd (omega (arith, b))
part_workers (w ∷ ws) (s ∷ ss) (r ∷ rs) a b = ap (λ (l : List WorkerState). w ∷ l) (part_workers ws ss rs (omega (arith, a)) (omega (arith, b)))

-- one part more
pub part_more : (ws : List WorkerState) (ss rs : List (List Lane)) (w : WorkerState) (s r : List Lane) → length ss ≡ length ws → length rs ≡ length ws → parts_with (ws ++ w ∷ []) (ss ++ s ∷ []) (rs ++ r ∷ []) ≡ parts_with ws ss rs ++ part w s r ∷ []
part_more [] [] [] w s r a b = refl
part_more [] (y ∷ ss) rs w s r a b = absurd (omega (arith, a))
part_more [] [] (z ∷ rs) w s r a b = absurd (omega (arith, b))
part_more (x ∷ ws) [] rs w s r a b = absurd (omega (arith, a))
part_more (x ∷ ws) (y ∷ ss) [] w s r a b = absurd (omega (arith, b))
part_more (x ∷ ws) (y ∷ ss) (z ∷ rs) w s r a b = ap (λ (l : List PartState). part x y z ∷ l) (part_more ws ss rs w s r (omega (arith, a)) (omega (arith, b)))

-- what holds of each element and of one more at the end
pub each_more : {X : Type 0} (P : ℕ → X → Type 0) (xs : List X) (y : X) → ((i : ℕ) (x : X) → slice_get xs i ≡ Some x → P i x) → P (length xs) y → (i : ℕ) (x : X) → slice_get (xs ++ y ∷ []) i ≡ Some x → P i x
each_more P [] y old new zero x at = subst (P 0) (some_is y x at) new
each_more P [] y old new (suc i) x at = absurd (cc at)
each_more P (z ∷ xs) y old new zero x at = old 0 x at
each_more P (z ∷ xs) y old new (suc i) x at = each_more (λ (k : ℕ). P (suc k)) xs y (λ k v h. old (suc k) v h) new i x at

pub nothing : {X : Type 0} (xs : List X) → length xs ≡ 0 → xs ≡ []
nothing [] h = refl
nothing (x ∷ xs) h = absurd (omega arith)

-- what comes next after those that came
pub next_at : {X : Type 0} (done : List X) (x : X) (rest : List X) → slice_get (done ++ x ∷ rest) (length done) ≡ Some x
next_at [] x rest = refl
next_at (y ∷ done) x rest = next_at done x rest

-- what a mapped list has at a place is made of what the list has there
pub map_at : {X Y : Type 0} (f : X → Y) (xs : List X) (i : ℕ) (x : X) → slice_get xs i ≡ Some x → slice_get (map f xs) i ≡ Some (f x)
map_at f xs i x at = slice_get-map f xs i ∙ ap (option_map f) at

pub mapped_at : {X Y : Type 0} (f : X → Y) (xs : List X) (i : ℕ) (y : Y) → slice_get (map f xs) i ≡ Some y → (x : X) × (slice_get xs i ≡ Some x) × (f x ≡ y)
mapped_at f [] i y at = absurd (cc at)
mapped_at f (x ∷ xs) zero y at = (x, refl, some_is (f x) y at)
mapped_at f (x ∷ xs) (suc i) y at = mapped_at f xs i y at

-- ---- parts that are taken apart one after the other

-- each of these parts keeps what a part keeps in its role
abbrev pub AllHold : {S : Type 0} → (S → ℕ → BoardModel → ℕ) → JobModel → S → ℕ → List PartState → Type 0
AllHold owner_of p owners n parts =
    (i : ℕ) (it : PartState) → slice_get parts i ≡ Some it → IsRole n (role_in (shared_of_job owner_of p owners n) i) × Keeps n (role_in (shared_of_job owner_of p owners n) i) it

module _ {S C D E K G : Type 0} where
  -- The parts with the first of these faces were taken apart, and the others come next.
  pub record AreTaken (owner_of : S → ℕ → BoardModel → ℕ) (n : ℕ) (faces next : List (SealedModel S)) (workers : List (Worker C D E K G)) (outs : List (Vec SenderModel Global)) (ins : List (Vec ReceiverModel Global)) : Type 0 where
    pub done : List (SealedModel S)
    pub all : done ++ next ≡ faces
    pub count : length workers ≡ length done
    pub out_rings : rings_of_outs outs ≡ map (λ (face : SealedModel S). face.outs) done
    pub in_rings : rings_of_ins ins ≡ map (λ (face : SealedModel S). face.ins) done
    pub hold : (p : JobModel) (owners : S) → IsJoint p owners n faces → AllHold owner_of p owners n (parts_with (states_of workers) (sent_rows outs) (received_rows ins))
    pub guided : (p : JobModel) (owners : S) → IsJoint p owners n faces → AreWorkersGuided (task_in p) (guide_of (task_in p)) workers

  pub none_taken : (owner_of : S → ℕ → BoardModel → ℕ) (n : ℕ) (faces : List (SealedModel S)) → AreTaken owner_of n faces faces [] [] []
  none_taken owner_of n faces = record {
    done = [];
    all = refl;
    count = refl;
    out_rings = refl;
    in_rings = refl;
    hold = λ p owners joint i it at. absurd (cc at);
    guided = λ p owners joint d k low. absurd (omega (arith, low));
  }

  -- the same, of equal lists
  pub taken_same : (owner_of : S → ℕ → BoardModel → ℕ) (n : ℕ) (faces next next' : List (SealedModel S)) (workers workers' : List (Worker C D E K G)) (outs outs' : List (Vec SenderModel Global)) (ins ins' : List (Vec ReceiverModel Global))
      → next ≡ next' → workers ≡ workers' → outs ≡ outs' → ins ≡ ins' → AreTaken owner_of n faces next workers outs ins → AreTaken owner_of n faces next' workers' outs' ins'
  taken_same owner_of n faces next next' workers workers' outs outs' ins ins' a b c d taken =
      subst (λ (x : List (SealedModel S) × List (Worker C D E K G) × List (Vec SenderModel Global) × List (Vec ReceiverModel Global)). AreTaken owner_of n faces x.0 x.1 x.2 x.3) (λ t. (a t, b t, c t, d t)) taken

  module _ (owner_of : S → ℕ → BoardModel → ℕ) (n : ℕ) (faces next : List (SealedModel S)) (workers : List (Worker C D E K G)) (outs : List (Vec SenderModel Global)) (ins : List (Vec ReceiverModel Global))
      (one : SealedModel S) (taken : AreTaken owner_of n faces (one ∷ next) workers outs ins) (it : Part S C D E K G) (holds : IsSoundPart owner_of n it) (is : face_of it ≡ one) where
    outs_count : length outs ≡ length taken.done
    outs_count = let e = ap (λ (rs : List (List Ring)). length rs) taken.out_rings in omega (arith, e, length-map outs (λ (v : Vec SenderModel Global). out_rings v.items), length-map taken.done (λ (face : SealedModel S). face.outs))

    ins_count : length ins ≡ length taken.done
    ins_count = let e = ap (λ (rs : List (List Ring)). length rs) taken.in_rings in omega (arith, e, length-map ins (λ (v : Vec ReceiverModel Global). in_rings v.items), length-map taken.done (λ (face : SealedModel S). face.ins))

    abbrev states : List WorkerState
    states = states_of workers

    state_count : length states ≡ length taken.done
    state_count = length-map workers (λ (w : Worker C D E K G). state_of w) ∙ taken.count

    sent_count : length (sent_rows outs) ≡ length states
    sent_count = let a = outs_count in let b = state_count in omega (arith, a, b, length-map outs (λ (v : Vec SenderModel Global). sent_lanes v.items))

    received_count : length (received_rows ins) ≡ length states
    received_count = let a = ins_count in let b = state_count in omega (arith, a, b, length-map ins (λ (v : Vec ReceiverModel Global). received_lanes v.items))

    abbrev before : List PartState
    before = parts_with states (sent_rows outs) (received_rows ins)

    before_count : length before ≡ length taken.done
    before_count = part_count states (sent_rows outs) (received_rows ins) sent_count received_count ∙ state_count

    -- its place among the faces
    face_at : slice_get faces (length taken.done) ≡ Some one
    face_at = ap (λ (fs : List (SealedModel S)). slice_get fs (length taken.done)) (sym taken.all) ∙ next_at taken.done one next

    after : parts_with (states_of (workers ++ it.worker ∷ [])) (sent_rows (outs ++ it.outs ∷ [])) (received_rows (ins ++ it.ins ∷ [])) ≡ before ++ part_state it ∷ []
    after =
        (λ t. parts_with (map-append (λ (w : Worker C D E K G). state_of w) workers (it.worker ∷ []) t) (map-append (λ (v : Vec SenderModel Global). sent_lanes v.items) outs (it.outs ∷ []) t) (map-append (λ (v : Vec ReceiverModel Global). received_lanes v.items) ins (it.ins ∷ []) t))
        ∙ part_more states (sent_rows outs) (received_rows ins) (state_of it.worker) (sent_lanes it.outs.items) (received_lanes it.ins.items) sent_count received_count

    module _ (p : JobModel) (owners : S) (joint : IsJoint p owners n faces) where
      job_is : it.job.now ≡ p
      job_is = ap (λ (face : SealedModel S). face.job) is ∙ joint.jobs (length taken.done) one face_at

      owners_are : it.owners.now ≡ owners
      owners_are = ap (λ (face : SealedModel S). face.owners) is ∙ joint.spreads (length taken.done) one face_at

      me_is : it.me ≡ length before
      me_is = ap (λ (face : SealedModel S). face.me) is ∙ (joint.places (length taken.done) one face_at ∙ sym before_count)

      role_is : role_of_part owner_of n it ≡ role_in (shared_of_job owner_of p owners n) (length before)
      role_is = λ t. record { task = task_in (job_is t); owner = λ b. owner_of (owners_are t) n b; me = me_is t }

      hold_more : AllHold owner_of p owners n (before ++ part_state it ∷ [])
      hold_more =
          each_more (λ (i : ℕ) (x : PartState). IsRole n (role_in (shared_of_job owner_of p owners n) i) × Keeps n (role_in (shared_of_job owner_of p owners n) i) x) before (part_state it) (taken.hold p owners joint)
          (subst (λ (r : Role). IsRole n r) role_is holds.role, subst (λ (r : Role). Keeps n r (part_state it)) role_is holds.keeps)

      guided_more : AreWorkersGuided (task_in p) (guide_of (task_in p)) (workers ++ it.worker ∷ [])
      guided_more =
          All-push (λ (w : Worker C D E K G). IsGuided (task_in p) (guide_of (task_in p)) w.lists) workers it.worker (taken.guided p owners joint)
          (subst (λ (q : JobModel). IsGuided (task_in q) (guide_of (task_in q)) it.worker.lists) job_is holds.guided)

    -- one part more
    pub taken_more : AreTaken owner_of n faces next (workers ++ it.worker ∷ []) (outs ++ it.outs ∷ []) (ins ++ it.ins ∷ [])
    taken_more = record {
      done = taken.done ++ one ∷ [];
      all = append_assoc taken.done (one ∷ []) next ∙ taken.all;
      count = length-append workers (it.worker ∷ []) ∙ (ap (λ (k : ℕ). k + 1) taken.count ∙ sym (length-append taken.done (one ∷ [])));
      out_rings =
          map-append (λ (v : Vec SenderModel Global). out_rings v.items) outs (it.outs ∷ [])
          ∙ ((λ t. taken.out_rings t ++ (is t).outs ∷ []) ∙ sym (map-append (λ (face : SealedModel S). face.outs) taken.done (one ∷ [])));
      in_rings =
          map-append (λ (v : Vec ReceiverModel Global). in_rings v.items) ins (it.ins ∷ [])
          ∙ ((λ t. taken.in_rings t ++ (is t).ins ∷ []) ∙ sym (map-append (λ (face : SealedModel S). face.ins) taken.done (one ∷ [])));
      hold = λ p owners joint. subst (λ (parts : List PartState). AllHold owner_of p owners n parts) (sym after) (hold_more p owners joint);
      guided = guided_more;
    }

  module _ (owner_of : S → ℕ → BoardModel → ℕ) (n : ℕ) (faces : List (SealedModel S)) (joined : Joined C D E K G) (taken : AreTaken owner_of n faces [] joined.workers.items joined.outs.items joined.ins.items) where
    all_done : taken.done ≡ faces
    all_done = sym (append-nil taken.done) ∙ taken.all

    -- all were taken apart
    pub all_taken : (p : JobModel) (owners : S) → IsJoint p owners n faces → AreTakenApart owner_of p owners n joined
    all_taken p owners joint =
        let outs : rings_of_outs joined.outs.items ≡ map (λ (face : SealedModel S). face.outs) faces = taken.out_rings ∙ ap (λ (fs : List (SealedModel S)). map (λ (face : SealedModel S). face.outs) fs) all_done in
        let ins : rings_of_ins joined.ins.items ≡ map (λ (face : SealedModel S). face.ins) faces = taken.in_rings ∙ ap (λ (fs : List (SealedModel S)). map (λ (face : SealedModel S). face.ins) fs) all_done in
        let count : length taken.done ≡ n = ap (λ (fs : List (SealedModel S)). length fs) all_done ∙ joint.count in
        record {
          workers = taken.count ∙ count;
          outs = sym (length-map joined.outs.items (λ (v : Vec SenderModel Global). out_rings v.items)) ∙ (ap (λ (rs : List (List Ring)). length rs) outs ∙ (length-map faces (λ (face : SealedModel S). face.outs) ∙ joint.count));
          ins = sym (length-map joined.ins.items (λ (v : Vec ReceiverModel Global). in_rings v.items)) ∙ (ap (λ (rs : List (List Ring)). length rs) ins ∙ (length-map faces (λ (face : SealedModel S). face.ins) ∙ joint.count));
          roles = λ i it at. (taken.hold p owners joint i it at).0;
          keep = λ i it at. (taken.hold p owners joint i it at).1;
          guided = taken.guided p owners joint;
          paired = subst (λ (rs : List (List Ring) × List (List Ring)). ArePaired n rs.0 rs.1) (λ t. (sym outs t, sym ins t)) joint.paired;
        }
