-- The steps that lines say.
use Rattle.std.specs.Prelude.{ℕ, ◌≡◌, ◌≤◌, List, [], ◌∷◌, length, codes}
use Rattle.outcomes.specs.declared.outcome.Want.TheVariants.{Stated, Refused}
use Rattle.world_model.specs.declared.steps.HaltCause.{HaltCause}
use Rattle.world_model.specs.declared.steps.HaltCause.TheVariants.{Limit, Memory, Start}
use Rattle.world_model.specs.declared.steps.Step.{Step}
use Rattle.world_model.specs.declared.steps.Step.TheVariants.{Expand, Settle, Send, Deliver, Draw, Announce, Grant, Rest, Halt}
use Rattle.batch_lines.specs.Words.{SpellsDecimal}

-- a word of one to nine digits, with this value
abbrev pub IsNumberWord : List ℕ → ℕ → Type 0
IsNumberWord word n = SpellsDecimal word n × (length word ≤ 9)

-- the word for the cause of a halt; a line can't say that memory was refused
abbrev pub SaysCause : List ℕ → HaltCause → Type 0
SaysCause word Limit = word ≡ codes "limit"
SaysCause word (Memory Stated) = word ≡ codes "memory"
SaysCause word (Memory (Refused refused)) = ⊥
SaysCause word Start = word ≡ codes "start"

-- a verb, and the number of a worker
abbrev pub SayOne : List (List ℕ) → List ℕ → ℕ → Type 0
SayOne words verb i = (number : List ℕ) × (words ≡ verb ∷ number ∷ []) × IsNumberWord number i

-- a verb, and the numbers of two workers
abbrev pub SayTwo : List (List ℕ) → List ℕ → ℕ → ℕ → Type 0
SayTwo words verb i j = (first second : List ℕ) × (words ≡ verb ∷ first ∷ second ∷ []) × IsNumberWord first i × IsNumberWord second j

-- the verb of a halt, the number of a worker, and the cause
abbrev pub SayHalt : List (List ℕ) → ℕ → HaltCause → Type 0
SayHalt words i cause = (number word : List ℕ) × (words ≡ codes "halt" ∷ number ∷ word ∷ []) × IsNumberWord number i × SaysCause word cause

-- these words say the step
abbrev pub SaysStep : List (List ℕ) → Step → Type 0
SaysStep words (Expand i) = SayOne words (codes "expand") i
SaysStep words (Settle i) = SayOne words (codes "settle") i
SaysStep words (Send i j) = SayTwo words (codes "send") i j
SaysStep words (Deliver i j) = SayTwo words (codes "deliver") i j
SaysStep words (Draw i) = SayOne words (codes "draw") i
SaysStep words (Announce i) = SayOne words (codes "announce") i
SaysStep words (Grant i) = SayOne words (codes "grant") i
SaysStep words (Rest i) = SayOne words (codes "rest") i
SaysStep words (Halt i cause) = SayHalt words i cause

-- the step has this verb, the number of this worker, and no word more
abbrev pub IsAlone : List ℕ → ℕ → Step → Type 0
IsAlone verb i (Expand k) = (verb ≡ codes "expand") × (k ≡ i)
IsAlone verb i (Settle k) = (verb ≡ codes "settle") × (k ≡ i)
IsAlone verb i (Send k j) = ⊥
IsAlone verb i (Deliver k j) = ⊥
IsAlone verb i (Draw k) = (verb ≡ codes "draw") × (k ≡ i)
IsAlone verb i (Announce k) = (verb ≡ codes "announce") × (k ≡ i)
IsAlone verb i (Grant k) = (verb ≡ codes "grant") × (k ≡ i)
IsAlone verb i (Rest k) = (verb ≡ codes "rest") × (k ≡ i)
IsAlone verb i (Halt k cause) = ⊥

-- a verb, the number of a worker, and one word more
abbrev pub IsPaired : List ℕ → ℕ → List ℕ → Step → Type 0
IsPaired verb i word (Expand k) = ⊥
IsPaired verb i word (Settle k) = ⊥
IsPaired verb i word (Send k j) = (verb ≡ codes "send") × (k ≡ i) × IsNumberWord word j
IsPaired verb i word (Deliver k j) = (verb ≡ codes "deliver") × (k ≡ i) × IsNumberWord word j
IsPaired verb i word (Draw k) = ⊥
IsPaired verb i word (Announce k) = ⊥
IsPaired verb i word (Grant k) = ⊥
IsPaired verb i word (Rest k) = ⊥
IsPaired verb i word (Halt k cause) = (verb ≡ codes "halt") × (k ≡ i) × SaysCause word cause
