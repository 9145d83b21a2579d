-- What a caller sees of a stream, and what a call did to it.
use Rattle.std.specs.Prelude.{ℕ, List, Option, Bool}

-- a source: the bytes that are left, where they are known, and whether reading has failed
pub record SourceState : Type 0 where
  pub left : Option (List ℕ)
  pub has_failed : Bool

-- a sink: the bytes that are written, where they are known, with those that a buffer holds back, and whether a write or a flush has failed
pub record SinkState : Type 0 where
  pub contents : Option (List ℕ)
  pub has_failed : Bool

-- what a call did to something: its state before the call and after it
pub record Change (State : Type 0) : Type 0 where
  pub before : State
  pub after : State

-- by a word for the state, and the value before and after
abbrev pub change : {A State : Type 0} → (A → State) → A → A → Change State
change state old new = record { before = state old; after = state new }

-- by the states themselves
abbrev pub from_to : {State : Type 0} → State → State → Change State
from_to old new = record { before = old; after = new }
