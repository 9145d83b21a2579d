use Rattle.std.proofs.Common.{◌≡◌, ◌-◌, ◌++◌, length, take}
use Rattle.pattern_index.specs.Sparse.{digits_in}
use Rattle.pattern_index.proofs.sparse.write_digits.Given as goal

-- digits are written up to the place, and those behind are those of what is left of the number
abbrev pub invariant-places : goal.invariant-places
invariant-places l = record {
  all : length l.digits ≡ length l.initial.digits;
  are : take l.place l.digits ++ digits_in l.count (length l.initial.digits - l.place) l.rest ≡ digits_in l.count (length l.initial.digits) l.number;
}
