use Rattle.std.proofs.Common.{◌≡◌, map, take}
use Rattle.std.specs.Prelude.{min}
use Rattle.database_build.proofs.entries.narrow_all.Given as goal

-- those before this one have their bytes
abbrev pub invariant-values : goal.invariant-values
invariant-values l = l.bytes.items ≡ map (λ value. min value 255) (take l.value-index l.values)
