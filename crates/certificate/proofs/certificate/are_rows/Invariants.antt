use Rattle.std.proofs.Common.{◌≡◌, None, take}
use Rattle.std.specs.List.{AllByRecursion}
use Rattle.certificate.specs.Certificates.{IsRow, RiseAfter}
use Rattle.certificate.proofs.SourceLemmas.{last_of}
use Rattle.certificate.proofs.certificate.are_rows.Given as goal

abbrev pub invariant-rows : goal.invariant-rows
invariant-rows l = record {
  rows : AllByRecursion (IsRow l.shape) (take l.row-index l.rows);
  rising : RiseAfter None (take l.row-index l.rows);
  last : l.before ≡ last_of None (take l.row-index l.rows);
}
