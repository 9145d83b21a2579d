use Rattle.std.proofs.Common.{◌≡◌, min, take, true}
use Rattle.std.specs.List.{list_all}
use Rattle.std.specs.Char.{is_ascii_digit}
use Rattle.std.specs.Str.Parse.{digits_value}
use Rattle.batch_lines.proofs.words.digits_number.Given as goal

abbrev pub invariant-digits : goal.invariant-digits
invariant-digits l = (list_all is_ascii_digit (take l.byte-index l.word) ≡ true) × (l.number ≡ min 256 (digits_value 10 (take l.byte-index l.word)))
