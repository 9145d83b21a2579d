use Rattle.std.proofs.Common.{◌%◌, ◌∙◌, arith}
use Rattle.std.proofs.lemmas.List.{length-set}
use Rattle.search_keys.proofs.SearchKeyLemmas.{left_more, written_more}
use Rattle.search_keys.proofs.digits.write_short.Goals as goal

pub places-preserved : goal.places-preserved
places-preserved c = record {
  all = length-set c.places.digits c.places.place (c.places.rest % 16) ∙ c.places.invariant.all;
  rest = left_more 16 c.args.key c.places.place c.places.rest c.places.invariant.rest;
  are = written_more 16 c.args.key c.places.place c.places.rest c.places.digits (omega (arith, c.places.invariant.all, c.places-test.true)) c.places.invariant.rest c.places.invariant.are;
}
