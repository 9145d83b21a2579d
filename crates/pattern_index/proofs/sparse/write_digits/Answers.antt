use Rattle.std.proofs.Common.{◌%◌, length, ◌∙◌, arith}
use Rattle.std.proofs.lemmas.List.{length-set}
use Rattle.pattern_index.specs.Sparse.{digits_in}
use Rattle.pattern_index.proofs.SparseLemmas.{digits_more, digits_all}
use Rattle.pattern_index.proofs.sparse.write_digits.Goals as goal

pub places-preserved : goal.places-preserved
places-preserved c = record {
  all = length-set c.places.digits c.places.place (c.places.rest % c.args.count) ∙ c.places.invariant.all;
  are = digits_more c.args.count c.places.place c.places.rest (digits_in c.args.count (length c.args.digits.now) c.args.number) c.places.digits (length c.args.digits.now) (omega arith) c.places.invariant.all c.places.invariant.are;
}

pub returns : goal.returns
returns c = digits_all c.args.count c.places.place c.places.rest (digits_in c.args.count (length c.args.digits.now) c.args.number) c.places.digits (length c.args.digits.now) (omega arith) c.places.invariant.all c.places.invariant.are
