use Rattle.std.proofs.Common.{◌-◌, arith}
use Rattle.pattern_index.proofs.SparseLemmas.{digits_none, digits_on}
use Rattle.search_keys.proofs.SearchKeyLemmas.{number_low}
use Rattle.search_keys.proofs.digits.long_number.Goals as goal

pub places-init : goal.places-init
places-init c = record { within = omega arith; number = digits_none 32 c.args.digits.now }

pub overflow_mul-number : goal.overflow_mul-number
overflow_mul-number c =
    let on = digits_on 32 c.args.digits.now c.places.place c.places.number c.places-test.true c.places.invariant.within c.places.invariant.number in
    let low = number_low 32 25 (c.places.place - 1) c.args.digits.now (omega arith) c.requires.few c.requires.low in
    omega (arith, on, low)

pub overflow_add-number : goal.overflow_add-number
overflow_add-number c =
    let on = digits_on 32 c.args.digits.now c.places.place c.places.number c.places-test.true c.places.invariant.within c.places.invariant.number in
    let low = number_low 32 25 (c.places.place - 1) c.args.digits.now (omega arith) c.requires.few c.requires.low in
    omega (arith, on, low)

pub places-preserved : goal.places-preserved
places-preserved c = record { within = omega (arith, c.places.invariant.within); number = digits_on 32 c.args.digits.now c.places.place c.places.number c.places-test.true c.places.invariant.within c.places.invariant.number }
