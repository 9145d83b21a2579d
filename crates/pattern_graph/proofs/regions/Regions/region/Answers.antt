use Rattle.std.proofs.Common.{◌+◌, ◌*◌, get_or, ◌∙◌, arith}
use Rattle.std.proofs.lemmas.List.{get_or_read}
use Rattle.pattern_graph.proofs.RegionLemmas.{region_within}
use Rattle.pattern_graph.proofs.regions.Regions.region.Goals as goal

pub overflow_mul-set : goal.overflow_mul-set
overflow_mul-set c =
    let within = region_within c.args.self.now c.args.cells.now c.args.blank c.place-set.result c.cells.result c.requires.regions.regions c.requires.apart.placed c.requires.apart.free c.place-set.ensures c.cells.ensures.value in
    omega (arith, c.args.self.now.numbers.ok.0, c.args.self.now.numbers.small)

pub overflow_add-set : goal.overflow_add-set
overflow_add-set c =
    let within = region_within c.args.self.now c.args.cells.now c.args.blank c.place-set.result c.cells.result c.requires.regions.regions c.requires.apart.placed c.requires.apart.free c.place-set.ensures c.cells.ensures.value in
    omega (arith, c.args.self.now.numbers.ok.0, c.args.self.now.numbers.small)

pub index-requires : goal.index-requires
index-requires c =
    let within = region_within c.args.self.now c.args.cells.now c.args.blank c.place-set.result c.cells.result c.requires.regions.regions c.requires.apart.placed c.requires.apart.free c.place-set.ensures c.cells.ensures.value in
    omega (arith, c.args.self.now.numbers.ok.0)

pub returns : goal.returns
returns c =
    let within = region_within c.args.self.now c.args.cells.now c.args.blank c.place-set.result c.cells.result c.requires.regions.regions c.requires.apart.placed c.requires.apart.free c.place-set.ensures c.cells.ensures.value in
    get_or_read c.args.self.now.numbers.items (c.place-set.result * c.cells.result + c.args.blank) c.index.result.now within c.index.ensures 0
    ∙ (λ i. get_or c.args.self.now.numbers.items (c.place-set.ensures i * c.cells.ensures.value i + c.args.blank) 0)
