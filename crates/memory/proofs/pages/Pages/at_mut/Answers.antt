use Rattle.std.proofs.Common.{◌≡◌, ◌<◌, ◌/◌, ◌∙◌, length, refl, arith}
use Rattle.std.specs.Vec.{vec_len}
use Rattle.memory.proofs.PageLemmas.{has_page, in_page, item_there, put_there, pages_there}
use Rattle.memory.proofs.pages.Pages.at_mut.Goals as goal

pub index_mut-page-requires : goal.index_mut-page-requires
index_mut-page-requires g c =
    let ps = c.self.inside.pages.items in
    let lt : c.args.place / 1024 < length ps = has_page ps c.self.invariant c.args.self.now c.self.view_is c.args.place c.requires in
    let len : vec_len c.self.inside.pages ≡ length ps = c.self.inside.pages.ok.0 in
    omega arith

pub index_mut-requires : goal.index_mut-requires
index_mut-requires g c = in_page c.self.inside.pages.items c.self.invariant c.args.self.now c.self.view_is c.args.place c.requires c.index_mut-page.result.now c.index_mut-page.ensures.value

pub invariant_of-self-lent : goal.invariant_of-self-lent
invariant_of-self-lent g c w = pages_there c.self.inside.pages.items c.self.invariant c.args.self.now c.self.view_is c.args.place c.requires c.index_mut-page.result.now w c.index_mut-page.ensures.value

pub returns : goal.returns
returns g c = (
  (refl, λ w. put_there c.self.inside.pages.items c.self.invariant c.args.self.now c.self.view_is c.args.place c.requires c.index_mut-page.result.now w c.index_mut-page.ensures.value),
  record {
    writes_back = tt;
    value = c.index_mut.ensures.value ∙ item_there c.self.inside.pages.items c.self.invariant c.args.self.now c.self.view_is c.args.place c.requires c.index_mut-page.result.now c.index_mut.result.now c.index_mut-page.ensures.value;
  },
)
