use Rattle.std.proofs.Common.{◌≡◌, ◌<◌, ◌/◌, ◌∙◌, length, arith}
use Rattle.std.specs.Vec.{vec_len}
use Rattle.memory.proofs.PageLemmas.{has_page, in_page, item_there}
use Rattle.memory.proofs.pages.Pages.at.Goals as goal

pub index-page-requires : goal.index-page-requires
index-page-requires g c =
    let ps = c.self.inside.pages.items in
    let lt : c.args.place / 1024 < length ps = has_page ps c.self.invariant c.args.self.now c.self.view_is c.args.place c.requires in
    let len : vec_len c.self.inside.pages ≡ length ps = c.self.inside.pages.ok.0 in
    omega arith

pub index-requires : goal.index-requires
index-requires g c = in_page c.self.inside.pages.items c.self.invariant c.args.self.now c.self.view_is c.args.place c.requires c.index-page.result.now c.index-page.ensures

pub returns : goal.returns
returns g c = c.index.ensures ∙ item_there c.self.inside.pages.items c.self.invariant c.args.self.now c.self.view_is c.args.place c.requires c.index-page.result.now c.index.result.now c.index-page.ensures
