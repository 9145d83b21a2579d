use Rattle.std.proofs.Common.{◌≡◌, ◌*◌, ◌∙◌, length, sym, ap, arith}
use Rattle.std.specs.Vec.{vec_len}
use Rattle.memory.proofs.PageLemmas.{length_of_pages}
use Rattle.memory.proofs.pages.Pages.len.Goals as goal

pub overflow_mul-result : goal.overflow_mul-result
overflow_mul-result g c =
    let ps = c.self.inside.pages.items in
    let few = c.self.invariant.few in
    let len : vec_len c.self.inside.pages ≡ length ps = c.self.inside.pages.ok.0 in
    omega (arith, c.len.ensures)

pub returns-clause-len : goal.returns-clause-len
returns-clause-len g c =
    let ps = c.self.inside.pages.items in
    let len : vec_len c.self.inside.pages ≡ length ps = c.self.inside.pages.ok.0 in
    ap (λ n. n * 1024) (c.len.ensures ∙ len) ∙ sym (length_of_pages 1024 ps c.self.invariant.full) ∙ ap length c.self.view_is

pub returns-clause-few : goal.returns-clause-few
returns-clause-few g c =
    let few = c.self.invariant.few in
    let len : vec_len c.self.inside.pages ≡ length c.self.inside.pages.items = c.self.inside.pages.ok.0 in
    omega (arith, c.len.ensures)
