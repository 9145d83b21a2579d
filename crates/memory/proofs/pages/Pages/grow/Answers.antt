use Rattle.std.proofs.Common.{◌∙◌, [], ◌∷◌, ◌++◌, ap}
use Rattle.std.specs.Prelude.{replicate}
use Rattle.std.proofs.lemmas.List.{append-nil}
use Rattle.std.proofs.lemmas.List.Concat.{flat_map-append}
use Rattle.memory.specs.Pages.{items_of}
use Rattle.memory.specs.declared.pages.TheConstants.{PAGE_LENGTH}
use Rattle.memory.proofs.pages.Pages.grow.Goals as goal

pub returns-clause-ok : goal.returns-clause-ok
returns-clause-ok g c =
    let ps = c.self.inside.pages.items in
    let page = c.in_ok-page.page in
    ap items_of c.in_ok-push.ensures.items ∙ flat_map-append (λ p. p.items) ps (page ∷ [])
    ∙ ap (λ xs. items_of ps ++ xs) (append-nil page.items ∙ c.in_ok-page.ensures.items)
    ∙ ap (λ xs. xs ++ replicate PAGE_LENGTH c.args.item) c.self.view_is
