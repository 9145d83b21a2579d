use Rattle.std.proofs.Common.{◌≡◌, ◌≤◌, ◌+◌, ◌∙◌, ◌++◌, length, ap, arith, append_assoc, length-append, get_or}
use Rattle.std.specs.Prelude.{replicate}
use Rattle.std.proofs.lemmas.List.{length-replicate}
use Rattle.closed_table.proofs.IndexLemmas.{alike_more}
use Rattle.memory.specs.declared.pages.TheConstants.{PAGE_LENGTH}
use Rattle.closed_table.proofs.index.grow_to.Goals as goal

pub pages-smaller : goal.pages-smaller
pages-smaller g c =
    let size : length c.grow.new.self ≡ length c.pages.pages + 1024 = ap length c.in_ok-grow.ensures.ok ∙ length-append c.pages.pages (replicate PAGE_LENGTH c.args.item) ∙ ap (λ n. length c.pages.pages + n) (length-replicate PAGE_LENGTH c.args.item) in
    let few : length c.pages.pages ≤ c.args.len + c.args.count = let t = c.pages-test.true in omega (arith, c.len.ensures.len) in
    omega arith

pub pages-preserved : goal.pages-preserved
pages-preserved g c =
    let size : length c.grow.new.self ≡ length c.pages.pages + 1024 = ap length c.in_ok-grow.ensures.ok ∙ length-append c.pages.pages (replicate PAGE_LENGTH c.args.item) ∙ ap (λ n. length c.pages.pages + n) (length-replicate PAGE_LENGTH c.args.item) in
    let before = c.pages.invariant.within in
    record {
      within = omega arith;
      kept = (c.pages.invariant.kept.0 ++ replicate PAGE_LENGTH c.args.item, c.in_ok-grow.ensures.ok ∙ ap (λ xs. xs ++ replicate PAGE_LENGTH c.args.item) c.pages.invariant.kept.1 ∙ append_assoc c.args.pages.now c.pages.invariant.kept.0 (replicate PAGE_LENGTH c.args.item));
      alike = λ k before. ap (λ xs. get_or xs k c.args.item) c.in_ok-grow.ensures.ok ∙ alike_more c.pages.pages c.args.item PAGE_LENGTH k (c.pages.invariant.alike k before);
    }
