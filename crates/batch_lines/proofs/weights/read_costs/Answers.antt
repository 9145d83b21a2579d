use Rattle.std.proofs.Common.{◌≡◌, ◌≢◌, Bool, false, ℕ, List, ◌≤◌, sym, ◌∙◌, subst, codes}
use Rattle.std.specs.Str.{bytes_eq}
use Rattle.std.proofs.lemmas.Bool.{true≢false}
use Rattle.std.proofs.lemmas.Slice.Eq.{bytes_eq-Decides}
use Rattle.batch_lines.proofs.CostLemmas.{weights_read, weights_fault}
use Rattle.batch_lines.proofs.weights.read_costs.Goals as goal

-- where the test of equality fails, the text is not the word
differs : (text word : List ℕ) (same : Bool) → same ≡ bytes_eq text word → same ≡ false → text ≢ word
differs text word same test failed = λ is. true≢false (sym ((bytes_eq-Decides text word).1 is) ∙ sym test ∙ failed)

pub returns-clause-costs : goal.returns-clause-costs
returns-clause-costs c =
    let few = subst (λ (n : ℕ). n ≤ 25) c.cells.ensures.value c.cells.ensures.high in
    weights_read c.args.shape c.args.text.now c.as_slice.result.now c.list.result few (c.as_slice.ensures.value ∙ c.weights_in-weights.ensures) c.list.ensures.accepted.0 c.list.ensures.value

pub returns-clause-fault : goal.returns-clause-fault
returns-clause-fault c =
    let few = subst (λ (n : ℕ). n ≤ 25) c.cells.ensures.value c.cells.ensures.high in
    let no_unit = differs c.args.text.now (codes "unit") c.eq.result c.eq.ensures c.if-eq.false in
    let no_face = differs c.args.text.now (codes "face") c.eq-2.result c.eq-2.ensures c.if-eq-2.false in
    weights_fault c.args.shape c.args.text.now c.as_slice.result.now c.list.result few (c.as_slice.ensures.value ∙ c.weights_in-weights.ensures) no_unit no_face c.list.ensures.fault
