use Rattle.std.proofs.Common.{◌≡◌, List, [], ◌∷◌, ◌++◌, Result, Ok, Err, IfOk, ap, sym, ◌∙◌}
use Rattle.std.specs.Prelude.{IfErr}
use Rattle.thread_work.specs.Promises.{promised}
use Rattle.thread_work.proofs.threads.+run_parts.Goals as goal

-- What joined threads gave back.

-- where the last part came back behind the others, all are in their places
last_joined : {X : Type 0} (front parts before after : List X) (part back : X) → parts ≡ front ++ part ∷ [] → before ≡ front → back ≡ part → after ≡ before ++ back ∷ [] → after ≡ parts
last_joined front parts before after part back split rest same pushed = pushed ∙ ap (λ xs. xs ++ back ∷ []) rest ∙ ap (λ x. front ++ x ∷ []) same ∙ sym split

-- what a thread gives back, or came back at once, is the part
same_part : {H X : Type 0} (of_thread : H → X) (started : Result H X) (part back : X) → IfOk started (λ handle. of_thread handle ≡ part) → IfErr started (λ it. it ≡ part) → IfOk started (λ handle. back ≡ of_thread handle) → IfErr started (λ it. back ≡ it) → back ≡ part
same_part of_thread (Ok handle) part back promised none joined no_part = joined ∙ promised
same_part of_thread (Err it) part back none same no_thread is = is ∙ same

pub returns-clause-all : goal.returns-clause-all
returns-clause-all g t c =
    let started = c.start_one-started.result in
    let part = c.in-Some.part in
    let back = c.take_back.result in
    last_joined
    c.pop.new.self.items
    c.args.parts.items
    c.run_parts-parts.result.items
    c.push_reserved.new.self.items
    part
    back
    c.in-Some.ensures.items
    c.run_parts-parts.ensures.all
    (same_part promised started part back c.start_one-started.ensures.started c.start_one-started.ensures.back c.take_back.ensures.joined c.take_back.ensures.back)
    c.push_reserved.ensures.items
