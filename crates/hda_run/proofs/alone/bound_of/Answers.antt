use Rattle.std.proofs.Common.{ap, ◌∙◌}
use Rattle.search_keys.specs.SearchKeys.{search_key}
use Rattle.board.specs.Boards.{BoardModel}
use Rattle.hda_run.specs.Jobs.{JobModel}
use Rattle.hda_run.proofs.BoundLemmas.{bound_by_lists, goal_known, is_bound, least_told, looked_up, nothing_waits}
use Rattle.hda_run.proofs.alone.bound_of.Goals as goal

pub returns-in-Some : goal.returns-in-Some
returns-in-Some g c =
    let owner_of = g.S.Spread.owner_of in
    let parts = c.args.world.now in
    let worker = c.worker.result.now in
    let key = c.key-goal.ensures.value ∙ ap (λ (b : BoardModel). search_key b) c.keyed_goal.ensures.value ∙ ap (λ (p : JobModel). search_key p.goal) c.job.ensures in
    let looked = looked_up owner_of parts c.requires worker c.worker.ensures c.lists-lists.result.now c.key-goal.result c.get.result c.lists-lists.ensures key c.get.ensures in
    goal_known owner_of parts c.requires worker c.worker.ensures c.in-Some.field-0 (looked ∙ c.in-Some.is)

pub returns-in-None : goal.returns-in-None
returns-in-None g c =
    let owner_of = g.S.Spread.owner_of in
    let parts = c.args.world.now in
    let worker = c.worker.result.now in
    let keeps = c.workers.ensures in
    let lists = c.lists-lists.result.now in
    let key = c.key-goal.ensures.value ∙ ap (λ (b : BoardModel). search_key b) c.keyed_goal.ensures.value ∙ ap (λ (p : JobModel). search_key p.goal) c.job.ensures in
    let looked = looked_up owner_of parts c.requires worker c.worker.ensures lists c.key-goal.result c.get.result c.lists-lists.ensures key c.get.ensures in
    let below = bound_by_lists owner_of parts c.requires worker c.worker.ensures keeps.sound keeps.guided keeps.bounded (looked ∙ c.in-None.is) lists c.lists-lists.ensures c.least.result c.least.ensures.bound in
    let none = nothing_waits owner_of parts c.requires worker c.worker.ensures keeps.guided lists c.lists-lists.ensures c.least.result (λ none. rw none at c.least.ensures.least) in
    let waits = least_told owner_of parts c.requires worker c.worker.ensures lists c.lists-lists.ensures c.least.result (λ f some. rw some at c.least.ensures.least) in
    is_bound owner_of parts c.least.result below none waits
