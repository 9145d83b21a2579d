use Rattle.std.proofs.Common.{◌≡◌, ◌∙◌, Option, codes, sym, subst}
use Rattle.clap.specs.Words.{Text, first_of, found_of, rows_of}
use Rattle.clap.proofs.WalkLemmas.{first_value-rows}
use Rattle.board.specs.Shapes.{ShapeModel}
use Rattle.board_lists.specs.Lists.{MayBeListed}
use Rattle.command_line.specs.Requests.{HasShape, IsGoalSaid, IsGoalFault}
use Rattle.command_line.proofs.listings.listing_in.Goals as goal

pub returns-in-Ok-goal_said-clause-listing : goal.returns-in-Ok-goal_said-clause-listing
returns-in-Ok-goal_said-clause-listing c =
    let found = found_of c.args.matches.now in
    let shape = c.in-Some.shape in
    let home = c.in-Ok-goal_said.goal in
    let text = c.get_str.ensures ∙ first_value-rows found (codes "goal") in
    let said = subst (λ (t : Option Text). IsGoalSaid shape t home) text c.in-Ok-goal_said.ensures.goal in
    let sides : shape ≡ home.grid = sym c.in-Ok-goal_said.ensures.sides in
    record {
      shape = subst (HasShape (rows_of found)) sides c.in-Some.ensures.value;
      goal = subst (λ (g : ShapeModel). IsGoalSaid g (first_of (codes "goal") (rows_of found)) home) sides said;
      choice = c.in-Ok.ensures.choice;
      small = subst (λ (g : ShapeModel). MayBeListed g c.in-Ok.choice) sides c.in-Ok.ensures.small;
    }

pub returns-in-Err-goal_said-clause-refusal : goal.returns-in-Err-goal_said-clause-refusal
returns-in-Err-goal_said-clause-refusal c =
    let found = found_of c.args.matches.now in
    let text = c.get_str.ensures ∙ first_value-rows found (codes "goal") in
    let first = subst (λ (t : Option Text). IsGoalFault c.in-Some.shape t c.in-Err-goal_said.fault) text c.in-Err-goal_said.ensures.fault in
    (c.in-Some.shape, c.in-Ok.choice, c.in-Some.ensures.value, c.in-Ok.ensures.choice, c.in-Ok.ensures.small, first)
