use Rattle.std.proofs.Common.{sym, ◌∙◌}
use Rattle.board_lists.proofs.WalkLemmas.{last_leads}
use Rattle.board_lists.proofs.walks.first_onward.Goals as goal

pub returns : goal.returns
returns c = last_leads c.args.board.now c.args.last c.args.order c.is_onward.ensures.board c.requires (sym c.is_onward.ensures.value ∙ c.if-is_onward.false) (sym c.is_onward-2.ensures.value ∙ c.if-is_onward-2.false) (sym c.is_onward-3.ensures.value ∙ c.if-is_onward-3.false)
