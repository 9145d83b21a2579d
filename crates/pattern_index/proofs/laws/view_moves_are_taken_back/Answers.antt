use Rattle.pattern_index.proofs.ViewMoveLemmas.{moved_view, moved_back}
use Rattle.pattern_index.proofs.laws.view_moves_are_taken_back.Goals as goal

pub returns-clause-views : goal.returns-clause-views
returns-clause-views c = moved_view

pub returns-clause-back : goal.returns-clause-back
returns-clause-back c = moved_back
