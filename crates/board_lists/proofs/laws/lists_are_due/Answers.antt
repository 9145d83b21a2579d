use Rattle.board_lists.proofs.ClassLemmas.{one_rising}
use Rattle.board_lists.proofs.laws.lists_are_due.Goals as goal

pub returns-clause-one_list : goal.returns-clause-one_list
returns-clause-one_list c = λ goal boards others whole whole'.
    one_rising boards others whole.rising whole'.rising (λ b. ((λ has. (whole'.each b).1 ((whole.each b).0 has)), (λ has. (whole.each b).1 ((whole'.each b).0 has))))
