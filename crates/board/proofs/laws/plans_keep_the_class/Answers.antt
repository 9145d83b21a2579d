use Rattle.board.proofs.ClassLemmas.{same_class_kept, same_class_led}
use Rattle.board.proofs.laws.plans_keep_the_class.Goals as goal

pub returns-clause-moves : goal.returns-clause-moves
returns-clause-moves c = λ rule b m b' k q board moves. same_class_kept rule b board m b' k moves q

pub returns-clause-plans : goal.returns-clause-plans
returns-clause-plans c = λ rule b plan q k board leads. same_class_led rule b board plan q k leads
