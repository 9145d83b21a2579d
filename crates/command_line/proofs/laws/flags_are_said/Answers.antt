use Rattle.command_line.proofs.ParseLemmas.{search_said, cert_said, text_of_fault, usage_of_fault}
use Rattle.command_line.proofs.laws.flags_are_said.Goals as goal

pub returns-clause-options : goal.returns-clause-options
returns-clause-options c = λ rows o are. (are.fold, are.progress, are.stats)

pub returns-clause-defaults : goal.returns-clause-defaults
returns-clause-defaults c = λ o are. (are.fold, are.progress, are.stats)

pub returns-clause-search : goal.returns-clause-search
returns-clause-search c = search_said

pub returns-clause-cert : goal.returns-clause-cert
returns-clause-cert c = cert_said

pub returns-clause-texts : goal.returns-clause-texts
returns-clause-texts c = text_of_fault

pub returns-clause-usage : goal.returns-clause-usage
returns-clause-usage c = usage_of_fault
