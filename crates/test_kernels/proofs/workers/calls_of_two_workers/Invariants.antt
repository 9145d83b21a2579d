use Rattle.test_kernels.specs.declared.workers.TheConstants.{LIMIT}
use Rattle.test_kernels.proofs.workers.calls_of_two_workers.Given as goal

abbrev pub ghosts-shared_difference-L-Ledger : goal.ghosts-shared_difference-L-Ledger
ghosts-shared_difference-L-Ledger g a = record { name = a.credit.name; parts = a.credit.parts }

abbrev pub ghosts-shared_difference-M-Capped : goal.ghosts-shared_difference-M-Capped
ghosts-shared_difference-M-Capped g a = record { limit = LIMIT }

abbrev pub ghosts-shared_difference-M-Ledger : goal.ghosts-shared_difference-M-Ledger
ghosts-shared_difference-M-Ledger g a = record { name = a.grants.name; parts = a.grants.parts }
