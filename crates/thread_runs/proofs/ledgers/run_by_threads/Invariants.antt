use Rattle.thread_runs.proofs.ledgers.run_by_threads.Given as goal

abbrev pub ghosts-run_over-L-Ledger : goal.ghosts-run_over-L-Ledger
ghosts-run_over-L-Ledger g a = record { name = a.blanks.credit.name; parts = a.blanks.credit.parts }

abbrev pub ghosts-run_over-M-Capped : goal.ghosts-run_over-M-Capped
ghosts-run_over-M-Capped g a = record { limit = a.search.now.job.limit }

abbrev pub ghosts-run_over-M-Ledger : goal.ghosts-run_over-M-Ledger
ghosts-run_over-M-Ledger g a = record { name = a.blanks.grants.name; parts = a.blanks.grants.parts }
