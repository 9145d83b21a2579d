use Rattle.golden_steps.proofs.steps.play.Given as goal

abbrev pub ghosts-play_by-L-Ledger : goal.ghosts-play_by-L-Ledger
ghosts-play_by-L-Ledger g a = record { name = a.credit.name; parts = a.credit.parts }

abbrev pub ghosts-play_by-M-Ledger : goal.ghosts-play_by-M-Ledger
ghosts-play_by-M-Ledger g a = record { name = a.grants.name; parts = a.grants.parts }

abbrev pub ghosts-play_by-M-Capped : goal.ghosts-play_by-M-Capped
ghosts-play_by-M-Capped g a = record { limit = a.scene.now.limit }

abbrev pub ghosts-play_by-2-L-Ledger : goal.ghosts-play_by-2-L-Ledger
ghosts-play_by-2-L-Ledger g a = record { name = a.credit.name; parts = a.credit.parts }

abbrev pub ghosts-play_by-2-M-Ledger : goal.ghosts-play_by-2-M-Ledger
ghosts-play_by-2-M-Ledger g a = record { name = a.grants.name; parts = a.grants.parts }

abbrev pub ghosts-play_by-2-M-Capped : goal.ghosts-play_by-2-M-Capped
ghosts-play_by-2-M-Capped g a = record { limit = a.scene.now.limit }
