use Rattle.hda_run.proofs.LawLemmas.{stops, quiet, due, spent}
use Rattle.hda_run.proofs.laws.runs_alone_stop.Goals as goal

pub returns : goal.returns
returns c = record { stop = stops; quiet = quiet; due = due; spent = spent }
