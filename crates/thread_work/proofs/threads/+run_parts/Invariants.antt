use Rattle.std.proofs.Common.{vec_len}
use Rattle.thread_work.proofs.threads.+run_parts.Given as goal

abbrev pub decreases-run_parts : goal.decreases-run_parts
decreases-run_parts g l = vec_len l.parts
