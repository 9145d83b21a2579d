use Rattle.std.proofs.Common.{rules}
use Rattle.thread_work.proofs.threads.fn.start_one.job+FnOnce.call_once.Goals as goal

-- the closure may send and share what the function may
pub job-requires : goal.job-requires
job-requires g c = (search rules, (search rules, (search rules, (search rules, (search rules, search rules)))))
