use Rattle.std.proofs.Common.{rules}
use Rattle.thread_work.proofs.threads.fn.run_all.scope+FnOnce.call_once.Goals as goal

-- the closure may send and share what the function may
pub scope-requires : goal.scope-requires
scope-requires g c = (search rules, (search rules, (search rules, (search rules, (search rules, (search rules, (search rules, (search rules, search rules))))))))
