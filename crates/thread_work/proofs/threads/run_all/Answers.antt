use denote.Param.Send.{sendable}
use Rattle.thread_work.proofs.threads.run_all.Goals as goal

-- the closure may send and share what the function may
pub scoped-requires : goal.scoped-requires
scoped-requires g c =
    record { at = λ a. (search sendable, search sendable, search sendable, search sendable, search sendable, search sendable, search sendable, search sendable, search sendable) }
