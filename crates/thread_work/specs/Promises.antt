-- What is promised of threads.
use Rattle.std.specs.declared.thread.PromisedHandle.{PromisedHandle}
use Rattle.thread_parts.specs.declared.sealed.Sealed.{Sealed}
use Rattle.thread_work.specs.declared.threads.Given.{Given}

-- the part that a thread was given
abbrev pub promised : {S C D E K G : Type 0} → PromisedHandle (Sealed S C D E K G) (Given S C D E K G) → Sealed S C D E K G
promised handle = handle.promise.0.value
