-- How the program ends: its status, and what it writes of that to standard error.
use Rattle.std.specs.Prelude.{ℕ, ◌≡◌, false, List, [], ◌∷◌, ◌++◌, codes, ⊤}
use Rattle.byte_streams.specs.Streams.{SinkState, Change}
use Rattle.byte_streams.specs.Sink.{Puts, PutsBeginning}
use Rattle.batch_runs.specs.Batches.{status_of_counts}
use Rattle.command_line.specs.Faults.{refusal_status, refusal_message}
use Rattle.batch_cli.specs.declared.faults.BatchFault.TheVariants.{Read, Write, Memory, GroupsMemory, CertificateRead, CertificateMemory, CertificateWrite}
use Rattle.batch_cli.specs.declared.endings.Ending.{Ending}
use Rattle.batch_cli.specs.declared.endings.Ending.TheVariants.{NoTexts, Refused, NoMemoryToStart, NoMemory, Ran, Answered, Shown, Faulted}

-- 0: each line is optimal or unsolvable, or a text was written, or boards were listed. 1: some line is bounded or refused. 2: the arguments are
-- not UTF-8, or are invalid. 3: a stream failed. 4: memory ran out. A run over one line, one certificate or one replay answers its own status.
abbrev pub status_of : Ending → ℕ
status_of NoTexts = 2
status_of (Refused refusal) = refusal_status refusal
status_of NoMemoryToStart = 4
status_of (NoMemory refused) = 4
status_of (Ran counts) = status_of_counts counts
status_of (Answered status) = status
status_of Shown = 0
status_of (Faulted Read) = 3
status_of (Faulted Write) = 3
status_of (Faulted (Memory lacking)) = 4
status_of (Faulted (GroupsMemory refused)) = 4
status_of (Faulted CertificateRead) = 3
status_of (Faulted (CertificateMemory refused)) = 4
status_of (Faulted CertificateWrite) = 3

-- a line for standard error
abbrev pub error_line_of : List ℕ → List ℕ
error_line_of text = text ++ 10 ∷ []

abbrev pub message_of : Ending → List ℕ
message_of NoTexts = error_line_of (codes "error: invalid UTF-8 was detected in one or more arguments")
message_of (Refused refusal) = refusal_message refusal
message_of NoMemoryToStart = error_line_of (codes "tilesolve: memory")
message_of (NoMemory refused) = error_line_of (codes "tilesolve: memory")
message_of (Ran counts) = []
message_of (Answered status) = []
message_of Shown = []
message_of (Faulted Read) = error_line_of (codes "tilesolve: B1")
message_of (Faulted Write) = error_line_of (codes "tilesolve: B2")
message_of (Faulted (Memory lacking)) = error_line_of (codes "tilesolve: B3")
message_of (Faulted (GroupsMemory refused)) = error_line_of (codes "tilesolve: B3")
message_of (Faulted CertificateRead) = error_line_of (codes "tilesolve: F6")
message_of (Faulted (CertificateMemory refused)) = error_line_of (codes "tilesolve: F7")
message_of (Faulted CertificateWrite) = error_line_of (codes "tilesolve: F8")

-- the message was written, or a beginning of it where the stream has failed; and the status is answered
pub record Tells (errors : Change SinkState) (ending : Ending) (status : ℕ) : Type 0 where
  pub told : status ≡ status_of ending
  pub begun : PutsBeginning errors (message_of ending)
  pub whole : errors.after.has_failed ≡ false → Puts errors (message_of ending)

-- the ending comes before anything is read or written: the arguments are not UTF-8, or are invalid, or there is no memory
abbrev pub HasNotBegun : Ending → Type 0
HasNotBegun NoTexts = ⊤
HasNotBegun (Refused refusal) = ⊤
HasNotBegun NoMemoryToStart = ⊤
HasNotBegun (NoMemory refused) = ⊤
HasNotBegun (Ran counts) = ⊥
HasNotBegun (Answered status) = ⊥
HasNotBegun Shown = ⊥
HasNotBegun (Faulted fault) = ⊥
