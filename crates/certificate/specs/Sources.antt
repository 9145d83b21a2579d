-- What a reader of fields does to a source.
use Rattle.std.specs.Prelude.{ℕ, ◌≡◌, ◌≢◌, ◌⊎◌, ◌<◌, ◌↔◌, Bool, true, false, List, [], ◌∷◌, ◌++◌, length, IfSome, IfOk, IfErr, Result, Ok, Err, ⊤}
use Rattle.byte_streams.specs.Streams.{SourceState, Change}
use Rattle.byte_streams.specs.Source.{Takes, ReadsOn}
use Rattle.certificate.specs.declared.faults.FormatFault.{FormatFault}
use Rattle.certificate.specs.declared.faults.FormatFault.TheVariants.{Truncated}
use Rattle.certificate.specs.declared.faults.ReadFault.{ReadFault}
use Rattle.certificate.specs.declared.faults.ReadFault.TheVariants.{Format, Failed, NoMemory}
use Rattle.memory.specs.declared.OutOfMemory.{OutOfMemory}
use Rattle.certificate.specs.Certificates.{CertificateModel}
use Rattle.certificate.specs.Spellings.{Spells, spelling}
use Rattle.certificate.specs.Readings.{Reader, IsFaultOf, IsCutOff, HasNoFault, IsFirstFormatFault, certificate}

-- the property holds of a fault of the bytes; where the source failed or memory was refused, nothing is said
abbrev pub IfFormat : ReadFault → (FormatFault → Type 0) → Type 0
IfFormat (Format fault) P = P fault
IfFormat Failed P = ⊤
IfFormat (NoMemory refused) P = ⊤

-- whether the fault is a failure of the source
abbrev pub is_failure : ReadFault → Bool
is_failure (Format fault) = false
is_failure Failed = true
is_failure (NoMemory refused) = false

-- ---- bytes that are due

-- fewer than n bytes were taken; and a fault of the bytes is that no more were left
pub record EndsEarly (source : Change SourceState) (n : ℕ) (fault : ReadFault) : Type 0 where
  pub seen : List ℕ
  pub taken : Takes source seen
  pub short : length seen < n
  pub end : IfFormat fault (λ f. (f ≡ Truncated) × IfSome source.before.left (λ input. input ≡ seen))
  pub failed : source.after.has_failed ≡ is_failure fault

-- n bytes are due: they were taken, and are what is answered, or the input ended early
abbrev pub TakesDue : {X : Type 0} → ℕ → (X → List ℕ) → Change SourceState → Result X ReadFault → Type 0
TakesDue n text source (Ok x) = Takes source (text x) × ReadsOn source
TakesDue n text source (Err fault) = EndsEarly source n fault

-- ---- fields

-- bytes that spell the value were taken
pub record Finds {X : Type 0} (IsText : X → List ℕ → Type 0) (source : Change SourceState) (value : X) : Type 0 where
  pub text : List ℕ
  pub spells : IsText value text
  pub taken : Takes source text
  pub on : ReadsOn source

-- The bytes that were taken show the fault, and no fewer do. Where the fault is that they are cut off, they are all of the input. Else the
-- last byte shows it, and the bytes before that one are sound.
pub record IsShown (IsSound : List ℕ → Type 0) (source : Change SourceState) (seen : List ℕ) (fault : FormatFault) : Type 0 where
  pub at_end : fault ≡ Truncated → IfSome source.before.left (λ input. input ≡ seen)
  pub at_byte : fault ≢ Truncated → (before : List ℕ) × (byte : ℕ) × (seen ≡ before ++ byte ∷ []) × IsSound before

-- Where reading stops: where a fault shows. Where the source failed, the bytes that were taken are sound. Where memory was refused, they are cut
-- off, so that more is due.
abbrev pub StopsAt : {X : Type 0} → Reader X → (List ℕ → Type 0) → Change SourceState → List ℕ → ReadFault → Type 0
StopsAt reader IsSound source seen (Format fault) = IsShown IsSound source seen fault
StopsAt reader IsSound source seen Failed = IsSound seen
StopsAt reader IsSound source seen (NoMemory refused) = IsCutOff reader seen

-- Some of the bytes were taken, as far as the fault shows. A fault of the bytes is the first in them, and in all that were left. The fault is
-- a failure exactly where the source has failed.
pub record RefusesAt {X : Type 0} (reader : Reader X) (IsSound : List ℕ → Type 0) (source : Change SourceState) (fault : ReadFault) : Type 0 where
  pub seen : List ℕ
  pub taken : Takes source seen
  pub is : IfFormat fault (λ f. IsFaultOf reader seen f)
  pub first : IfFormat fault (λ f. IfSome source.before.left (λ input. IsFaultOf reader input f))
  pub stops : StopsAt reader IsSound source seen fault
  pub failed : source.after.has_failed ≡ is_failure fault

-- the reader has more to read as long as no fault shows
abbrev pub RefusesInput : {X : Type 0} → Reader X → Change SourceState → ReadFault → Type 0
RefusesInput reader source fault = RefusesAt reader (λ bytes. IsCutOff reader bytes) source fault

-- the reader of a field: it finds a value, or refuses
abbrev pub ReadsField : {X Y : Type 0} → Reader Y → (X → List ℕ → Type 0) → Change SourceState → Result X ReadFault → Type 0
ReadsField reader IsText source (Ok value) = Finds IsText source value
ReadsField reader IsText source (Err fault) = RefusesInput reader source fault

-- ---- the whole input

-- bytes that spell the value were taken, and are all that was left
pub record FindsAll {X : Type 0} (IsText : X → List ℕ → Type 0) (source : Change SourceState) (value : X) : Type 0 where
  pub found : Finds IsText source value
  pub whole : IfSome source.before.left (λ input. input ≡ found.text)

-- the reader may have all that it reads, and looks for the end
abbrev pub RefusesAtEnd : {X : Type 0} → Reader X → Change SourceState → ReadFault → Type 0
RefusesAtEnd reader source fault = RefusesAt reader (λ bytes. HasNoFault reader bytes) source fault

-- the reader of a whole input: it finds a value there, or refuses
abbrev pub ReadsAll : {X Y : Type 0} → Reader Y → (X → List ℕ → Type 0) → Change SourceState → Result X ReadFault → Type 0
ReadsAll reader IsText source (Ok value) = FindsAll IsText source value
ReadsAll reader IsText source (Err fault) = RefusesAtEnd reader source fault

-- ---- a certificate

-- what an answer says of the input: it spells the certificate, or has this first fault; where the source failed or memory was refused, nothing
abbrev pub TellsOfInput : Result CertificateModel ReadFault → List ℕ → Type 0
TellsOfInput (Ok c) input = Spells c input
TellsOfInput (Err fault) input = IfFormat fault (λ f. IsFirstFormatFault input f)

-- this is the result, unless the source failed or memory was refused
abbrev pub AnswersOrLacks : Result CertificateModel ReadFault → Result CertificateModel ReadFault → Type 0
AnswersOrLacks result answer = (result ≡ answer) ⊎ (result ≡ Err Failed) ⊎ ((refused : OutOfMemory) × (result ≡ Err (NoMemory refused)))

-- an input that spells a certificate is answered by it, and one with a first fault by that, unless the source failed or memory was refused
pub record IsAnswerTo (result : Result CertificateModel ReadFault) (input : List ℕ) : Type 0 where
  pub spelled : (c : CertificateModel) → Spells c input → AnswersOrLacks result (Ok c)
  pub faulty : (fault : FormatFault) → IsFirstFormatFault input fault → AnswersOrLacks result (Err (Format fault))

-- No more is taken of the source than shows the fault. A fault of the bytes is their first, and shows with the last byte taken or at the end.
-- Where the source failed, the bytes that were taken have no fault, except that they may be cut off. Where memory was refused, they are cut off.
pub record StopsAtFault (source : Change SourceState) (fault : ReadFault) : Type 0 where
  pub seen : List ℕ
  pub taken : Takes source seen
  pub is : IfFormat fault (λ f. IsFirstFormatFault seen f)
  pub stops : StopsAt certificate (λ bytes. HasNoFault certificate bytes) source seen fault

-- A certificate is read. The answer tells of the input, and it is a failure exactly where the source has failed. No more is taken than the
-- spelling, or than shows the fault.
pub record ReadsCertificate (source : Change SourceState) (result : Result CertificateModel ReadFault) : Type 0 where
  pub tells : IfSome source.before.left (TellsOfInput result)
  pub answer : IfSome source.before.left (IsAnswerTo result)
  pub failed : (result ≡ Err Failed) ↔ (source.after.has_failed ≡ true)
  pub taken : IfOk result (λ c. Takes source (spelling c))
  pub stops : IfErr result (StopsAtFault source)
  pub given : (seen : List ℕ) × Takes source seen
