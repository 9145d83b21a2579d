-- The laws of spellings and readings, and of what is read of a source.
use Rattle.std.specs.Prelude.{ℕ, ◌≡◌, ◌≢◌, ◌⊎◌, ◌<◌, ◌≤◌, ◌^◌, ◌↔◌, List, [], ◌∷◌, ◌++◌, length, Some, Result, Ok, Err, true, codes}
use Rattle.std.specs.List.{AllByRecursion}
use Rattle.certificate.specs.Certificates.{CertificateModel, IsCertificate, upgraded}
use Rattle.certificate.specs.Spellings.{Spells, spelling, heading, announcement}
use Rattle.certificate.specs.Readings.{certificate, IsFaultAt, IsFirstFormatFault, HasNoFault}
use Rattle.certificate.specs.Sources.{ReadsCertificate}
use Rattle.byte_streams.specs.Streams.{SourceState, Change}
use Rattle.certificate.specs.declared.certificate.Version.TheVariants.{One, Two}
use Rattle.certificate.specs.declared.faults.FormatFault.{FormatFault}
use Rattle.certificate.specs.declared.faults.FormatFault.TheVariants.{Truncated}
use Rattle.certificate.specs.declared.faults.ReadFault.{ReadFault}
use Rattle.certificate.specs.declared.faults.ReadFault.TheVariants.{Format, Failed, NoMemory}

-- the numbers are bytes
abbrev pub AreBytes : List ℕ → Type 0
AreBytes bytes = AllByRecursion (λ b. b < 2 ^ 8) bytes

-- a certificate is read exactly where the bytes spell it
abbrev pub ReadingIsSpelling : Type 0
ReadingIsSpelling = (bytes : List ℕ) → AreBytes bytes → (c : CertificateModel) → (certificate bytes ≡ Ok (c, [])) ↔ Spells c bytes

-- bytes spell a certificate or have a first fault
abbrev pub SpelledOrFaulty : Type 0
SpelledOrFaulty = (bytes : List ℕ) → AreBytes bytes → ((c : CertificateModel) × Spells c bytes) ⊎ ((fault : FormatFault) × IsFirstFormatFault bytes fault)

-- and not both
abbrev pub NotBoth : Type 0
NotBoth = (bytes : List ℕ) (c : CertificateModel) (fault : FormatFault) → Spells c bytes → ¬ IsFirstFormatFault bytes fault

-- bytes have one first fault
abbrev pub OneFirstFault : Type 0
OneFirstFault = (bytes : List ℕ) (fault fault' : FormatFault) → IsFirstFormatFault bytes fault → IsFirstFormatFault bytes fault' → fault' ≡ fault

-- bytes have no fault, except that they may be cut off, exactly where they spell a certificate or are cut off
abbrev pub FaultlessIsSpelledOrCutOff : Type 0
FaultlessIsSpelledOrCutOff = (bytes : List ℕ) → AreBytes bytes → HasNoFault certificate bytes ↔ (((c : CertificateModel) × Spells c bytes) ⊎ IsFirstFormatFault bytes Truncated)

-- one text begins with the other
abbrev pub Begins : List ℕ → List ℕ → Type 0
Begins text before = (after : List ℕ) × (text ≡ before ++ after)

-- the bytes before a faulty group are the heading of a certificate that announces more groups than it has; where the tiles are faulty, their
-- number follows
pub record AnnouncesGroups (c : CertificateModel) (before : List ℕ) : Type 0 where
  pub count : ℕ
  pub more : length c.groups.groups < count
  pub few : count ≤ 24
  pub is : (before ≡ heading count c) ⊎ ((size : ℕ) × (0 < size) × (size ≤ 24) × (before ≡ heading count c ++ size ∷ []))

-- the bytes before a faulty row are a spelling that announces more rows than it has
pub record AnnouncesRows (c : CertificateModel) (before : List ℕ) : Type 0 where
  pub count : ℕ
  pub more : length c.rows < count
  pub few : count < 2 ^ 64
  pub is : before ≡ announcement count c

-- The bytes before the faulty field begin some spelling, or announce more groups or rows than are there.
abbrev pub FaultsComeFirst : Type 0
FaultsComeFirst =
    (bytes : List ℕ) (fault : FormatFault) (from : List ℕ) → AreBytes bytes → IsFaultAt bytes fault from
    → (before : List ℕ) × (c : CertificateModel) × (bytes ≡ before ++ from) × IsCertificate c × (Begins (spelling c) before ⊎ AnnouncesGroups c before ⊎ AnnouncesRows c before)

-- what begins a spelling has no fault, except that it may be cut off
abbrev pub BeginningsHaveNoFault : Type 0
BeginningsHaveNoFault = (c : CertificateModel) (bytes : List ℕ) → IsCertificate c → Begins (spelling c) bytes → HasNoFault certificate bytes

-- what announces more groups or rows than are there is cut off, and has no other fault
abbrev pub AnnouncementsAreCutOff : Type 0
AnnouncementsAreCutOff = (c : CertificateModel) (bytes : List ℕ) → IsCertificate c → AnnouncesGroups c bytes ⊎ AnnouncesRows c bytes → IsFirstFormatFault bytes Truncated

-- no spelling begins another one
abbrev pub NoneBeginsAnother : Type 0
NoneBeginsAnother = (c d : CertificateModel) (bytes more : List ℕ) → Spells c bytes → Spells d (bytes ++ more) → (more ≡ []) × (d ≡ c)

-- a spelling is of one certificate
abbrev pub OneCertificate : Type 0
OneCertificate = (c d : CertificateModel) (bytes : List ℕ) → Spells c bytes → Spells d bytes → d ≡ c

-- a certificate has one spelling
abbrev pub OneSpelling : Type 0
OneSpelling = (c : CertificateModel) (bytes bytes' : List ℕ) → Spells c bytes → Spells c bytes' → bytes' ≡ bytes

-- What an answer says of the bytes that were taken. They spell the certificate, or have this first fault. Where the source failed they have
-- none, except that they may be cut off, and where memory was refused they are cut off.
abbrev pub TellsOfBytes : Result CertificateModel ReadFault → List ℕ → Type 0
TellsOfBytes (Ok c) bytes = Spells c bytes
TellsOfBytes (Err (Format fault)) bytes = IsFirstFormatFault bytes fault
TellsOfBytes (Err Failed) bytes = HasNoFault certificate bytes
TellsOfBytes (Err (NoMemory refused)) bytes = IsFirstFormatFault bytes Truncated

-- where the bytes before and after are known, the answer tells of those between
abbrev pub AnswersTellOfBytes : Type 0
AnswersTellOfBytes =
    (source : Change SourceState) (result : Result CertificateModel ReadFault) (bytes left : List ℕ)
    → source.before.left ≡ Some (bytes ++ left)
    → source.after.left ≡ Some left
    → ReadsCertificate source result
    → TellsOfBytes result bytes

-- A fault shows with the last byte that was taken. Bytes that are cut off are all that were left. For another fault, the bytes before the last
-- one have no fault, except that they may be cut off.
abbrev pub FaultsShowLast : Type 0
FaultsShowLast =
    (source : Change SourceState) (fault : FormatFault) (bytes left : List ℕ)
    → source.before.left ≡ Some (bytes ++ left)
    → source.after.left ≡ Some left
    → ReadsCertificate source (Err (Format fault))
    → ((fault ≡ Truncated) × (left ≡ [])) ⊎ ((fault ≢ Truncated) × ((before : List ℕ) × (byte : ℕ) × (bytes ≡ before ++ byte ∷ []) × HasNoFault certificate before))

-- the answer is that reading failed exactly where the source has failed
abbrev pub FailuresAreOfTheSource : Type 0
FailuresAreOfTheSource =
    (source : Change SourceState) (result : Result CertificateModel ReadFault) → ReadsCertificate source result → (result ≡ Err Failed) ↔ (source.after.has_failed ≡ true)

-- An upgraded certificate has a spelling. From version 1 on the magic changes, a 0 follows it for the plan, and all other bytes stay. A
-- certificate of version 2 stays as it is.
abbrev pub UpgradesKeepTheRest : Type 0
UpgradesKeepTheRest =
    (c : CertificateModel)
    → IsCertificate c
    → IsCertificate (upgraded c)
    × (c.version ≡ One → (rest : List ℕ) × (spelling c ≡ codes "TILECRT1" ++ rest) × (spelling (upgraded c) ≡ codes "TILECRT2" ++ 0 ∷ rest))
    × (c.version ≡ Two → upgraded c ≡ c)
