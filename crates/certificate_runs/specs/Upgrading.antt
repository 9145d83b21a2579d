-- What is written of a certificate that is upgraded, and the status of that.
use Rattle.std.specs.Prelude.{ℕ, ◌≡◌, Result, Ok, Err}
use Rattle.byte_streams.specs.Streams.{SourceState, SinkState, Change}
use Rattle.byte_streams.specs.Sink.{WritesAll, FailsWriting}
use Rattle.certificate.specs.declared.faults.ReadFault.{ReadFault}
use Rattle.certificate.specs.declared.faults.ReadFault.TheVariants.{Format, Failed, NoMemory}
use Rattle.certificate.specs.Certificates.{CertificateModel, upgraded}
use Rattle.certificate.specs.Spellings.{spelling}
use Rattle.certificate.specs.Sources.{ReadsCertificate}
use Rattle.certificate_runs.specs.Outputs.{IsUntouched}
use Rattle.certificate_runs.specs.declared.faults.UpgradeFault.{UpgradeFault}
use Rattle.certificate_runs.specs.declared.faults.UpgradeFault.TheVariants.{CertificateRead, CertificateMemory, CertificateWrite}

-- the spelling of a certificate in version 2 is written, with the status 0; or writing failed, and a beginning of it is written
abbrev pub PutsUpgrade : CertificateModel → Change SinkState → Result ℕ UpgradeFault → Type 0
PutsUpgrade c sink (Ok status) = WritesAll sink (spelling (upgraded c)) × (status ≡ 0)
PutsUpgrade c sink (Err fault) = FailsWriting sink (spelling (upgraded c)) × (fault ≡ CertificateWrite)

-- How the run ends after this was read. A certificate is upgraded. For a fault of the bytes nothing is written, with the status 5. Nothing is
-- written where the source failed or memory was refused.
abbrev pub EndsUpgrade : Result CertificateModel ReadFault → Change SinkState → Result ℕ UpgradeFault → Type 0
EndsUpgrade (Ok c) sink result = PutsUpgrade c sink result
EndsUpgrade (Err (Format fault)) sink result = IsUntouched sink × (result ≡ Ok 5)
EndsUpgrade (Err Failed) sink result = IsUntouched sink × (result ≡ Err CertificateRead)
EndsUpgrade (Err (NoMemory refused)) sink result = IsUntouched sink × (result ≡ Err (CertificateMemory refused))

-- a certificate is read of the source, and the run ends so
abbrev pub Upgrades : Change SourceState → Change SinkState → Result ℕ UpgradeFault → Type 0
Upgrades source sink result = (read : Result CertificateModel ReadFault) × ReadsCertificate source read × EndsUpgrade read sink result
