-- Why a run that writes, checks or upgrades a certificate ends early.
use Rattle.std.specs.Prelude.{ℕ, ◌≡◌, ◌≢◌, List, codes}
use Rattle.memory.specs.declared.OutOfMemory.{OutOfMemory}
use Rattle.batch_runs.specs.declared.report.NoReport.{NoReport}
use Rattle.certificate_runs.specs.declared.faults.CertifyFault.{CertifyFault}
use Rattle.certificate_runs.specs.declared.faults.CheckFault.{CheckFault}
use Rattle.certificate_runs.specs.declared.faults.CertifyFault.TheVariants.{Read, Write, Memory, GroupsMemory, CertificateWrite}
use Rattle.certificate_runs.specs.declared.faults.CheckFault.TheVariants as check
use Rattle.certificate_runs.specs.declared.faults.UpgradeFault.{UpgradeFault}
use Rattle.certificate_runs.specs.declared.faults.UpgradeFault.TheVariants as upgrade

-- the code that a fault is reported by
abbrev pub certify_code : CertifyFault → List ℕ
certify_code Read = codes "B1"
certify_code Write = codes "B2"
certify_code (Memory lacking) = codes "B3"
certify_code (GroupsMemory wanting) = codes "B3"
certify_code CertificateWrite = codes "F8"

abbrev pub check_code : CheckFault → List ℕ
check_code check.CertificateRead = codes "F6"
check_code (check.CertificateMemory refused) = codes "F7"
check_code check.Write = codes "B2"
check_code (check.Memory lacking) = codes "B3"

abbrev pub upgrade_code : UpgradeFault → List ℕ
upgrade_code upgrade.CertificateRead = codes "F6"
upgrade_code (upgrade.CertificateMemory refused) = codes "F7"
upgrade_code upgrade.CertificateWrite = codes "F8"

-- a run that answers a line has one code for refused memory, and others for an input that can't be read, and for a report and a certificate that
-- can't be written
abbrev pub CertifyCodesDiffer : Type 0
CertifyCodesDiffer =
    (lacking : NoReport) (wanting : OutOfMemory)
    → (certify_code (GroupsMemory wanting) ≡ certify_code (Memory lacking))
    × (certify_code Read ≢ certify_code Write)
    × (certify_code Read ≢ certify_code (Memory lacking))
    × (certify_code Read ≢ certify_code CertificateWrite)
    × (certify_code Write ≢ certify_code (Memory lacking))
    × (certify_code Write ≢ certify_code CertificateWrite)
    × (certify_code (Memory lacking) ≢ certify_code CertificateWrite)

-- one that checks or draws a certificate has another code for each fault
abbrev pub CheckCodesDiffer : Type 0
CheckCodesDiffer =
    (refused : OutOfMemory) (lacking : NoReport)
    → (check_code check.CertificateRead ≢ check_code (check.CertificateMemory refused))
    × (check_code check.CertificateRead ≢ check_code check.Write)
    × (check_code check.CertificateRead ≢ check_code (check.Memory lacking))
    × (check_code (check.CertificateMemory refused) ≢ check_code check.Write)
    × (check_code (check.CertificateMemory refused) ≢ check_code (check.Memory lacking))
    × (check_code check.Write ≢ check_code (check.Memory lacking))

-- and so has one that upgrades a certificate
abbrev pub UpgradeCodesDiffer : Type 0
UpgradeCodesDiffer =
    (refused : OutOfMemory)
    → (upgrade_code upgrade.CertificateRead ≢ upgrade_code (upgrade.CertificateMemory refused))
    × (upgrade_code upgrade.CertificateRead ≢ upgrade_code upgrade.CertificateWrite)
    × (upgrade_code (upgrade.CertificateMemory refused) ≢ upgrade_code upgrade.CertificateWrite)
