-- Why a run of any kind ends early.
use Rattle.std.specs.Prelude.{ℕ, List, codes}
use Rattle.batch_runs.specs.declared.faults.LinesFault.{LinesFault}
use Rattle.batch_runs.specs.declared.faults.LinesFault.TheVariants as lines
use Rattle.certificate_runs.specs.declared.faults.CertifyFault.{CertifyFault}
use Rattle.certificate_runs.specs.declared.faults.CertifyFault.TheVariants as certify
use Rattle.certificate_runs.specs.declared.faults.CheckFault.{CheckFault}
use Rattle.certificate_runs.specs.declared.faults.CheckFault.TheVariants as check
use Rattle.certificate_runs.specs.declared.faults.UpgradeFault.{UpgradeFault}
use Rattle.certificate_runs.specs.declared.faults.UpgradeFault.TheVariants as upgrade
use Rattle.batch_cli.specs.declared.faults.BatchFault.{BatchFault}
use Rattle.batch_cli.specs.declared.faults.BatchFault.TheVariants.{Read, Write, Memory, GroupsMemory, CertificateRead, CertificateMemory, CertificateWrite}

-- the code that a fault is reported by
abbrev pub batch_code : BatchFault → List ℕ
batch_code Read = codes "B1"
batch_code Write = codes "B2"
batch_code (Memory lacking) = codes "B3"
batch_code (GroupsMemory wanting) = codes "B3"
batch_code CertificateRead = codes "F6"
batch_code (CertificateMemory refused) = codes "F7"
batch_code CertificateWrite = codes "F8"

-- the same fault, of a run over lines
abbrev pub of_lines : LinesFault → BatchFault
of_lines lines.Read = Read
of_lines lines.Write = Write
of_lines (lines.Memory lacking) = Memory lacking

-- of a run that writes a certificate
abbrev pub of_certify : CertifyFault → BatchFault
of_certify certify.Read = Read
of_certify certify.Write = Write
of_certify (certify.Memory lacking) = Memory lacking
of_certify (certify.GroupsMemory wanting) = GroupsMemory wanting
of_certify certify.CertificateWrite = CertificateWrite

-- of a run that checks one
abbrev pub of_check : CheckFault → BatchFault
of_check check.CertificateRead = CertificateRead
of_check (check.CertificateMemory refused) = CertificateMemory refused
of_check check.Write = Write
of_check (check.Memory lacking) = Memory lacking

-- of a run that upgrades one
abbrev pub of_upgrade : UpgradeFault → BatchFault
of_upgrade upgrade.CertificateRead = CertificateRead
of_upgrade (upgrade.CertificateMemory refused) = CertificateMemory refused
of_upgrade upgrade.CertificateWrite = CertificateWrite
