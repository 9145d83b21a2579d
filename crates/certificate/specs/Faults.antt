-- The codes of faults.
use Rattle.std.specs.Prelude.{ℕ, List, codes}
use Rattle.certificate.specs.declared.faults.FormatFault.{FormatFault}
use Rattle.certificate.specs.declared.faults.FormatFault.TheVariants as format
use Rattle.certificate.specs.declared.faults.ReadFault.{ReadFault}
use Rattle.certificate.specs.declared.faults.ReadFault.TheVariants as reading
use Rattle.certificate.specs.declared.faults.WriteFault.{WriteFault}
use Rattle.certificate.specs.declared.faults.WriteFault.TheVariants as writing

-- the code that a fault of the bytes is reported by
abbrev pub format_code : FormatFault → List ℕ
format_code format.OtherMagic = codes "F1"
format_code format.Truncated = codes "F2"
format_code format.OutOfRange = codes "F3"
format_code format.NotRising = codes "F4"
format_code format.BytesAfterEnd = codes "F5"

-- the code that a fault of reading is reported by
abbrev pub read_code : ReadFault → List ℕ
read_code (reading.Format fault) = format_code fault
read_code reading.Failed = codes "F6"
read_code (reading.NoMemory refused) = codes "F7"

-- the code that a fault of writing is reported by
abbrev pub write_code : WriteFault → List ℕ
write_code writing.Failed = codes "F8"
