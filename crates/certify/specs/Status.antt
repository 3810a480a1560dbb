-- How the program ends: its number, and what it says on standard error.
use Rattle.std.specs.Prelude.{ℕ, List, codes, Option, Some, None}
use Rattle.certify.specs.declared.status.Status.{Status}
use Rattle.certify.specs.declared.status.Status.TheVariants.{Valid, Invalid, ReadFault, TooLong, NoMemory, WriteFault, BadWords}

-- the number with which the program ends
abbrev pub number_of : Status → ℕ
number_of Valid = 0
number_of Invalid = 1
number_of ReadFault = 2
number_of TooLong = 2
number_of NoMemory = 2
number_of WriteFault = 2
number_of BadWords = 6

-- what the program says on standard error, before a line feed; nothing where it answered
abbrev pub message_of : Status → Option (List ℕ)
message_of Valid = None
message_of Invalid = None
message_of ReadFault = Some (codes "certify: read fault")
message_of TooLong = Some (codes "certify: certificate too long")
message_of NoMemory = Some (codes "certify: out of memory")
message_of WriteFault = Some (codes "certify: write fault")
message_of BadWords = Some (codes "certify: bad words")
