-- How the program ends: its number, and what it says on standard error.
use Rattle.std.specs.Prelude.{ℕ, ◌++◌, List, codes, Option, Some, None}
use Rattle.std.specs.Fmt.{decimal}
use Rattle.cc_program.specs.declared.status.Status.{Status}
use Rattle.cc_program.specs.declared.status.Status.TheVariants.{Clean, Refusals, BadJob, ReadFault, WriteFault}
use Rattle.cc_program.specs.declared.status.Status.TheVariants.{NoMemory, BadWords, TooLong}

-- the number with which the program ends
abbrev pub number_of : Status → ℕ
number_of Clean = 0
number_of Refusals = 1
number_of (BadJob line) = 2
number_of ReadFault = 3
number_of WriteFault = 4
number_of NoMemory = 5
number_of BadWords = 6
number_of TooLong = 7

-- what the program says on standard error, before a line feed; nothing where the job was carried out
abbrev pub message_of : Status → Option (List ℕ)
message_of Clean = None
message_of Refusals = None
message_of (BadJob line) = Some (codes "capc: bad job at line " ++ decimal line)
message_of ReadFault = Some (codes "capc: read fault")
message_of WriteFault = Some (codes "capc: write fault")
message_of NoMemory = Some (codes "capc: out of memory")
message_of BadWords = Some (codes "capc: bad words")
message_of TooLong = Some (codes "capc: job too long")
