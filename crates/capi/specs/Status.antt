-- How the program ends: its number, and what it says on standard error.
use Rattle.std.specs.Prelude.{ℕ, List, ◌++◌, codes, Option, Some, None}
use Rattle.std.specs.Fmt.{decimal}
use Rattle.cc_conversation.specs.declared.conversing.Ended.{Ended}
use Rattle.cc_conversation.specs.declared.conversing.Ended.TheVariants as endings
use Rattle.capi.specs.declared.status.Status.{Status}
use Rattle.capi.specs.declared.status.Status.TheVariants.{Clean, Refusals, BadLine, ReadFault, WriteFault, NoMemory, BadWords, TooLong}

-- how the program ends where a conversation ended so
abbrev pub status_of : Ended → Status
status_of endings.Clean = Clean
status_of endings.Refusals = Refusals
status_of (endings.BadLine number) = BadLine number
status_of endings.TooLong = TooLong
status_of endings.ReadFault = ReadFault
status_of endings.WriteFault = WriteFault
status_of endings.NoMemory = NoMemory

-- the number with which the program ends
abbrev pub number_of : Status → ℕ
number_of Clean = 0
number_of Refusals = 1
number_of (BadLine number) = 2
number_of ReadFault = 3
number_of WriteFault = 4
number_of NoMemory = 5
number_of BadWords = 6
number_of TooLong = 7

-- what the program says on standard error, before a line feed; nothing where the conversation came to its end
abbrev pub message_of : Status → Option (List ℕ)
message_of Clean = None
message_of Refusals = None
message_of (BadLine number) = Some (codes "capi: bad job at line " ++ decimal number)
message_of ReadFault = Some (codes "capi: read fault")
message_of WriteFault = Some (codes "capi: write fault")
message_of NoMemory = Some (codes "capi: out of memory")
message_of BadWords = Some (codes "capi: bad words")
message_of TooLong = Some (codes "capi: job too long")
