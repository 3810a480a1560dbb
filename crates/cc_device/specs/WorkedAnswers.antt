-- The device table by example: each operation on each kind of device that answers it, and what has no answer.
use Rattle.std.specs.Prelude.{◌≡◌, ℕ, ℤ, pos, negsuc, true, [], ◌∷◌, Option, Some, None}
use Rattle.cc_base.specs.declared.literal.Op.{Op}
use Rattle.cc_base.specs.declared.literal.Op.TheVariants as operations
use Rattle.cc_base.specs.Literals.{Literal, UnitLiteral, TruthLiteral, NumberLiteral, TextLiteral}
use Rattle.cc_device.specs.Devices.{DeviceState, Console, File, Counter, answer_of, Devices, operate}

-- the greatest number that a literal can be
abbrev pub greatest : ℤ
greatest = pos 9223372036854775807

-- the least number that a literal can be
abbrev pub least : ℤ
least = negsuc 9223372036854775807

-- the device answers with the literal, and is the other one afterwards
abbrev pub Answers : DeviceState → Op → Option Literal → Literal → DeviceState → Type 0
Answers device operation argument literal afterwards =
    answer_of device operation argument ≡ Some (record { literal = literal; device = afterwards })

-- the device does not answer
abbrev pub HasNoAnswer : DeviceState → Op → Option Literal → Type 0
HasNoAnswer device operation argument = answer_of device operation argument ≡ None

-- a number
abbrev pub five : Literal
five = NumberLiteral (pos 5)

-- a text
abbrev pub greeting : Literal
greeting = TextLiteral (104 ∷ 105 ∷ [])

-- A console takes numbers and texts, each as a line after the others.
abbrev pub ConsolesTakeLines : Type 0
ConsolesTakeLines =
    Answers (Console []) operations.Print (Some five) UnitLiteral (Console (five ∷ []))
    × Answers (Console (five ∷ [])) operations.Say (Some greeting) UnitLiteral (Console (five ∷ greeting ∷ []))
    × Answers (Console (greeting ∷ five ∷ [])) operations.Print (Some five) UnitLiteral
    (Console (greeting ∷ five ∷ five ∷ []))

-- a file with two numbers, of which so many are read
abbrev pub file_at : ℕ → DeviceState
file_at place = File (pos 3 ∷ pos 8 ∷ []) place

-- A file gives its numbers one after the other; at the end of the list it gives 0, and stays where it is.
abbrev pub FilesGiveTheirNumbers : Type 0
FilesGiveTheirNumbers =
    Answers (file_at 0) operations.Read None (NumberLiteral (pos 3)) (file_at 1)
    × Answers (file_at 1) operations.Read None (NumberLiteral (pos 8)) (file_at 2)
    × Answers (file_at 2) operations.Read None (NumberLiteral (pos 0)) (file_at 2)
    × Answers (File [] 0) operations.Read None (NumberLiteral (pos 0)) (File [] 0)

-- A file takes numbers at the end of its list, and keeps its place: it can read them later, also after its end.
abbrev pub FilesTakeNumbers : Type 0
FilesTakeNumbers =
    Answers (File [] 0) operations.Write (Some five) UnitLiteral (File (pos 5 ∷ []) 0)
    × Answers (File (pos 3 ∷ []) 1) operations.Write (Some five) UnitLiteral (File (pos 3 ∷ pos 5 ∷ []) 1)
    × Answers (File (pos 3 ∷ pos 5 ∷ []) 1) operations.Read None five (File (pos 3 ∷ pos 5 ∷ []) 2)

-- A counter answers with its count, which rises by one each time, and wraps after the greatest number.
abbrev pub CountersCount : Type 0
CountersCount =
    Answers (Counter (pos 0)) operations.Tick None (NumberLiteral (pos 1)) (Counter (pos 1))
    × Answers (Counter (pos 1)) operations.Tick None (NumberLiteral (pos 2)) (Counter (pos 2))
    × Answers (Counter greatest) operations.Tick None (NumberLiteral least) (Counter least)
    × Answers (Counter (negsuc 0)) operations.Tick None (NumberLiteral (pos 0)) (Counter (pos 0))

-- No device answers an operation of another kind of device.
abbrev pub OtherKindsDoNotAnswer : Type 0
OtherKindsDoNotAnswer =
    HasNoAnswer (File [] 0) operations.Print (Some five)
    × HasNoAnswer (Counter (pos 0)) operations.Print (Some five)
    × HasNoAnswer (File [] 0) operations.Say (Some greeting)
    × HasNoAnswer (Counter (pos 0)) operations.Say (Some greeting)
    × HasNoAnswer (Console []) operations.Read None
    × HasNoAnswer (Counter (pos 0)) operations.Read None
    × HasNoAnswer (Console []) operations.Write (Some five)
    × HasNoAnswer (Counter (pos 0)) operations.Write (Some five)
    × HasNoAnswer (Console []) operations.Tick None
    × HasNoAnswer (File [] 0) operations.Tick None

-- No device answers without the argument that the operation takes, with one of another kind, or with one too many.
abbrev pub OtherArgumentsHaveNoAnswer : Type 0
OtherArgumentsHaveNoAnswer =
    HasNoAnswer (Console []) operations.Print None
    × HasNoAnswer (Console []) operations.Print (Some UnitLiteral)
    × HasNoAnswer (Console []) operations.Print (Some (TruthLiteral true))
    × HasNoAnswer (Console []) operations.Print (Some greeting)
    × HasNoAnswer (Console []) operations.Say None
    × HasNoAnswer (Console []) operations.Say (Some five)
    × HasNoAnswer (File [] 0) operations.Read (Some five)
    × HasNoAnswer (File [] 0) operations.Write None
    × HasNoAnswer (File [] 0) operations.Write (Some greeting)
    × HasNoAnswer (Counter (pos 0)) operations.Tick (Some five)

-- two devices of one kind
abbrev pub two_counters : Devices
two_counters = Counter (pos 4) ∷ Counter (pos 7) ∷ []

-- Of several devices the one of the number answers, and the others stay; a number of no device has no answer.
abbrev pub DevicesAnswerByTheirNumbers : Type 0
DevicesAnswerByTheirNumbers =
    (operate two_counters 0 operations.Tick None
    ≡ Some (record { literal = five; devices = Counter (pos 5) ∷ Counter (pos 7) ∷ [] }))
    × (operate two_counters 1 operations.Tick None
    ≡ Some (record { literal = NumberLiteral (pos 8); devices = Counter (pos 4) ∷ Counter (pos 8) ∷ [] }))
    × (operate two_counters 2 operations.Tick None ≡ None)
