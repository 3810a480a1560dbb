-- Devices: their states, and what an operation does to one.
use Rattle.std.specs.Prelude.{ℕ, suc, ℤ, pos, ◌+ℤ◌, List, [], ◌∷◌, ◌++◌, Option, Some, None, slice_get, slice_set}
use Rattle.std.specs.Option.{option_map}
use Rattle.std.specs.Int.{w64, int_wrap}
use Rattle.cc_base.specs.declared.literal.Base.{Base}
use Rattle.cc_base.specs.declared.literal.Base.TheVariants as bases
use Rattle.cc_base.specs.declared.literal.Op.{Op}
use Rattle.cc_base.specs.declared.literal.Op.TheVariants as operations
use Rattle.cc_base.specs.Literals.{Literal, UnitLiteral, NumberLiteral, TextLiteral}

-- a console with its lines, a file with its numbers and the place of the next one to read, or a counter with its count
pub data DeviceState : Type 0 where
  Console : (lines : List Literal) → DeviceState
  File : (numbers : List ℤ) (place : ℕ) → DeviceState
  Counter : (count : ℤ) → DeviceState

-- the base shape of a device
abbrev pub base_of_device : DeviceState → Base
base_of_device (Console lines) = bases.Console
base_of_device (File numbers place) = bases.File
base_of_device (Counter count) = bases.Counter

-- an answer of a device, with the device as it is afterwards
pub record Answer : Type 0 where
  pub literal : Literal
  pub device : DeviceState

-- the answer of the literal, which leaves the device so
abbrev pub answering : Literal → DeviceState → Option Answer
answering literal device = Some (record { literal = literal; device = device })

-- the line stands after the console's lines
abbrev pub append_line : DeviceState → Literal → Option Answer
append_line (Console lines) line = answering UnitLiteral (Console (lines ++ line ∷ []))
append_line (File numbers place) line = None
append_line (Counter count) line = None

-- a number is taken as a line, and nothing else is
abbrev pub print_number : DeviceState → Option Literal → Option Answer
print_number device (Some (NumberLiteral number)) = append_line device (NumberLiteral number)
print_number device _ = None

-- a text is taken as a line, and nothing else is
abbrev pub say_text : DeviceState → Option Literal → Option Answer
say_text device (Some (TextLiteral text)) = append_line device (TextLiteral text)
say_text device _ = None

-- the number at the place is read and the place moves by one; at the end of the list 0 is read and it stays
abbrev pub read_at : List ℤ → ℕ → Option ℤ → Option Answer
read_at numbers place (Some number) = answering (NumberLiteral number) (File numbers (suc place))
read_at numbers place None = answering (NumberLiteral (pos 0)) (File numbers place)

-- a file is read without an argument
abbrev pub read_number : DeviceState → Option Literal → Option Answer
read_number (File numbers place) None = read_at numbers place (slice_get numbers place)
read_number _ _ = None

-- the number stands after the file's numbers
abbrev pub write_number : DeviceState → Option Literal → Option Answer
write_number (File numbers place) (Some (NumberLiteral number)) =
    answering UnitLiteral (File (numbers ++ number ∷ []) place)
write_number _ _ = None

-- the count rises by one and wraps, and is the answer
abbrev pub tick_count : DeviceState → Option Literal → Option Answer
tick_count (Counter count) None =
    answering (NumberLiteral (int_wrap w64 (count +ℤ pos 1))) (Counter (int_wrap w64 (count +ℤ pos 1)))
tick_count _ _ = None

-- The device table: what a device answers to an operation with its argument, and the device afterwards. There is no
-- answer where the device is not of the operation's kind or the argument is not what the operation takes.
abbrev pub answer_of : DeviceState → Op → Option Literal → Option Answer
answer_of device operations.Print argument = print_number device argument
answer_of device operations.Say argument = say_text device argument
answer_of device operations.Read argument = read_number device argument
answer_of device operations.Write argument = write_number device argument
answer_of device operations.Tick argument = tick_count device argument

-- the devices of a run, by their numbers
abbrev pub Devices : Type 0
Devices = List DeviceState

-- an answer of one of several devices, with all of them as they are afterwards
pub record Reply : Type 0 where
  pub literal : Literal
  pub devices : Devices

-- the answer of the device of the number, with that device in its place among all
abbrev pub replying : Devices → ℕ → Answer → Reply
replying devices number answer = record { literal = answer.literal; devices = slice_set devices number answer.device }

-- the reply of the device that stands at the number, if one does
abbrev pub reply_of : Devices → ℕ → Op → Option Literal → Option DeviceState → Option Reply
reply_of devices number operation argument (Some device) =
    option_map (replying devices number) (answer_of device operation argument)
reply_of devices number operation argument None = None

-- what the device of the number answers
abbrev pub operate : Devices → ℕ → Op → Option Literal → Option Reply
operate devices number operation argument = reply_of devices number operation argument (slice_get devices number)
