-- What a call on devices answers, where it tells the absence of an answer by `None` or by `false`.
use Rattle.std.specs.Prelude.{◌≡◌, Bool, true, false, Option, Some, None}
use Rattle.cc_base.specs.declared.literal.Op.{Op}
use Rattle.cc_base.specs.declared.literal.Op.TheVariants as operations
use Rattle.cc_base.specs.Literals.{Literal, UnitLiteral}
use Rattle.cc_device.specs.Devices.{DeviceState, Answer, answering, Devices, Reply}

-- unit, or nothing
abbrev pub unit_if : Bool → Option Literal
unit_if true = Some UnitLiteral
unit_if false = None

-- The call answers as the device table does for one device, and the device is afterwards as the table says. Where the
-- table has no answer, it is as before.
abbrev pub AnswersAs : Option Answer → Option Literal → DeviceState → DeviceState → Type 0
AnswersAs answer None before after = (answer ≡ None) × (after ≡ before)
AnswersAs answer (Some literal) before after = answer ≡ answering literal after

-- The same of one of several devices.
abbrev pub RepliesAs : Option Reply → Option Literal → Devices → Devices → Type 0
RepliesAs reply None before after = (reply ≡ None) × (after ≡ before)
RepliesAs reply (Some literal) before after = reply ≡ Some (record { literal = literal; devices = after })

-- the operations that take no memory
abbrev pub TakesNoMemory : Op → Type 0
TakesNoMemory operations.Print = ⊥
TakesNoMemory operations.Say = ⊥
TakesNoMemory operations.Read = Unit {0}
TakesNoMemory operations.Write = ⊥
TakesNoMemory operations.Tick = Unit {0}
