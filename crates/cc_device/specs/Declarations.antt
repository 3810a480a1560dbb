-- What declared devices are, and how they begin.
use Rattle.std.specs.Prelude.{pos, List, [], map}
use Rattle.cc_base.specs.declared.literal.Base.{Base}
use Rattle.cc_base.specs.declared.literal.Base.TheVariants as bases
use Rattle.cc_base.specs.declared.device.DeviceDecl.{DeviceDecl}
use Rattle.cc_base.specs.declared.device.Kind.{Kind}
use Rattle.cc_base.specs.declared.device.Kind.TheVariants as kinds
use Rattle.cc_device.specs.Devices.{DeviceState, Console, File, Counter, Devices}

-- the state that a device of the kind begins with
abbrev pub declared_state : Kind → DeviceState
declared_state kinds.Console = Console []
declared_state (kinds.File numbers) = File numbers 0
declared_state kinds.Counter = Counter (pos 0)

-- the base shape of a device of the kind
abbrev pub declared_base : Kind → Base
declared_base kinds.Console = bases.Console
declared_base (kinds.File numbers) = bases.File
declared_base kinds.Counter = bases.Counter

-- declared devices, as they begin
abbrev pub declared_devices : List DeviceDecl → Devices
declared_devices declared = map (λ device. declared_state device.kind) declared

-- the base shapes of declared devices
abbrev pub declared_bases : List DeviceDecl → List Base
declared_bases declared = map (λ device. declared_base device.kind) declared
