-- What an operation leaves as it was.
use Rattle.std.specs.Prelude.{◌≡◌, ◌≢◌, ℕ, length, Option, Some, slice_get}
use Rattle.std.specs.Option.{option_map}
use Rattle.cc_base.specs.declared.literal.Op.{Op}
use Rattle.cc_base.specs.Literals.{Literal}
use Rattle.cc_device.specs.Devices.{DeviceState, base_of_device, Answer, answer_of, Devices, Reply, operate}

-- a device that answers keeps its shape
abbrev pub DevicesKeepTheirShape : Type 0
DevicesKeepTheirShape =
    (device : DeviceState) (operation : Op) (argument : Option Literal) (answer : Answer)
    → answer_of device operation argument ≡ Some answer
    → base_of_device answer.device ≡ base_of_device device

-- where an operation is answered, its device is there and answers it, and stands in its place as it is afterwards
abbrev pub OperatedDevicesAnswer : Type 0
OperatedDevicesAnswer =
    (devices : Devices) (number : ℕ) (operation : Op) (argument : Option Literal) (reply : Reply)
    → operate devices number operation argument ≡ Some reply
    → (device : DeviceState) × (answer : Answer)
    × (slice_get devices number ≡ Some device)
    × (answer_of device operation argument ≡ Some answer)
    × (reply.literal ≡ answer.literal)
    × (slice_get reply.devices number ≡ Some answer.device)

-- all other devices are as before
abbrev pub OtherDevicesStay : Type 0
OtherDevicesStay =
    (devices : Devices) (number : ℕ) (operation : Op) (argument : Option Literal) (reply : Reply)
    → operate devices number operation argument ≡ Some reply
    → (other : ℕ) → other ≢ number
    → slice_get reply.devices other ≡ slice_get devices other

-- at each number there is a device of the same shape as before, or none as before
abbrev pub ShapesOfDevicesStay : Type 0
ShapesOfDevicesStay =
    (devices : Devices) (number : ℕ) (operation : Op) (argument : Option Literal) (reply : Reply)
    → operate devices number operation argument ≡ Some reply
    → (each : ℕ)
    → option_map base_of_device (slice_get reply.devices each) ≡ option_map base_of_device (slice_get devices each)

-- there are as many devices as before
abbrev pub NumberOfDevicesStays : Type 0
NumberOfDevicesStays =
    (devices : Devices) (number : ℕ) (operation : Op) (argument : Option Literal) (reply : Reply)
    → operate devices number operation argument ≡ Some reply
    → length reply.devices ≡ length devices
