-- Declared devices have their shapes.
use Rattle.std.proofs.Common.{◌≡◌, List, [], ◌∷◌, map, refl}
use Rattle.cc_base.specs.declared.device.DeviceDecl.{DeviceDecl}
use Rattle.cc_base.specs.declared.device.Kind.{Kind}
use Rattle.cc_base.specs.declared.device.Kind.TheVariants as kinds
use Rattle.cc_device.specs.Declarations.{declared_state, declared_base, declared_devices, declared_bases}
use Rattle.cc_device.specs.Devices.{base_of_device}

-- a declared device is of the shape that it is declared with
pub declared_shape : (kind : Kind) → base_of_device (declared_state kind) ≡ declared_base kind
declared_shape kinds.Console = refl
declared_shape (kinds.File numbers) = refl
declared_shape kinds.Counter = refl

pub declared_shapes : (decls : List DeviceDecl) → map base_of_device (declared_devices decls) ≡ declared_bases decls
declared_shapes [] = refl
declared_shapes (d ∷ decls) = λ i. declared_shape d.kind i ∷ declared_shapes decls i
