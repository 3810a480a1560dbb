-- What is said of worked texts: that a text is refused with a code at a place, or accepted with these signatures.
use Rattle.std.specs.Prelude.{◌≡◌, ℕ, zero, suc, codes, List, [], ◌∷◌, ◌++◌, map, replicate, encode_utf8_all}
use Rattle.std.specs.List.{flat_map}
use Rattle.cc_base.specs.declared.code.Code.{Code}
use Rattle.cc_base.specs.declared.device.DeviceDecl.{DeviceDecl}
use Rattle.cc_base.specs.declared.device.Kind.TheVariants as kinds
use Rattle.cc_base.specs.declared.literal.Base.TheVariants as bases
use Rattle.cc_base.specs.declared.place.Place.{Place}
use Rattle.cc_capture.specs.declared.var.Var.TheVariants.{Free}
use Rattle.cc_capture.specs.declared.var.Elem.TheVariants.{Var as Variable}
use Rattle.cc_capture.specs.Sets.{empty}
use Rattle.cc_core.specs.Shapes.{BaseShape, FunctionShape, capturing}
use Rattle.cc_core.specs.Substitution.{single}
use Rattle.cc_mnf.specs.ElaboratedModules.{device_names}
use Rattle.cc_print.specs.TypeTexts.{type_text}
use Rattle.cc_verdicts.specs.ModuleVerdicts.{CheckedDefinition, Finding, FoundDefinition, HasModuleVerdict}
use Rattle.cc_verdicts.specs.ModuleVerdicts.{IsAccepted, IsRefused}

-- the devices beside which each text stands
abbrev pub devices : List DeviceDecl
devices =
    record { name = codes "out"; kind = kinds.Console } ∷ record { name = codes "hits"; kind = kinds.Counter } ∷ []

-- the place in the line and the column
abbrev pub place : ℕ → ℕ → Place
place line column = record { line = line; col = column }

-- a text so many times
abbrev pub repeated : ℕ → List ℕ → List ℕ
repeated count text = flat_map (λ once. once) (replicate count text)

-- a tower of so many levels: functions that take and give the tower below, down to this shape
abbrev pub tower : ℕ → List ℕ → List ℕ
tower zero shape = shape
tower (suc levels) shape = codes "(a: " ++ tower levels shape ++ codes ") -> " ++ tower levels shape

-- a text of these lines, each of which is ended
abbrev pub lines : List (List ℕ) → List ℕ
lines = flat_map (λ line. line ++ 10 ∷ [])

-- for an import a definition is found that is a number
abbrev pub number_found : Finding
number_found = FoundDefinition (capturing (BaseShape bases.Int) empty)

-- one that is a function, which prints a number
abbrev pub printer_found : Finding
printer_found =
    FoundDefinition
    (capturing (FunctionShape (BaseShape bases.Int) empty (BaseShape bases.Unit) empty) (single (Variable (Free 0))))

-- the text, for whose imports this is found, is refused with this code at this place
abbrev pub RefusesWith : List Finding → List ℕ → Code → Place → Type 0
RefusesWith findings text code at = HasModuleVerdict devices text findings (IsRefused code at)

-- the text, which imports nothing, is refused with this code at this place
abbrev pub Refuses : List ℕ → Code → Place → Type 0
Refuses = RefusesWith []

-- a definition's name, and the type that others see
abbrev pub signature_text : CheckedDefinition → List ℕ
signature_text it = encode_utf8_all it.name ++ codes ": " ++ type_text (device_names devices) 0 it.accepted.signature

-- the text, for whose imports this is found, is accepted, and its definitions have these signatures, in order
abbrev pub AcceptsWith : List Finding → List ℕ → List (List ℕ) → Type 0
AcceptsWith findings text signatures =
    (definitions : List CheckedDefinition)
    × HasModuleVerdict devices text findings (IsAccepted definitions)
    × (map signature_text definitions ≡ signatures)

-- the text, which imports nothing, is accepted, and its definitions have these signatures
abbrev pub Accepts : List ℕ → List (List ℕ) → Type 0
Accepts = AcceptsWith []
