-- Rules that bind each linked module: of the devices that its own text names it is allowed each.
use Rattle.std.specs.Prelude.{ℕ, ◌+◌, ◌<◌, Bool, true, ◌&&◌, not, List, [], ◌∷◌, find, length, Option, Some, None}
use Rattle.std.specs.Prelude.{is_some, IsTrue, if◌then◌else◌}
use Rattle.std.specs.List.{AllByRecursion, list_any, range_with_len}
use Rattle.std.specs.Str.{bytes_eq}
use Rattle.cc_binding.specs.NamedDevices.{module_names}
use Rattle.cc_entry_laws.specs.PresentEntries.{CheckedModule, CheckedEntry}
use Rattle.cc_policy.specs.declared.policy.Rule.{Rule}
use Rattle.cc_replies.specs.PolicyReplies.{Allows, decision_for}
use Rattle.cc_verdicts.specs.PresentTexts.{Texts, text_of}

-- The module keeps the rules, where so many devices are declared, with these names: each device that it names it is
-- allowed.
abbrev pub KeepsRules : List (List ℕ) → List Rule → ℕ → CheckedModule → Type 0
KeepsRules names rules count current =
    (device : ℕ) → device < count → IsTrue (module_names device current) → Allows names rules current.name device

-- The rules bind all modules of the entry: each of them keeps them.
abbrev pub BindsAll : List (List ℕ) → List Rule → CheckedEntry → Type 0
BindsAll names rules entry = AllByRecursion (KeepsRules names rules (length entry.devices)) entry.modules

-- whether the module names the device and is not allowed it
abbrev pub is_beyond : List (List ℕ) → List Rule → CheckedModule → ℕ → Bool
is_beyond names rules current device =
    module_names device current && not (decision_for names rules current.name device).allow

-- the first device, of so many, that the module names and is not allowed
abbrev pub first_device_beyond : List (List ℕ) → List Rule → ℕ → CheckedModule → Option ℕ
first_device_beyond names rules count current = find (is_beyond names rules current) (range_with_len 0 count)

-- the module of the name with its device, if there is one, or else what is found behind it
abbrev pub beyond_or : List ℕ → Option ℕ → Option (List ℕ × ℕ) → Option (List ℕ × ℕ)
beyond_or name (Some device) behind = Some (name, device)
beyond_or name None behind = behind

-- Of modules in order, the first that names one of so many devices without being allowed it, by its name, with the first
-- such device.
abbrev pub first_beyond : List (List ℕ) → List Rule → ℕ → List CheckedModule → Option (List ℕ × ℕ)
first_beyond names rules count [] = None
first_beyond names rules count (first ∷ others) =
    beyond_or first.name (first_device_beyond names rules count first) (first_beyond names rules count others)

-- what a rule says of a module is any name, or that of a present one
abbrev pub is_of_present : Texts → Option (List ℕ) → Bool
is_of_present texts (Some name) = is_some (text_of texts name)
is_of_present texts None = true

-- what a rule says of a device is any name, or that of a declared one
abbrev pub is_of_declared : List (List ℕ) → Option (List ℕ) → Bool
is_of_declared devices (Some name) = list_any (λ device. bytes_eq device name) devices
is_of_declared devices None = true

-- Whether the rule is used: it is about a module and a device that may be there.
abbrev pub is_used : Texts → List (List ℕ) → Rule → Bool
is_used texts devices rule = is_of_present texts rule.«module» && is_of_declared devices rule.device

-- the numbers of the unused ones among rules of which the first has this number
abbrev pub unused_from : ℕ → Texts → List (List ℕ) → List Rule → List ℕ
unused_from number texts devices [] = []
unused_from number texts devices (rule ∷ rules) =
    if is_used texts devices rule
    then unused_from (number + 1) texts devices rules
    else number ∷ unused_from (number + 1) texts devices rules

-- The numbers, from 1 on and rising, of the rules that are about a module which is not present, or about a device which
-- is not declared.
abbrev pub unused_rules : Texts → List (List ℕ) → List Rule → List ℕ
unused_rules texts devices rules = unused_from 1 texts devices rules
