-- Worked policies.
use Rattle.std.specs.Prelude.{◌≡◌, ℕ, Bool, true, false, List, [], ◌∷◌, codes, Some, None}
use Rattle.cc_policy.specs.declared.policy.Rule.{Rule}
use Rattle.cc_policy.specs.declared.policy.Decision.{Decision}
use Rattle.cc_policy.specs.Policies.{denial, decision_of}

-- names of modules and of devices
abbrev m : List ℕ
m = codes "m"

abbrev n : List ℕ
n = codes "n"

abbrev out : List ℕ
out = codes "out"

abbrev keys : List ℕ
keys = codes "keys"

-- the rule about this module and this device
abbrev rule : Bool → List ℕ → List ℕ → Rule
rule allow owner device = record { allow = allow; «module» = Some owner; device = Some device }

-- the rule about all devices of this module
abbrev rule_for_module : Bool → List ℕ → Rule
rule_for_module allow owner = record { allow = allow; «module» = Some owner; device = None }

-- the rule about this device, whichever the module
abbrev rule_for_device : Bool → List ℕ → Rule
rule_for_device allow device = record { allow = allow; «module» = None; device = Some device }

-- the rule about everything
abbrev rule_for_all : Bool → Rule
rule_for_all allow = record { allow = allow; «module» = None; device = None }

abbrev decided : Bool → ℕ → Decision
decided allow number = record { allow = allow; rule = Some number }

-- of two rules that match the first decides, whether it allows or denies
abbrev pub FirstOfTwo : Type 0
FirstOfTwo =
    (decision_of (rule true m out ∷ rule false m out ∷ []) m out ≡ decided true 1)
    × (decision_of (rule false m out ∷ rule true m out ∷ []) m out ≡ decided false 1)
    × (decision_of (rule_for_all false ∷ rule true m out ∷ []) m out ≡ decided false 1)

-- a rule about any device of a module
abbrev pub AnyDevice : Type 0
AnyDevice =
    (decision_of (rule_for_module true m ∷ []) m out ≡ decided true 1)
    × (decision_of (rule_for_module true m ∷ []) m keys ≡ decided true 1)
    × (decision_of (rule_for_module true m ∷ []) n out ≡ denial)

-- a rule about a device of any module
abbrev pub AnyModule : Type 0
AnyModule =
    (decision_of (rule_for_device true out ∷ []) m out ≡ decided true 1)
    × (decision_of (rule_for_device true out ∷ []) n out ≡ decided true 1)
    × (decision_of (rule_for_device true out ∷ []) m keys ≡ denial)

-- a rule about any device of any module
abbrev pub AnyOfBoth : Type 0
AnyOfBoth =
    (decision_of (rule_for_all true ∷ []) m out ≡ decided true 1)
    × (decision_of (rule_for_all false ∷ []) n keys ≡ decided false 1)

-- Where no rule matches, and where there is none, it is a denial without a number. A rule about a module and a device
-- matches where both are what it says, each in its place.
abbrev pub NoneMatches : Type 0
NoneMatches =
    (decision_of [] m out ≡ record { allow = false; rule = None })
    × (decision_of (rule true n out ∷ rule true m keys ∷ []) m out ≡ record { allow = false; rule = None })
    × (decision_of (rule true out m ∷ []) m out ≡ record { allow = false; rule = None })

-- a name that differs, be it in its last character or in its length
abbrev pub OtherNames : Type 0
OtherNames =
    (decision_of (rule true (codes "m1") out ∷ []) (codes "m2") out ≡ denial)
    × (decision_of (rule true m out ∷ []) m (codes "ou") ≡ denial)
    × (decision_of (rule true m out ∷ []) (codes "mm") out ≡ denial)

-- the number of a later rule, before which all are counted
abbrev pub LaterRule : Type 0
LaterRule =
    (decision_of (rule true m keys ∷ rule true n out ∷ rule_for_module true m ∷ []) m out ≡ decided true 3)
    × (decision_of (rule true m keys ∷ rule true m out ∷ rule_for_all false ∷ []) n out ≡ decided false 3)
    × (decision_of (rule true m keys ∷ rule_for_device false out ∷ rule_for_all true ∷ []) n out ≡ decided false 2)
