-- The laws of policies.
use Rattle.std.specs.Prelude.{◌≡◌, ℕ, List}
use Rattle.cc_policy.specs.declared.policy.Rule.{Rule}
use Rattle.cc_policy.specs.declared.policy.Decision.{Decision}
use Rattle.cc_policy.specs.Policies.{Decides, decision_of}

-- rules decide as their function says
abbrev pub RulesDecide : Type 0
RulesDecide = (rules : List Rule) (owner device : List ℕ) → Decides rules owner device (decision_of rules owner device)

-- and in no other way
abbrev pub RulesDecideOnce : Type 0
RulesDecideOnce =
    (rules : List Rule) (owner device : List ℕ) (decision : Decision) → Decides rules owner device decision
    → decision ≡ decision_of rules owner device
