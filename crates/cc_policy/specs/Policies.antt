-- Policies: lists of rules, of which the first that matches decides whether a module may have a device.
use Rattle.std.specs.Prelude.{◌≡◌, ℕ, ◌+◌, Bool, true, false, ◌&&◌, ◌⊎◌, if◌then◌else◌, List, [], ◌∷◌, ◌++◌, length, Option, Some, None}
use Rattle.std.specs.List.{AllByRecursion}
use Rattle.std.specs.Str.{bytes_eq}
use Rattle.cc_policy.specs.declared.policy.Rule.{Rule}
use Rattle.cc_policy.specs.declared.policy.Decision.{Decision}

-- What a rule says of a module or of a device is any name or one. A name is of it in the first case always, in the
-- second where it is that one.
abbrev pub IsOf : Option (List ℕ) → List ℕ → Type 0
IsOf None name = Unit {0}
IsOf (Some one) name = one ≡ name

-- A rule matches a module and a device: both are what it says.
pub record Matches (rule : Rule) (owner device : List ℕ) : Type 0 where
  pub owner_is : IsOf rule.«module» owner
  pub device_is : IsOf rule.device device

-- the decision of a rule that has the number
abbrev pub by_rule : Rule → ℕ → Decision
by_rule rule number = record { allow = rule.allow; rule = Some number }

-- the decision where no rule decides
abbrev pub denial : Decision
denial = record { allow = false; rule = None }

-- A rule decides: it matches, and no rule before it does. The decision is what it says, with its number, counted from 1.
pub record DecidesFirst (rules : List Rule) (owner device : List ℕ) (decision : Decision) : Type 0 where
  pub before : List Rule
  pub rule : Rule
  pub behind : List Rule
  pub stands : rules ≡ before ++ rule ∷ behind
  pub others : AllByRecursion (λ other. Matches other owner device → ⊥) before
  pub matches : Matches rule owner device
  pub decides : decision ≡ by_rule rule (length before + 1)

-- No rule decides, as none matches: it is a denial, without a number.
pub record DeniesUnmatched (rules : List Rule) (owner device : List ℕ) (decision : Decision) : Type 0 where
  pub none : AllByRecursion (λ rule. Matches rule owner device → ⊥) rules
  pub denies : decision ≡ denial

-- The rules decide so whether the module may have the device.
abbrev pub Decides : List Rule → List ℕ → List ℕ → Decision → Type 0
Decides rules owner device decision =
    DecidesFirst rules owner device decision ⊎ DeniesUnmatched rules owner device decision

-- the tests of this
abbrev pub is_of : Option (List ℕ) → List ℕ → Bool
is_of None name = true
is_of (Some one) name = bytes_eq one name

abbrev pub matches : Rule → List ℕ → List ℕ → Bool
matches rule owner device = is_of rule.«module» owner && is_of rule.device device

-- the decision of rules of which the first has the number
abbrev pub decision_from : ℕ → List Rule → List ℕ → List ℕ → Decision
decision_from number [] owner device = denial
decision_from number (rule ∷ rules) owner device =
    if matches rule owner device then by_rule rule number else decision_from (number + 1) rules owner device

-- the decision of rules
abbrev pub decision_of : List Rule → List ℕ → List ℕ → Decision
decision_of rules owner device = decision_from 1 rules owner device
