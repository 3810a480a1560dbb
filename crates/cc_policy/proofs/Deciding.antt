-- What rules decide exists and is one.
use Rattle.std.proofs.Common.{◌≡◌, ℕ, ◌+◌, Bool, true, false, ◌&&◌, List, [], ◌∷◌, ◌++◌, length, Option, Some, None, inl, inr, refl, sym, ap, subst, ◌∙◌, arith}
use Rattle.std.specs.List.{AllByRecursion}
use Rattle.std.proofs.lemmas.Bool.{cases_Bool}
use Rattle.std.proofs.lemmas.Slice.Eq.{bytes_eq-Decides}
use Rattle.cc_policy.specs.declared.policy.Rule.{Rule}
use Rattle.cc_policy.specs.declared.policy.Decision.{Decision}
use Rattle.cc_policy.specs.PolicyLaws.{RulesDecide, RulesDecideOnce}
use Rattle.cc_policy.specs.Policies.{IsOf, Matches, Decides, by_rule, denial, is_of, matches, decision_from}

both : (a b : Bool) → (a && b) ≡ true → (a ≡ true) × (b ≡ true)
both true true h = (refl, refl)
both true false h = cc
both false b h = cc

is_of-true : (one : Option (List ℕ)) (name : List ℕ) → is_of one name ≡ true → IsOf one name
is_of-true None name h = tt
is_of-true (Some one) name h = (bytes_eq-Decides one name).0 h

is_of-IsOf : (one : Option (List ℕ)) (name : List ℕ) → IsOf one name → is_of one name ≡ true
is_of-IsOf None name h = refl
is_of-IsOf (Some one) name h = (bytes_eq-Decides one name).1 h

matches-true : (rule : Rule) (owner device : List ℕ) → matches rule owner device ≡ true → Matches rule owner device
matches-true rule owner device h =
    let parts = both (is_of rule.«module» owner) (is_of rule.device device) h in
    record { owner_is = is_of-true rule.«module» owner parts.0; device_is = is_of-true rule.device device parts.1 }

matches-Matches : (rule : Rule) (owner device : List ℕ) → Matches rule owner device → matches rule owner device ≡ true
matches-Matches rule owner device is =
    rw (is_of-IsOf rule.«module» owner is.owner_is, is_of-IsOf rule.device device is.device_is) refl

not_true : (b : Bool) → (b ≡ true → ⊥) → b ≡ false
not_true true no_such = absurd (no_such refl)
not_true false no_such = refl

-- a rule that does not match fails the test, and the other way round
fails : (rule : Rule) (owner device : List ℕ) → (Matches rule owner device → ⊥) → matches rule owner device ≡ false
fails rule owner device none =
    not_true (matches rule owner device) (λ h. none (matches-true rule owner device h))

no_match : (rule : Rule) (owner device : List ℕ) → matches rule owner device ≡ false → Matches rule owner device → ⊥
no_match rule owner device h is = let holds = matches-Matches rule owner device is in cc

-- the first rule that matches is counted from the number
decision_from-first :
    (number : ℕ) (before : List Rule) (rule : Rule) (behind : List Rule) (owner device : List ℕ)
    → AllByRecursion (λ other. Matches other owner device → ⊥) before → Matches rule owner device
    → decision_from number (before ++ rule ∷ behind) owner device ≡ by_rule rule (length before + number)
decision_from-first number [] rule behind owner device none is =
    rw (matches-Matches rule owner device is) (ap (by_rule rule) (omega arith))
decision_from-first number (other ∷ before) rule behind owner device none is =
    let rest = decision_from-first (number + 1) before rule behind owner device none.1 is in
    rw (fails other owner device none.0) (rest ∙ ap (by_rule rule) (omega arith))

decision_from-none :
    (number : ℕ) (rules : List Rule) (owner device : List ℕ)
    → AllByRecursion (λ rule. Matches rule owner device → ⊥) rules → decision_from number rules owner device ≡ denial
decision_from-none number [] owner device none = refl
decision_from-none number (rule ∷ rules) owner device none =
    rw (fails rule owner device none.0) (decision_from-none (number + 1) rules owner device none.1)

pub rules_decide_once : RulesDecideOnce
rules_decide_once rules owner device decision (inl first) =
    let found = decision_from-first 1 first.before first.rule first.behind owner device first.others first.matches in
    rw (first.stands) (first.decides ∙ sym found)
rules_decide_once rules owner device decision (inr none) =
    none.denies ∙ sym (decision_from-none 1 rules owner device none.none)

-- with one rule more in front, which does not match
behind_other :
    (other : Rule) (rules : List Rule) (owner device : List ℕ) → (Matches other owner device → ⊥)
    → ((decision : Decision) × Decides rules owner device decision)
    → ((decision : Decision) × Decides (other ∷ rules) owner device decision)
behind_other other rules owner device none (decision, inl first) = (
  by_rule first.rule (length (other ∷ first.before) + 1),
  inl (record {
    before = other ∷ first.before;
    rule = first.rule;
    behind = first.behind;
    stands = ap (λ it. other ∷ it) first.stands;
    others = (none, first.others);
    matches = first.matches;
    decides = refl;
  }),
)
behind_other other rules owner device none (decision, inr unmatched) =
    (denial, inr (record { none = (none, unmatched.none); denies = refl }))

some_decision : (rules : List Rule) (owner device : List ℕ) → (decision : Decision) × Decides rules owner device decision
some_decision [] owner device = (denial, inr (record { none = tt; denies = refl }))
some_decision (rule ∷ rules) owner device =
    elim (cases_Bool (matches rule owner device)) [
      | inl holds ↦ (
        by_rule rule 1,
        inl (record {
          before = [];
          rule = rule;
          behind = rules;
          stands = refl;
          others = tt;
          matches = matches-true rule owner device holds;
          decides = refl;
        }),
      )
      | inr no_such ↦
          behind_other rule rules owner device (no_match rule owner device no_such) (some_decision rules owner device)
    ]

pub rules_decide : RulesDecide
rules_decide rules owner device =
    let made = some_decision rules owner device in
    subst (Decides rules owner device) (rules_decide_once rules owner device made.0 made.1) made.1
