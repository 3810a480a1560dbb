-- The unused rules are those about what is not there.
use Rattle.std.proofs.Common.{◌≡◌, ◌+◌, ◌<◌, ◌≤◌, ◌⊎◌, arith, ℕ, suc, Bool, true, false, cond, List, [], ◌∷◌, ◌++◌, length, Option, Some, None, inl, inr, refl, sym, ap, ◌∙◌, subst}
use Rattle.std.specs.Prelude.{Contains, is_some}
use Rattle.std.specs.Cmp.Lexicographic.{bytes_decides}
use Rattle.std.specs.List.{AllByRecursion, list_any}
use Rattle.std.specs.Str.{bytes_eq}
use Rattle.std.proofs.lemmas.Bool.{and_cases, and_left, and_right, false_from_ne_true}
use Rattle.cc_binding.specs.Binding.{is_of_present, is_of_declared, is_used, unused_from}
use Rattle.cc_binding.specs.BindingLaws.{IsOfNoModule, IsOfNoDevice, UnusedRulesAreUnused, AreRising, UnusedRulesRise}
use Rattle.cc_binding.proofs.Lists.{in_none, first_or_other, in_longer, any_of, any_from}
use Rattle.cc_policy.specs.declared.policy.Rule.{Rule}
use Rattle.cc_verdicts.specs.PresentTexts.{Texts, text_of}

some_there : {A : Type 0} (o : Option A) → is_some o ≡ false → o ≡ None
some_there None e = refl
some_there (Some a) e = cc

module _ (texts : Texts) (devices : List (List ℕ)) where
  -- the tests
  of_no_module : (name : Option (List ℕ)) → is_of_present texts name ≡ false → IsOfNoModule texts name
  of_no_module None e = cc
  of_no_module (Some name) e = some_there (text_of texts name) e

  no_module_tested : (name : Option (List ℕ)) → IsOfNoModule texts name → is_of_present texts name ≡ false
  no_module_tested None it = absurd it
  no_module_tested (Some name) it = ap is_some it

  of_no_device : (name : Option (List ℕ)) → is_of_declared devices name ≡ false → IsOfNoDevice devices name
  of_no_device None e = cc
  of_no_device (Some name) e =
      λ it. let clash : false ≡ true = sym e ∙ any_from (λ device. bytes_eq device name) devices name it ((bytes_decides name name).1 refl) in cc

  no_device_tested : (name : Option (List ℕ)) → IsOfNoDevice devices name → is_of_declared devices name ≡ false
  no_device_tested None it = absurd it
  no_device_tested (Some name) it =
      false_from_ne_true (list_any (λ device. bytes_eq device name) devices)
      (λ e.
      let found = any_of (λ device. bytes_eq device name) devices e in
      it (subst (Contains devices) ((bytes_decides found.0 name).0 found.2) found.1))

  unused : (rule : Rule) → is_used texts devices rule ≡ false → IsOfNoModule texts rule.«module» ⊎ IsOfNoDevice devices rule.device
  unused rule e =
      elim (and_cases (is_of_present texts rule.«module») (is_of_declared devices rule.device) e) as (λ _. IsOfNoModule texts rule.«module» ⊎ IsOfNoDevice devices rule.device) [
        | inl one ↦ inl (of_no_module rule.«module» one)
        | inr other ↦ inr (of_no_device rule.device other)
      ]

  unused_tested : (rule : Rule) → IsOfNoModule texts rule.«module» ⊎ IsOfNoDevice devices rule.device → is_used texts devices rule ≡ false
  unused_tested rule (inl one) = and_left (is_of_present texts rule.«module») (is_of_declared devices rule.device) (no_module_tested rule.«module» one)
  unused_tested rule (inr other) = and_right (is_of_present texts rule.«module») (is_of_declared devices rule.device) (no_device_tested rule.device other)

  -- the rule of the number is unused, where the first has another number
  record IsUnusedFrom (first : ℕ) (rules : List Rule) (number : ℕ) : Type 0 where
    before : List Rule
    rule : Rule
    behind : List Rule
    stands : rules ≡ before ++ rule ∷ behind
    counted : number ≡ first + length before
    about : IsOfNoModule texts rule.«module» ⊎ IsOfNoDevice devices rule.device

  later : (first : ℕ) (rule : Rule) (rules : List Rule) (number : ℕ) → IsUnusedFrom (first + 1) rules number → IsUnusedFrom first (rule ∷ rules) number
  later first rule rules number it = record {
    before = rule ∷ it.before;
    rule = it.rule;
    behind = it.behind;
    stands = ap (λ rs. rule ∷ rs) it.stands;
    counted = let counted = it.counted in omega arith;
    about = it.about;
  }

  unused_from_test : (first : ℕ) (rule : Rule) (rules : List Rule) (number : ℕ) (b : Bool) → is_used texts devices rule ≡ b
      → (Contains (unused_from (first + 1) texts devices rules) number → IsUnusedFrom (first + 1) rules number)
      → Contains (cond b (unused_from (first + 1) texts devices rules) (first ∷ unused_from (first + 1) texts devices rules)) number
      → IsUnusedFrom first (rule ∷ rules) number
  unused_from_test first rule rules number true is others it = later first rule rules number (others it)
  unused_from_test first rule rules number false is others it =
      elim (first_or_other first number (unused_from (first + 1) texts devices rules) it) as (λ _. IsUnusedFrom first (rule ∷ rules) number) [
        | inl same ↦ record { before = []; rule = rule; behind = rules; stands = refl; counted = omega arith; about = unused rule is }
        | inr behind ↦ later first rule rules number (others behind)
      ]

  listed_is_unused : (first : ℕ) (rules : List Rule) (number : ℕ) → Contains (unused_from first texts devices rules) number → IsUnusedFrom first rules number
  listed_is_unused first [] number it = absurd (in_none number it)
  listed_is_unused first (rule ∷ rules) number it =
      unused_from_test first rule rules number (is_used texts devices rule) refl (listed_is_unused (first + 1) rules number) it

  unused_is_listed : (first : ℕ) (before : List Rule) (rule : Rule) (behind : List Rule) → IsOfNoModule texts rule.«module» ⊎ IsOfNoDevice devices rule.device
      → Contains (unused_from first texts devices (before ++ rule ∷ behind)) (first + length before)
  unused_is_listed first [] rule behind about =
      subst (λ b. Contains (cond b (unused_from (first + 1) texts devices behind) (first ∷ unused_from (first + 1) texts devices behind)) (first + 0)) (sym (unused_tested rule about))
      (in_longer first (first + 0) (unused_from (first + 1) texts devices behind) (inl (omega arith)))
  unused_is_listed first (other ∷ before) rule behind about =
      let rest : List ℕ = unused_from (first + 1) texts devices (before ++ rule ∷ behind) in
      let there : Contains rest (first + suc (length before)) =
      subst (Contains rest) (let same : first + 1 + length before ≡ first + suc (length before) = omega arith in same) (unused_is_listed (first + 1) before rule behind about) in
      by_test (is_used texts devices other) rest there
    where
      by_test : (b : Bool) (rest : List ℕ) → Contains rest (first + suc (length before)) → Contains (cond b rest (first ∷ rest)) (first + suc (length before))
      by_test true rest there = there
      by_test false rest there = in_longer first (first + suc (length before)) rest (inr there)

  -- numbers are not less than the first one, and rise
  all_above : (least more : ℕ) → least ≤ more → (numbers : List ℕ) → AllByRecursion (λ number. more ≤ number) numbers → AllByRecursion (λ number. least ≤ number) numbers
  all_above least more below [] all = tt
  all_above least more below (number ∷ numbers) all = (let above = all.0 in omega arith, all_above least more below numbers all.1)

  all_greater : (least : ℕ) (numbers : List ℕ) → AllByRecursion (λ number. least + 1 ≤ number) numbers → AllByRecursion (λ number. least < number) numbers
  all_greater least [] all = tt
  all_greater least (number ∷ numbers) all = (let above = all.0 in omega arith, all_greater least numbers all.1)

  not_less : (first : ℕ) (rules : List Rule) → AllByRecursion (λ number. first ≤ number) (unused_from first texts devices rules)
  not_less first [] = tt
  not_less first (rule ∷ rules) =
      let others = all_above first (first + 1) (omega arith) (unused_from (first + 1) texts devices rules) (not_less (first + 1) rules) in
      by_test (is_used texts devices rule) (unused_from (first + 1) texts devices rules) others
    where
      by_test : (b : Bool) (numbers : List ℕ) → AllByRecursion (λ number. first ≤ number) numbers → AllByRecursion (λ number. first ≤ number) (cond b numbers (first ∷ numbers))
      by_test true numbers all = all
      by_test false numbers all = (omega arith, all)

  rising : (first : ℕ) (rules : List Rule) → AreRising (unused_from first texts devices rules)
  rising first [] = tt
  rising first (rule ∷ rules) =
      by_test (is_used texts devices rule) (unused_from (first + 1) texts devices rules) (not_less (first + 1) rules) (rising (first + 1) rules)
    where
      by_test : (b : Bool) (numbers : List ℕ) → AllByRecursion (λ number. first + 1 ≤ number) numbers → AreRising numbers → AreRising (cond b numbers (first ∷ numbers))
      by_test true numbers above rise = rise
      by_test false numbers above rise = (all_greater first numbers above, rise)

pub unused_rules_rise : UnusedRulesRise
unused_rules_rise texts devices rules = rising texts devices 1 rules

pub unused_rules_are_unused : UnusedRulesAreUnused
unused_rules_are_unused texts devices rules number = (
  λ it.
      let found = listed_is_unused texts devices 1 rules number it in
      record {
        before = found.before;
        rule = found.rule;
        behind = found.behind;
        stands = found.stands;
        counted = let counted = found.counted in omega arith;
        unused = found.about;
      },
  λ it.
      let counted = it.counted in
      let same : 1 + length it.before ≡ number = omega arith in
      subst (λ rs. Contains (unused_from 1 texts devices rs) number) (sym it.stands)
      (subst (Contains (unused_from 1 texts devices (it.before ++ it.rule ∷ it.behind))) same
      (unused_is_listed texts devices 1 it.before it.rule it.behind it.unused)),
)
