-- What is found beyond the rules is the first.
use Rattle.std.proofs.Common.{◌≡◌, ◌<◌, arith, ℕ, Bool, true, false, not, ◌&&◌, List, [], ◌∷◌, ◌++◌, length, Option, Some, None, refl, sym, ap, ◌∙◌, subst}
use Rattle.std.specs.Option.{unwrap_or}
use Rattle.std.specs.List.{AllByRecursion}
use Rattle.std.proofs.lemmas.Bool.{and_parts, not-true}
use Rattle.cc_binding.specs.Binding.{KeepsRules, is_beyond, first_device_beyond, beyond_or, first_beyond}
use Rattle.cc_binding.specs.BindingLaws.{IsFirstBeyond, FirstBeyondIsFirst}
use Rattle.cc_binding.specs.NamedDevices.{module_names}
use Rattle.cc_binding.proofs.Lists.{nothing_found, finds_nothing, IsFirst, first_found, finds_first}
use Rattle.cc_entry_laws.specs.PresentEntries.{CheckedModule}
use Rattle.cc_policy.specs.declared.policy.Rule.{Rule}
use Rattle.cc_replies.specs.PolicyReplies.{Allows, decision_for}
use Rattle.cc_replies.proofs.PolicyLaws.{permission_is_tested}

and_nothing : (b : Bool) → (b && true) ≡ b
and_nothing true = refl
and_nothing false = refl

not_both : (b : Bool) → b ≡ true → b ≡ false → ⊥
not_both b holds fails = let clash : true ≡ false = sym holds ∙ fails in cc

same_pair : {a c : List ℕ} {b d : ℕ} → ◌≡◌ {A = Option (List ℕ × ℕ)} (Some (a, b)) (Some (c, d)) → (a ≡ c) × (b ≡ d)
same_pair {a = a} {b = b} e = (ap (λ o. (unwrap_or {T = List ℕ × ℕ} o (a, b)).0) e, ap (λ o. (unwrap_or {T = List ℕ × ℕ} o (a, b)).1) e)

module _ (names : List (List ℕ)) (rules : List Rule) where
  -- the test of what is allowed
  allowed : (module_name : List ℕ) (device : ℕ) → (decision_for names rules module_name device).allow ≡ true → Allows names rules module_name device
  allowed module_name device e =
      ((permission_is_tested names rules module_name (device ∷ [])).0 (and_nothing (decision_for names rules module_name device).allow ∙ e)).0

  tested : (module_name : List ℕ) (device : ℕ) → Allows names rules module_name device → (decision_for names rules module_name device).allow ≡ true
  tested module_name device it =
      sym (and_nothing (decision_for names rules module_name device).allow) ∙ (permission_is_tested names rules module_name (device ∷ [])).1 (it, tt)

  by_tests : (named allow : Bool) → (named ≡ true → allow ≡ true) → (named && not allow) ≡ false
  by_tests true true h = refl
  by_tests true false h = let clash = h refl in cc
  by_tests false allow h = refl

  from_tests : (named allow : Bool) → (named && not allow) ≡ false → named ≡ true → allow ≡ true
  from_tests true true e h = refl
  from_tests true false e h = cc
  from_tests false allow e h = cc

  by_denial : (named allow : Bool) → named ≡ true → (allow ≡ true → ⊥) → (named && not allow) ≡ true
  by_denial true true e denied = absurd (denied refl)
  by_denial true false e denied = refl
  by_denial false allow e denied = cc

  -- a module keeps the rules where it is beyond them with no device
  not_beyond : (count : ℕ) (current : CheckedModule) → KeepsRules names rules count current → (device : ℕ) → device < count → is_beyond names rules current device ≡ false
  not_beyond count current keeps device below =
      by_tests (module_names device current) (decision_for names rules current.name device).allow
      (λ named. tested current.name device (keeps device below named))

  keeps_rules : (count : ℕ) (current : CheckedModule) → ((device : ℕ) → device < count → is_beyond names rules current device ≡ false) → KeepsRules names rules count current
  keeps_rules count current none device below named =
      allowed current.name device
      (from_tests (module_names device current) (decision_for names rules current.name device).allow (none device below) named)

  keeps_where_none : (count : ℕ) (current : CheckedModule) → first_device_beyond names rules count current ≡ None → KeepsRules names rules count current
  keeps_where_none count current e =
      keeps_rules count current (λ device below. nothing_found (is_beyond names rules current) 0 count e device (omega arith) (omega arith))

  none_where_keeps : (count : ℕ) (current : CheckedModule) → KeepsRules names rules count current → first_device_beyond names rules count current ≡ None
  none_where_keeps count current keeps =
      finds_nothing (is_beyond names rules current) 0 count (λ device low high. not_beyond count current keeps device (omega arith))

  module _ (count : ℕ) where
    keep_from : (current : CheckedModule) (modules : List CheckedModule) (found : Option ℕ) → first_device_beyond names rules count current ≡ found
        → (first_beyond names rules count modules ≡ None → AllByRecursion (KeepsRules names rules count) modules)
        → beyond_or current.name found (first_beyond names rules count modules) ≡ None → AllByRecursion (KeepsRules names rules count) (current ∷ modules)
    keep_from current modules (Some device) is later e = cc
    keep_from current modules None is later e = (keeps_where_none count current is, later e)

    all_keep : (modules : List CheckedModule) → first_beyond names rules count modules ≡ None → AllByRecursion (KeepsRules names rules count) modules
    all_keep [] e = tt
    all_keep (current ∷ modules) e = keep_from current modules (first_device_beyond names rules count current) refl (all_keep modules) e

    none_beyond : (modules : List CheckedModule) → AllByRecursion (KeepsRules names rules count) modules → first_beyond names rules count modules ≡ None
    none_beyond [] all = refl
    none_beyond (current ∷ modules) all =
        ap (λ found. beyond_or current.name found (first_beyond names rules count modules)) (none_where_keeps count current all.0) ∙ none_beyond modules all.1

    -- a module that is beyond the rules first with this device
    here_first : (current : CheckedModule) (modules : List CheckedModule) (device : ℕ) → first_device_beyond names rules count current ≡ Some device
        → IsFirstBeyond names rules count (current ∷ modules) current.name device
    here_first current modules device e =
        let first = first_found (is_beyond names rules current) 0 count device e in
        let parts = and_parts (module_names device current) (not (decision_for names rules current.name device).allow) first.passes in
        let high = first.high in
        record {
          before = [];
          current = current;
          behind = modules;
          stands = refl;
          others = tt;
          of_name = refl;
          declared = omega arith;
          named = parts.0;
          lower = keeps_rules device current (λ other below. first.none other (omega arith) below);
          beyond = λ it. not_both (decision_for names rules current.name device).allow (tested current.name device it) (not-true (decision_for names rules current.name device).allow parts.1);
        }

    behind_first : (current : CheckedModule) (modules : List CheckedModule) (module_name : List ℕ) (device : ℕ) → KeepsRules names rules count current
        → IsFirstBeyond names rules count modules module_name device → IsFirstBeyond names rules count (current ∷ modules) module_name device
    behind_first current modules module_name device keeps it = record {
      before = current ∷ it.before;
      current = it.current;
      behind = it.behind;
      stands = ap (λ ms. current ∷ ms) it.stands;
      others = (keeps, it.others);
      of_name = it.of_name;
      declared = it.declared;
      named = it.named;
      lower = it.lower;
      beyond = it.beyond;
    }

    first_from : (current : CheckedModule) (modules : List CheckedModule) (module_name : List ℕ) (device : ℕ) (found : Option ℕ)
        → first_device_beyond names rules count current ≡ found
        → (first_beyond names rules count modules ≡ Some (module_name, device) → IsFirstBeyond names rules count modules module_name device)
        → beyond_or current.name found (first_beyond names rules count modules) ≡ Some (module_name, device)
        → IsFirstBeyond names rules count (current ∷ modules) module_name device
    first_from current modules module_name device (Some other) is later e =
        let same = same_pair e in
        subst (λ name. IsFirstBeyond names rules count (current ∷ modules) name device) same.0
        (here_first current modules device (is ∙ ap (λ d. Some d) same.1))
    first_from current modules module_name device None is later e = behind_first current modules module_name device (keeps_where_none count current is) (later e)

    found_is_first : (modules : List CheckedModule) (module_name : List ℕ) (device : ℕ) → first_beyond names rules count modules ≡ Some (module_name, device)
        → IsFirstBeyond names rules count modules module_name device
    found_is_first [] module_name device e = cc
    found_is_first (current ∷ modules) module_name device e =
        first_from current modules module_name device (first_device_beyond names rules count current) refl (found_is_first modules module_name device) e

    first_is_found : (before : List CheckedModule) (current : CheckedModule) (behind : List CheckedModule) (device : ℕ)
        → AllByRecursion (KeepsRules names rules count) before → first_device_beyond names rules count current ≡ Some device
        → first_beyond names rules count (before ++ current ∷ behind) ≡ Some (current.name, device)
    first_is_found [] current behind device all e = ap (λ found. beyond_or current.name found (first_beyond names rules count behind)) e
    first_is_found (first ∷ before) current behind device all e =
        ap (λ found. beyond_or first.name found (first_beyond names rules count (before ++ current ∷ behind))) (none_where_keeps count first all.0)
        ∙ first_is_found before current behind device all.1 e

    is_found : (modules : List CheckedModule) (module_name : List ℕ) (device : ℕ) → IsFirstBeyond names rules count modules module_name device
        → first_beyond names rules count modules ≡ Some (module_name, device)
    is_found modules module_name device it =
        let declared = it.declared in
        let first : IsFirst (is_beyond names rules it.current) 0 count device = record {
          low = omega arith;
          high = omega arith;
          passes = by_denial (module_names device it.current) (decision_for names rules it.current.name device).allow it.named
              (λ allow. it.beyond (subst (λ name. Allows names rules name device) it.of_name (allowed it.current.name device allow)));
          none = λ other low below. not_beyond device it.current it.lower other below;
        } in
        ap (first_beyond names rules count) it.stands
        ∙ first_is_found it.before it.current it.behind device it.others (finds_first (is_beyond names rules it.current) 0 count device first)
        ∙ ap (λ name. Some (name, device)) it.of_name

pub first_beyond_is_first : FirstBeyondIsFirst
first_beyond_is_first names rules entry =
    let count = length entry.devices in (
      (all_keep names rules count entry.modules, none_beyond names rules count entry.modules),
      λ module_name device. (
        found_is_first names rules count entry.modules module_name device,
        is_found names rules count entry.modules module_name device,
      ),
    )
