-- The test of permission, and what it decides.
use Rattle.std.proofs.Common.{◌≡◌, ℕ, Bool, true, false, ◌&&◌, List, [], ◌∷◌, Option, Some, None, refl, sym, ap, subst, ◌∙◌, if◌then◌else◌}
use Rattle.std.specs.Prelude.{◌↔◌, IsTrue, slice_get}
use Rattle.std.specs.List.{AllByRecursion, list_all}
use Rattle.cc_mnf.specs.ElaboratedModules.{device_names}
use Rattle.cc_policy.specs.declared.policy.Rule.{Rule}
use Rattle.cc_policy.specs.Policies.{decision_of, denial}
use Rattle.cc_policy.proofs.Deciding.{rules_decide, rules_decide_once}
use Rattle.cc_replies.specs.ReplyLaws.{ToldDecisionsAreDecided, PermissionIsTested, PermittedEntriesAreRun, OtherEntriesAreNotRun}
use Rattle.cc_replies.specs.PolicyReplies.{Allows, decision_named, decision_for, are_allowed}
use Rattle.cc_replies.specs.ReplyTexts.{Reply}

pub told_decisions_are_decided : ToldDecisionsAreDecided
told_decisions_are_decided names rules module_name device name named = rw named (rules_decide rules module_name name)

both : (a b : Bool) → (a && b) ≡ true → (a ≡ true) × (b ≡ true)
both true true h = (refl, refl)
both true false h = cc
both false b h = cc

-- that a device is allowed, by its name where it has one
module _ (names : List (List ℕ)) (rules : List Rule) (module_name : List ℕ) where
  allowed_by : (device : ℕ) (found : Option (List ℕ)) → slice_get names device ≡ found
      → (decision_named rules module_name found).allow ≡ true → Allows names rules module_name device
  allowed_by device (Some name) is allowed = record {
    name = name;
    named = is;
    decision = decision_of rules module_name name;
    decides = rules_decide rules module_name name;
    allows = allowed;
  }
  allowed_by device None is allowed = cc

  allowed_if : (device : ℕ) → Allows names rules module_name device → (decision_for names rules module_name device).allow ≡ true
  allowed_if device it =
      rw it.named (ap (λ d. d.allow) (sym (rules_decide_once rules module_name it.name it.decision it.decides)) ∙ it.allows)

  all_allowed : (devices : List ℕ) → are_allowed names rules module_name devices ≡ true
      → AllByRecursion (Allows names rules module_name) devices
  all_allowed [] h = tt
  all_allowed (device ∷ devices) h =
      let parts = both (decision_for names rules module_name device).allow (are_allowed names rules module_name devices) h in
      (allowed_by device (slice_get names device) refl parts.0, all_allowed devices parts.1)

  all_tested : (devices : List ℕ) → AllByRecursion (Allows names rules module_name) devices
      → are_allowed names rules module_name devices ≡ true
  all_tested [] all = refl
  all_tested (device ∷ devices) all = rw (allowed_if device all.0, all_tested devices all.1) refl

pub permission_is_tested : PermissionIsTested
permission_is_tested names rules module_name devices =
    (all_allowed names rules module_name devices, all_tested names rules module_name devices)

chosen : (b : Bool) (x y : Reply) → b ≡ true → (if b then x else y) ≡ x
chosen true x y h = refl
chosen false x y h = cc

not_chosen : (b : Bool) (x y : Reply) → (b ≡ true → ⊥) → (if b then x else y) ≡ y
not_chosen true x y h = absurd (h refl)
not_chosen false x y h = refl

pub permitted_entries_are_run : PermittedEntriesAreRun
permitted_entries_are_run devices rules module_name name fuel entry permitted =
    chosen (are_allowed (device_names devices) rules entry.module_name entry.authority) _ _
    (all_tested (device_names devices) rules entry.module_name entry.authority permitted)

pub other_entries_are_not_run : OtherEntriesAreNotRun
other_entries_are_not_run devices rules module_name name fuel entry not_permitted =
    not_chosen (are_allowed (device_names devices) rules entry.module_name entry.authority) _ _
    (λ h. not_permitted (all_allowed (device_names devices) rules entry.module_name entry.authority h))
