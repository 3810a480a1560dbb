-- Putting a plan at a place.
use Rattle.std.proofs.Common.{◌≡◌, ℕ, ◌<◌, List, length, set, Option, Some, None, ap, ◌∙◌, sym, subst}
use Rattle.std.proofs.Common.{inl, inr, arith, replicate}
use Rattle.std.proofs.lemmas.Bool.{cases_eq, cases_lt}
use Rattle.std.proofs.lemmas.List.{length-set, get_or-set_same, get_or-set_other, get_or-replicate}
use Rattle.std.proofs.lemmas.List.{length-replicate, get_or_past}
use Rattle.std.specs.Option.{is_some}
use Rattle.cc_base.specs.declared.device.DeviceDecl.{DeviceDecl}
use Rattle.cc_verdicts.specs.ModuleVerdicts.{ModuleVerdict}
use Rattle.cc_verdicts.specs.PresentTexts.{Texts}
use Rattle.cc_judge.specs.declared.plans.Plan.{Plan}
use Rattle.cc_judge.specs.Judgements.{Judgement, judgement_in}
use Rattle.cc_judge.specs.Places.{entry_at}
use Rattle.cc_judge.specs.Plans.{plan_judgement, plan_at, IsPlanned, IsRight, AreRight, ArePlans, PlansPlace, IsRightPlan}

put_right : (texts : Texts) (last : List Judgement) (all : List ℕ → ModuleVerdict) (old : List (Option Plan))
    (place : ℕ) (plan : Plan) → AreRight texts last all old → place < length texts
    → plan_judgement last plan ≡ Some (judgement_in texts all (entry_at texts place))
    → AreRight texts last all (set old place (Some plan))
put_right texts last all old place plan are within right =
    record {
      count = length-set old place (Some plan) ∙ are.count;
      right = λ other inside.
          elim (cases_eq other place) [
            | inl here ↦
                let P : ℕ → Type 0 = λ k. IsRight last (judgement_in texts all (entry_at texts k)) (plan_at
                (set old place (Some plan)) k) in
                let Q : Option Plan → Type 0 = λ o. IsRight last (judgement_in texts all (entry_at texts place)) o in
                subst P (sym here)
                (subst Q (sym (get_or-set_same old place (Some plan) None (omega (arith, are.count)))) right)
            | inr apart ↦
                let Q : Option Plan → Type 0 = λ o. IsRight last (judgement_in texts all (entry_at texts other)) o in
                subst Q (sym (get_or-set_other old place other (Some plan) None apart)) (are.right other inside)
          ];
    }

put_stays : (old : List (Option Plan)) (place : ℕ) (plan : Plan) → place < length old → (other : ℕ)
    → IsPlanned old other → IsPlanned (set old place (Some plan)) other
put_stays old place plan within other planned =
    elim (cases_eq other place) [
      | inl here ↦
          let P : ℕ → Type 0 = λ k. IsPlanned (set old place (Some plan)) k in
          subst P (sym here) (ap is_some (get_or-set_same old place (Some plan) None within))
      | inr apart ↦
          ap is_some (get_or-set_other old place other (Some plan) None apart) ∙ planned
    ]

pub plans_put : (devices : List DeviceDecl) (texts : Texts) (last : List Judgement) (place : ℕ) (plan : Plan)
    (old new : List (Option Plan)) → length old ≡ length texts → place < length texts
    → ArePlans devices texts last old → IsRightPlan devices texts last place plan → new ≡ set old place (Some plan)
    → PlansPlace devices texts last place old new
plans_put devices texts last place plan old new count within are right put =
    let P : List (Option Plan) → Type 0 = λ ps. PlansPlace devices texts last place old ps in
    subst P (sym put)
    (record {
      plans = λ all is. put_right texts last all old place plan (are all is) within (right all is);
      planned = ap is_some (get_or-set_same old place (Some plan) None (omega arith));
      stay = put_stays old place plan (omega arith);
    })

pub nothing_planned : (count place : ℕ) → plan_at (replicate count None) place ≡ None
nothing_planned count place =
    elim (cases_lt place count) [
      | inl below ↦ get_or-replicate count place None None below
      | inr above ↦ get_or_past (replicate count None) place None (omega (arith, length-replicate {A = Option Plan} count None))
    ]

pub none_right : (devices : List DeviceDecl) (texts : Texts) (last : List Judgement) (plans : List (Option Plan))
    → plans ≡ replicate (length texts) None → ArePlans devices texts last plans
none_right devices texts last plans are all is =
    let P : List (Option Plan) → Type 0 = λ ps. AreRight texts last all ps in
    subst P (sym are)
    (record {
      count = length-replicate (length texts) None;
      right = λ place within.
          let Q : Option Plan → Type 0 = λ o. IsRight last (judgement_in texts all (entry_at texts place)) o in
          subst Q (sym (nothing_planned (length texts) place)) tt;
    })
