-- What a run of explained inference finds is well formed, and the steps of a choice are joined.
use Rattle.std.proofs.Common.{◌≡◌, ℕ, List, [], sym, ap, ◌∙◌}
use Rattle.cc_base.specs.declared.place.Place.{Place}
use Rattle.cc_capture.specs.declared.var.Var.{Var}
use Rattle.cc_core.specs.Terms.{Note, Term, Conditional}
use Rattle.cc_core.specs.Places.{Spots, Places, Between, spots}
use Rattle.cc_core.specs.WellFormed.{IsWellFormedContext, IsWellFormedType}
use Rattle.cc_checking.specs.Outcomes as plain
use Rattle.cc_checking.specs.Inference.{Result, inferred}
use Rattle.cc_known.specs.Keeping as kept
use Rattle.cc_known.specs.Logs as logs
use Rattle.cc_type.specs.Rows.{ways}
use Rattle.cc_type.specs.Standing.{StandsWell}
use Rattle.cc_type.proofs.InferredLogs.{inferred_logs}
use Rattle.cc_type.proofs.StandingTerms.{type_of_found}
use Rattle.cc_reasons.specs.Causes.{Scene, Located, Explained, NoAnswer, Refused, Found, outcome_of}
use Rattle.cc_reasons.specs.DefinitionReasons.{placed_of}
use Rattle.cc_reasons.specs.ExplainedInference.{BinderNames, first_names, second_names, explained}
use Rattle.cc_reasons.proofs.ExplainedOutcomes.{explained_is_inference}
use Rattle.cc_reasoning.specs.LocatedLogs.{Reached, Got, after, followed}
use Rattle.cc_reasoning.specs.ExplainedLogs.{branch, test, choice_log, explained_log}
use Rattle.cc_reasoning.proofs.ExplainedLogs.{explained_logs}

-- what was found, and what was asked
came_from : {A : Type 0} (log later : List Located) (o : Explained A) (a : A) → after log o ≡ Got a later
    → (asked : List Located) × (o ≡ Found a asked)
came_from log later NoAnswer a e = absurd (cc)
came_from log later (Refused cause at) a e = absurd (cc)
came_from log later (Found b asked) a e = let same : b ≡ a = cc in (asked, ap (λ x. Found x asked) same)

pub explained_formed : (root : ℕ) (scene : Scene) (t : Term) (places : Places) (names : BinderNames)
    (log later : List Located) (r : Result)
    → IsWellFormedContext scene.context → StandsWell root scene.context t
    → explained_log root scene t places names log ≡ Got r later → IsWellFormedType scene.context r.type
explained_formed root scene t places names log later r formed stands e =
    let came = came_from log later (explained ways root scene t places names) r
    (sym (explained_logs root t scene places names log) ∙ e) in
    let found : inferred ways root scene.context t places ≡ plain.Found r (placed_of came.0) =
    sym (explained_is_inference ways root scene t places names) ∙ ap outcome_of came.1 in
    type_of_found root scene.context t places [] (kept.keeping [] (placed_of came.0)) r formed stands
    (inferred_logs root t scene.context places [] ∙ ap (logs.after []) found)

-- the steps of a choice, one by one
pub choice_steps : (root : ℕ) (scene : Scene) (n : Note) (v : Var) (positive negative : Term) (own : Spots)
    (p q : Places) (names first second : BinderNames) (log log1 log2 log3 log4 : List Located) (one two : Result)
    (u w : Unit {0}) (at1 at2 : Place)
    → after log (test own scene n v) ≡ Got u log1
    → explained_log root scene positive p first log1 ≡ Got one log2 → first ≡ first_names names
    → at1 ≡ (spots p).at → after log2 (branch at1 scene n one.type) ≡ Got w log3
    → explained_log root scene negative q second log3 ≡ Got two log4 → second ≡ second_names names
    → at2 ≡ (spots q).at
    → explained_log root scene (Conditional n v positive negative) (Between own p q) names log
    ≡ choice_log root scene own.at n v one two at2 log4
choice_steps root scene n v positive negative own p q names first second log log1 log2 log3 log4 one two u w at1 at2
    e1 e2 f1 h1 e3 e4 f2 h2 =
    let after_two : Result → Result → List Located → Reached Result =
    λ x y l. choice_log root scene own.at n v x y (spots q).at l in
    let after_branch : Result → Unit {0} → List Located → Reached Result =
    λ x d l. followed (explained_log root scene negative q (second_names names) l) (after_two x) in
    let after_one : Result → List Located → Reached Result =
    λ x l. followed (after l (branch (spots p).at scene n x.type)) (after_branch x) in
    let after_test : Unit {0} → List Located → Reached Result =
    λ d l. followed (explained_log root scene positive p (first_names names) l) after_one in
    ap (λ s. followed s after_test) e1
    ∙ ap (λ s. followed s after_one) (ap (λ m. explained_log root scene positive p m log1) (sym f1) ∙ e2)
    ∙ ap (λ s. followed s (after_branch one)) (ap (λ a. after log2 (branch a scene n one.type)) (sym h1) ∙ e3)
    ∙ ap (λ s. followed s (after_two one)) (ap (λ m. explained_log root scene negative q m log3) (sym f2) ∙ e4)
    ∙ ap (λ a. choice_log root scene own.at n v one two a log4) (sym h2)
