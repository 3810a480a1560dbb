-- The last steps of explained inference by those of inference.
use Rattle.std.proofs.Common.{◌≡◌, ℕ, ◌-◌, ◌++◌, Bool, true, false, cond, List, map, replicate, length, Option, Some, None, refl, sym, ap, ◌∙◌}
use Rattle.cc_base.specs.declared.code.Code.{Code}
use Rattle.cc_base.specs.declared.code.Code.TheVariants.{E17, E18}
use Rattle.cc_base.specs.declared.place.Place.{Place}
use Rattle.cc_capture.specs.declared.var.Var.{Var}
use Rattle.cc_core.specs.Contexts.{entry_of}
use Rattle.cc_core.specs.Shapes.{CapturingType}
use Rattle.cc_core.specs.Terms.{Note, Absent, Written, Own, Term, Let}
use Rattle.cc_checking.specs.Avoidance.{Positive, avoided_type}
use Rattle.cc_checking.specs.Outcomes as plain
use Rattle.cc_checking.specs.Inference.{Result, result, Named, tested}
use Rattle.cc_type.specs.Rows as rows
use Rattle.cc_type.specs.Rows.{ways}
use Rattle.cc_reasons.specs.Causes.{Local, Scene, under, Cause, code_of, TooLarge, Unavoidable, Located, Explained, NoAnswer, Refused, Found, finds, because, outcome_of}
use Rattle.cc_subty.specs.declared.demands.Demand.{Demand as DeclaredDemand}
use Rattle.cc_subty.specs.Demands.{asked_of}
use Rattle.cc_known.specs.Logs as logs
use Rattle.cc_checking.specs.Outcomes.{Placed, Outcome}
use Rattle.cc_reasoning.proofs.ExplainedSteps as steps
use Rattle.cc_causes.proofs.LeafCauses.{Comes, Any, because_comes}
use Rattle.cc_reasons.specs.ExplainedInference.{BinderNames, bound_at}
use Rattle.cc_reasoning.specs.LocatedLogs.{Reached, Got, Stopped, after, followed, ends, directly, beside}
use Rattle.cc_reasoning.specs.ExplainedLogs.{sized, let_end, let_cause, branch, choice_end, choice_log, choice_cause, note_cause}

module _ (scene inner : Scene) (at named_at : Place) (t : Term) (type : CapturingType) where
  refused_by : (o : Option CapturingType) (code : Code) (place : Place)
      → rows.directly (plain.found_or E17 named_at o) (λ left. tested ways at (result left t)) ≡ plain.Refused code place
      → directly (because (Unavoidable inner (length scene.context) type) scene.locals (plain.found_or E17 named_at o))
      (λ left. sized scene at (result left t))
      ≡ Refused (let_cause o scene inner type) place
  refused_by (Some left) code place is = ap (because (TooLarge scene left) scene.locals) is
  refused_by None code place is =
      let same : named_at ≡ place = cc in ap (Refused (Unavoidable inner (length scene.context) type)) same

  found_by : (o : Option CapturingType) (r : Result)
      → rows.directly (plain.found_or E17 named_at o) (λ left. tested ways at (result left t)) ≡ plain.finds r
      → directly (because (Unavoidable inner (length scene.context) type) scene.locals (plain.found_or E17 named_at o))
      (λ left. sized scene at (result left t))
      ≡ finds r
  found_by (Some left) r is = ap (because (TooLarge scene left) scene.locals) is
  found_by None r is = absurd (cc)

-- the end of a let
pub let_refused : (scene : Scene) (at named_at : Place) (names : BinderNames) (named : Named) (one two : Result)
    (code : Code) (place : Place)
    → rows.let_end scene.context at named_at named one two ≡ plain.Refused code place
    → let_end scene at named_at names named one two
    ≡ Refused
    (let_cause (avoided_type Positive (length scene.context) named.type.set two.type) scene
    (under (bound_at names named_at) (entry_of named.type) scene) two.type) place
let_refused scene at named_at names named one two code place is =
    refused_by scene (under (bound_at names named_at) (entry_of named.type) scene) at named_at
    (Let named.note one.completed two.completed) two.type
    (avoided_type Positive (length scene.context) named.type.set two.type) code place is

pub let_found : (scene : Scene) (at named_at : Place) (names : BinderNames) (named : Named) (one two r : Result)
    → rows.let_end scene.context at named_at named one two ≡ plain.finds r
    → let_end scene at named_at names named one two ≡ finds r
let_found scene at named_at names named one two r is =
    found_by scene (under (bound_at names named_at) (entry_of named.type) scene) at named_at
    (Let named.note one.completed two.completed) two.type
    (avoided_type Positive (length scene.context) named.type.set two.type) r is

followed_got : {A B : Type 0} (s : logs.Logged A) (k : A → List Placed → logs.Logged B) (b : B) (l : List Placed)
    → logs.followed s k ≡ logs.Got b l → (a : A) × (m : List Placed) × (s ≡ logs.Got a m) × (k a m ≡ logs.Got b l)
followed_got logs.Lost k b l e = absurd (cc)
followed_got (logs.Stopped code at) k b l e = absurd (cc)
followed_got (logs.Got a m) k b l e = (a, m, refl, e)

-- the last step of a choice
ends_log : (o : Outcome Result) (m l : List Placed) (r : Result) → rows.ends o m ≡ logs.Got r l → m ≡ l
ends_log plain.NoAnswer m l r e = absurd (cc)
ends_log (plain.Refused code at) m l r e = absurd (cc)
ends_log (plain.Found v asked) m l r e = cc

ends_found : (o : Outcome Result) (m l : List Placed) (r : Result) (cause : Cause) (locals : List Local)
    (log : List Located) → rows.ends o m ≡ logs.Got r l → ends (because cause locals o) log ≡ Got r log
ends_found plain.NoAnswer m l r cause locals log e = absurd (cc)
ends_found (plain.Refused code at) m l r cause locals log e = absurd (cc)
ends_found (plain.Found v asked) m l r cause locals log e = let same : v ≡ r = cc in ap (λ x. Got x log) same

-- the test of a size that is refused
size_refused : (at place : Place) (b : Bool) (r : Result) (m : List Placed) (code : Code) (cause : Cause)
    (locals : List Local) (log : List Located) (told : Code → Cause) → told E18 ≡ cause
    → rows.ends (cond b (plain.finds r) (plain.Refused E18 at)) m ≡ logs.Stopped code place
    → ends (because cause locals (cond b (plain.finds r) (plain.Refused E18 at))) log ≡ Stopped (told code) place
size_refused at place true r m code cause locals log told is e = absurd (cc)
size_refused at place false r m code cause locals log told is e =
    let codes : E18 ≡ code = cc in
    let places : at ≡ place = cc in
    ap (λ x. Stopped x at) (sym is ∙ ap told codes) ∙ ap (Stopped (told code)) places

-- the branch, and then the last step
branch_refused : (b : Explained (Unit {0})) (cause : Cause) (before : List Placed) (log : List Located)
    (k : Unit {0} → List Placed → logs.Logged Result) (h : Unit {0} → List Located → Reached Result)
    (code : Code) (place : Place) (told : Code → Cause)
    → Comes (λ c. c ≡ cause) Any b → told (code_of cause) ≡ cause
    → ((u : Unit {0}) (m : List Placed) (l : List Located) → k u m ≡ logs.Stopped code place
    → h u l ≡ Stopped (told code) place)
    → logs.followed (logs.after before (outcome_of b)) k ≡ logs.Stopped code place
    → followed (after log b) h ≡ Stopped (told code) place
branch_refused NoAnswer cause before log k h code place told only is last e = absurd (cc)
branch_refused (Refused c at) cause before log k h code place told only is last e =
    let codes : code_of c ≡ code = cc in
    let places : at ≡ place = cc in
    ap (λ x. Stopped x at) (only ∙ sym is ∙ ap told (ap code_of (sym only) ∙ codes)) ∙ ap (Stopped (told code)) places
branch_refused (Found u asked) cause before log k h code place told only is last e = last u _ _ e

module _ (scene : Scene) (root : ℕ) (at part_at : Place) where
  pub choice_refused : {X : Type 0} (note : Note) (v : Var) (one two : Result) (view : X → List Local) (known : List X)
      (before : List DeclaredDemand) (code : Code) (place : Place)
      → rows.choice_log root scene.context at note v one two part_at (asked_of before) ≡ logs.Stopped code place
      → choice_log root scene at note v one two part_at (beside (asked_of before) (map view known))
      ≡ Stopped (choice_cause code scene note one.type.set two.type) place
  choice_refused Absent v one two view known before code place e = absurd (cc)
  choice_refused (Written s c) v one two view known before code place e =
      let note : Note = Written s c in
      let k : Unit {0} → List Placed → logs.Logged Result =
      λ u l. rows.ends (rows.choice_end root scene.context at note v one two) l in
      branch_refused (branch part_at scene note two.type) (note_cause scene note two.type) (asked_of before) _ k _ code
      place (λ x. choice_cause x scene note one.type.set two.type)
      (because_comes (λ x. x ≡ note_cause scene note two.type) (note_cause scene note two.type) scene.locals _ refl) refl
      (λ u m l stopped. size_refused at place _ _ m code _ scene.locals l
      (λ x. choice_cause x scene note one.type.set two.type) refl stopped)
      (ap (λ x. logs.followed x k) (sym (steps.branch_logs part_at scene note two.type (asked_of before))) ∙ e)
  choice_refused (Own s) v one two view known before code place e =
      let note : Note = Own s in
      let k : Unit {0} → List Placed → logs.Logged Result =
      λ u l. rows.ends (rows.choice_end root scene.context at note v one two) l in
      branch_refused (branch part_at scene note two.type) (note_cause scene note two.type) (asked_of before) _ k _ code
      place (λ x. choice_cause x scene note one.type.set two.type)
      (because_comes (λ x. x ≡ note_cause scene note two.type) (note_cause scene note two.type) scene.locals _ refl) refl
      (λ u m l stopped. size_refused at place _ _ m code _ scene.locals l
      (λ x. choice_cause x scene note one.type.set two.type) refl stopped)
      (ap (λ x. logs.followed x k) (sym (steps.branch_logs part_at scene note two.type (asked_of before))) ∙ e)

  choice_ended : (note : Note) (v : Var) (one two r : Result) (m l : List Placed) (log : List Located)
      → rows.ends (rows.choice_end root scene.context at note v one two) m ≡ logs.Got r l
      → (m ≡ l) × (ends (choice_end root scene at note v one two) log ≡ Got r log)
  choice_ended Absent v one two r m l log e = absurd (cc)
  choice_ended (Written s c) v one two r m l log e =
      (ends_log _ m l r e, ends_found _ m l r _ scene.locals log e)
  choice_ended (Own s) v one two r m l log e = (ends_log _ m l r e, ends_found _ m l r _ scene.locals log e)

  module _ (X : Type 0) (note : Note) (v : Var) (one two : Result) (view : X → List Local) (known next : List X)
      (before later : List DeclaredDemand) (count : ℕ) (r : Result)
      (even : length known ≡ length before)
      (is : rows.choice_log root scene.context at note v one two part_at (asked_of before)
      ≡ logs.Got r (asked_of later))
      (counted : count ≡ length later)
      (filled : map view next ≡ map view known ++ replicate (count - length known) scene.locals) where
    abbrev step : Explained (Unit {0})
    step = branch part_at scene note two.type

    abbrev last : Unit {0} → List Placed → logs.Logged Result
    last u l = rows.ends (rows.choice_end root scene.context at note v one two) l

    got : (u : Unit {0}) × (m : List Placed)
        × (logs.after (asked_of before) (outcome_of step) ≡ logs.Got u m) × (last u m ≡ logs.Got r (asked_of later))
    got = followed_got (logs.after (asked_of before) (outcome_of step)) last r (asked_of later)
        (ap (λ x. logs.followed x last) (sym (steps.branch_logs part_at scene note two.type (asked_of before))) ∙ is)

    stepped : logs.after (asked_of before) (outcome_of step) ≡ logs.Got got.0 (asked_of later)
    stepped =
        got.2 ∙ ap (logs.Got got.0) (choice_ended note v one two r got.1 (asked_of later)
        (beside (asked_of later) (map view next)) got.3).0

    pub choice_even : length next ≡ length later
    choice_even = steps.kept_even scene.locals view known next before later count got.0 step (outcome_of step) even refl
        stepped counted filled

    pub choice_found :
        choice_log root scene at note v one two part_at (beside (asked_of before) (map view known))
        ≡ Got r (beside (asked_of later) (map view next))
    choice_found =
        ap (λ s. followed s (λ u l. ends (choice_end root scene at note v one two) l))
        (steps.kept_step scene.locals view known next before later count got.0 step (outcome_of step) even refl
        stepped counted filled (steps.branch_at part_at scene note two.type))
        ∙ (choice_ended note v one two r got.1 (asked_of later) (beside (asked_of later) (map view next)) got.3).1
