-- Each step of explained inference by the step of inference: what it finds is what that finds, and where that is refused
-- the cause is known.
use Rattle.std.proofs.Common.{◌≡◌, ℕ, zero, suc, ◌+◌, ◌-◌, ◌≤◌, Bool, true, false, cond, List, [], ◌∷◌, ◌++◌, map, length}
use Rattle.std.proofs.Common.{replicate, Option, Some, None, refl, sym, ap, subst, ◌∙◌, arith, length-append}
use Rattle.std.proofs.lemmas.List.{length-map}
use Rattle.cc_base.specs.declared.code.Code.{Code}
use Rattle.cc_base.specs.declared.code.Code.TheVariants.{E14}
use Rattle.cc_base.specs.declared.literal.Base.{Base}
use Rattle.cc_base.specs.declared.place.Place.{Place}
use Rattle.cc_capture.specs.declared.var.Var.{Var}
use Rattle.cc_capture.specs.declared.var.Var.TheVariants.{Bound, Free}
use Rattle.cc_core.specs.Shapes.{Shape, BaseShape, CapturingType}
use Rattle.cc_core.specs.Terms.{Note, Absent, Written, Own, Term, VariableTerm, LiteralTerm, FunctionTerm}
use Rattle.cc_core.specs.Terms.{TypeFunctionTerm, BoxTerm, Application, TypeApplication, Unboxing, Let, Primitive}
use Rattle.cc_core.specs.Terms.{Conditional, Repetition, Operation, Boundary, Leave}
use Rattle.cc_core.specs.Contexts.{Bind, TermEntry, TypeEntry, Context, lookup}
use Rattle.cc_core.specs.Places.{Places, spots}
use Rattle.cc_checking.specs.Comparison.{Comparison, Unfinished, Mismatch, Matches}
use Rattle.cc_checking.specs.Outcomes as plain
use Rattle.cc_checking.specs.Outcomes.{Outcome, Placed}
use Rattle.cc_checking.specs.Inference.{Result, against, compared_at, capless, entry_type, variable_type, in_context}
use Rattle.cc_subty.specs.declared.demands.Demand.{Demand as DeclaredDemand}
use Rattle.cc_subty.specs.Demands.{demand_of, asked_of}
use Rattle.cc_known.specs.Keeping as kept
use Rattle.cc_known.specs.Keeping.{is_needless}
use Rattle.cc_known.specs.Logs as logs
use Rattle.cc_type.specs.Rows.{comparing, ways, branch_log, operand_log}
use Rattle.cc_reasons.specs.Causes.{Local, Scene, Cause, WrongType, WrongShape, NothingThere, Explained, NoAnswer}
use Rattle.cc_reasons.specs.Causes.{Refused, Found, outcome_of, asked_before, ◌>>=◌, because, located}
use Rattle.cc_reasons.specs.ExplainedInference.{BinderNames, typed, explained_below, explained_against, explained_operand}
use Rattle.cc_reasons.specs.ExplainedInference.{explained_argument, explained_note, explained_size, explained}
use Rattle.cc_reasons.proofs.ExplainedOutcomes.{below_is, because_is, IsRefusedBy}
use Rattle.cc_reasoning.specs.LocatedLogs.{Got, Stopped, after, beside}
use Rattle.cc_reasoning.specs.ExplainedLogs.{branch, note_cause}
use Rattle.cc_causes.specs.LeafReasons.{IsLeaf}
use Rattle.cc_reasoning.proofs.LocatedSteps.{IsAskedAt, then_at, because_at, found_step, refused_step}
use Rattle.cc_causes.proofs.LeafCauses.{Comes, Any, then_comes, because_comes, operand_comes}

-- a log only grows
keeping_longer : (asked list : List Placed) → length list ≤ length (kept.keeping list asked)
keeping_longer [] list = omega arith
keeping_longer (first ∷ asked) list =
    by_test (keeping_longer asked) (is_needless list first.asked) refl
  where
    by_test : ((next : List Placed) → length next ≤ length (kept.keeping next asked)) → (b : Bool)
        → is_needless list first.asked ≡ b → length list ≤ length (kept.keeping list (first ∷ asked))
    by_test longer true is =
        let same : kept.with_one list first ≡ list = ap (λ t. cond t list (list ++ first ∷ [])) is in
        subst (λ l. length list ≤ length (kept.keeping l asked)) (sym same) (longer list)
    by_test longer false is =
        let same : kept.with_one list first ≡ list ++ first ∷ [] = ap (λ t. cond t list (list ++ first ∷ [])) is in
        let more : length (list ++ first ∷ []) ≡ length list + 1 = length-append list (first ∷ []) in
        let grown : length (list ++ first ∷ []) ≤ length (kept.keeping (list ++ first ∷ []) asked) =
        longer (list ++ first ∷ []) in
        subst (λ l. length list ≤ length (kept.keeping l asked)) (sym same) (omega (arith, more, grown))

step_longer : {A : Type 0} (before later : List Placed) (value : A) (o : Outcome A)
    → logs.after before o ≡ logs.Got value later → length before ≤ length later
step_longer before later value plain.NoAnswer is = absurd (cc)
step_longer before later value (plain.Refused code at) is = absurd (cc)
step_longer before later value (plain.Found found asked) is =
    let same : kept.keeping before asked ≡ later = cc in
    subst (λ l. length before ≤ length l) same (keeping_longer asked before)

length-replicate-of : {A : Type 0} (n : ℕ) (x : A) → length (replicate n x) ≡ n
length-replicate-of zero x = refl
length-replicate-of (suc n) x = ap suc (length-replicate-of n x)

-- a step that was not refused, in the program's log and its list of local variables
module _ {A X : Type 0} (locals : List Local) (view : X → List Local) (known next : List X)
    (before later : List DeclaredDemand) (count : ℕ) (value : A) (o : Explained A) (outcome : Outcome A)
    (even : length known ≡ length before) (same : outcome_of o ≡ outcome)
    (is : logs.after (asked_of before) outcome ≡ logs.Got value (asked_of later))
    (counted : count ≡ length later)
    (filled : map view next ≡ map view known ++ replicate (count - length known) locals) where
  pub kept_even : length next ≡ length later
  kept_even =
      let longer : length (asked_of before) ≤ length (asked_of later) =
      step_longer (asked_of before) (asked_of later) value outcome is in
      let one : length (asked_of before) ≡ length before = length-map before demand_of in
      let two : length (asked_of later) ≡ length later = length-map later demand_of in
      let three : length (map view next) ≡ length next = length-map next view in
      let four : length (map view known) ≡ length known = length-map known view in
      let five : length (map view next) ≡ length (map view known) + length (replicate (count - length known) locals) =
      ap length filled ∙ length-append (map view known) (replicate (count - length known) locals) in
      let six : length (replicate (count - length known) locals) ≡ count - length known =
      length-replicate-of (count - length known) locals in
      omega (arith, longer, one, two, three, four, five, six, even, counted)

  pub kept_step : IsAskedAt locals o
      → after (beside (asked_of before) (map view known)) o ≡ Got value (beside (asked_of later) (map view next))
  kept_step here =
      let two : length (asked_of later) ≡ length later = length-map later demand_of in
      let four : length (map view known) ≡ length known = length-map known view in
      let one : length (asked_of before) ≡ length before = length-map before demand_of in
      let number : length (asked_of later) - length (map view known) ≡ count - length known =
      omega (arith, two, four, counted) in
      found_step locals (map view known) (asked_of before) (asked_of later) value o (four ∙ even ∙ sym one) here
      (ap (logs.after (asked_of before)) same ∙ is)
      ∙ ap (λ n. Got value (beside (asked_of later) (map view known ++ replicate n locals))) number
      ∙ ap (λ l. Got value (beside (asked_of later) l)) (sym filled)

-- a step that was refused
pub stopped_step : {A X : Type 0} (view : X → List Local) (known : List X) (before : List DeclaredDemand) (code : Code)
    (at : Place) (cause : Cause) (o : Explained A) (outcome : Outcome A)
    → outcome_of o ≡ outcome → (outcome_of o ≡ plain.Refused code at → o ≡ Refused cause at)
    → logs.after (asked_of before) outcome ≡ logs.Stopped code at
    → after (beside (asked_of before) (map view known)) o ≡ Stopped cause at
stopped_step view known before code at cause o outcome same told is =
    refused_step (map view known) (asked_of before) code at cause o told (ap (logs.after (asked_of before)) same ∙ is)

-- where a step asks
typed_at : (scene : Scene) (v : Var) → IsAskedAt scene.locals (typed scene v)
typed_at scene v = because_at NothingThere scene.locals _

pub below_at : (at : Place) (scene : Scene) (left right : CapturingType)
    → IsAskedAt scene.locals (explained_below ways at scene left right)
below_at at scene left right = because_at (WrongType scene left right) scene.locals _

pub against_at : (at : Place) (scene : Scene) (left right : Shape)
    → IsAskedAt scene.locals (explained_against ways at scene left right)
against_at at scene left right = because_at (WrongShape scene left right) scene.locals _

pub operand_at : (at : Place) (scene : Scene) (v : Var) (shape : Shape)
    → IsAskedAt scene.locals (explained_operand ways at scene v shape)
operand_at at scene v shape =
    then_at scene.locals (typed scene v) _ (typed_at scene v) (λ t. against_at at scene t.shape shape)

argument_at : (at : Place) (scene : Scene) (base : Option Base) (v : Option Var)
    → IsAskedAt scene.locals (explained_argument ways at scene base v)
argument_at at scene (Some base) (Some v) = operand_at at scene v (BaseShape base)
argument_at at scene (Some base) None = tt
argument_at at scene None (Some v) = tt
argument_at at scene None None = refl

pub note_at : (root : ℕ) (at : Place) (scene : Scene) (n : Note) (t : CapturingType)
    → IsAskedAt scene.locals (explained_note ways root at scene n t)
note_at root at scene Absent t = refl
note_at root at scene (Written s c) t =
    then_at scene.locals _ _ (below_at at scene t _) (λ u. refl)
note_at root at scene (Own s) t =
    then_at scene.locals _ _ (against_at at scene t.shape _) (λ u. refl)

pub branch_at : (at : Place) (scene : Scene) (n : Note) (t : CapturingType)
    → IsAskedAt scene.locals (branch at scene n t)
branch_at at scene Absent t = tt
branch_at at scene (Written s c) t = below_at at scene t _
branch_at at scene (Own s) t = against_at at scene t.shape _

size_at : (places : Places) (scene : Scene) (row : Explained Result) → IsAskedAt scene.locals row
    → IsAskedAt scene.locals (explained_size ways places scene row)
size_at places scene row here = then_at scene.locals row _ here (λ r. because_at _ scene.locals _)

-- a form without parts asks all with the local variables of its scene
pub leaf_at : (root : ℕ) (scene : Scene) (t : Term) (places : Places) (names : BinderNames) → IsLeaf t
    → IsAskedAt scene.locals (explained ways root scene t places names)
leaf_at root scene (VariableTerm v) places names leaf =
    size_at places scene _ (then_at scene.locals _ _ (typed_at scene v) (λ t. refl))
leaf_at root scene (LiteralTerm l) places names leaf = size_at places scene _ refl
leaf_at root scene (FunctionTerm s c t) places names leaf = absurd leaf
leaf_at root scene (TypeFunctionTerm s t) places names leaf = absurd leaf
leaf_at root scene (BoxTerm v) places names leaf =
    size_at places scene _ (then_at scene.locals _ _ (typed_at scene v) (λ t. refl))
leaf_at root scene (Application v w) places names leaf =
    size_at places scene _ (then_at scene.locals _ _ (typed_at scene v)
    (λ a. then_at scene.locals _ _ (because_at _ scene.locals _)
    (λ h. then_at scene.locals _ _ (typed_at scene w)
    (λ g. then_at scene.locals _ _ (below_at _ scene g _) (λ u. refl)))))
leaf_at root scene (TypeApplication v s) places names leaf =
    size_at places scene _ (then_at scene.locals _ _ (typed_at scene v)
    (λ a. then_at scene.locals _ _ (because_at _ scene.locals _)
    (λ h. then_at scene.locals _ _ (against_at _ scene _ _) (λ u. refl))))
leaf_at root scene (Unboxing o v) places names leaf =
    size_at places scene _ (then_at scene.locals _ _ (typed_at scene v)
    (λ a. then_at scene.locals _ _ (because_at _ scene.locals _)
    (λ c. then_at scene.locals _ _ (because_at NothingThere scene.locals _)
    (λ u. then_at scene.locals _ _
    (because_at {A = Unit {0}} NothingThere scene.locals (capless (spots places).second u)) (λ x. refl)))))
leaf_at root scene (Let n t u) places names leaf = absurd leaf
leaf_at root scene (Primitive o v w) places names leaf =
    size_at places scene _ (then_at scene.locals _ _ (operand_at _ scene v _)
    (λ u. then_at scene.locals _ _ (operand_at _ scene w _) (λ u. refl)))
leaf_at root scene (Conditional n v t u) places names leaf = absurd leaf
leaf_at root scene (Repetition v w) places names leaf =
    size_at places scene _ (then_at scene.locals _ _ (operand_at _ scene v _)
    (λ u. then_at scene.locals _ _ (operand_at _ scene w _) (λ u. refl)))
leaf_at root scene (Operation o v w) places names leaf =
    size_at places scene _ (then_at scene.locals _ _ (typed_at scene v)
    (λ a. then_at scene.locals _ _ (because_at _ scene.locals _)
    (λ h. then_at scene.locals _ _ (argument_at _ scene _ w) (λ u. refl))))
leaf_at root scene (Boundary s t) places names leaf = absurd leaf
leaf_at root scene (Leave s c v w) places names leaf =
    size_at places scene _ (then_at scene.locals _ _ (typed_at scene v)
    (λ a. then_at scene.locals _ _ (because_at _ scene.locals _)
    (λ h. then_at scene.locals _ _ (typed_at scene w)
    (λ g. then_at scene.locals _ _ (below_at _ scene g _) (λ u. refl)))))

-- the only cause
told_by : {A : Type 0} (code : Code) (cause : Cause) (o : Explained A) (at : Place) → Comes (λ c. c ≡ cause) Any o
    → outcome_of o ≡ plain.Refused code at → o ≡ Refused cause at
told_by code cause NoAnswer at h e = absurd (cc)
told_by code cause (Found value asked) at h e = absurd (cc)
told_by code cause (Refused other place) at h e =
    let places : place ≡ at = cc in ap (λ c. Refused c place) h ∙ ap (Refused cause) places

pub note_told : (root : ℕ) (at place : Place) (code : Code) (scene : Scene) (n : Note) (t : CapturingType)
    → outcome_of (explained_note ways root at scene n t) ≡ plain.Refused code place
    → explained_note ways root at scene n t ≡ Refused (note_cause scene n t) place
note_told root at place code scene Absent t =
    told_by code NothingThere (explained_note ways root at scene Absent t) place tt
note_told root at place code scene (Written s c) t =
    let P : Cause → Type 0 = λ x. x ≡ note_cause scene (Written s c) t in
    told_by code (note_cause scene (Written s c) t) (explained_note ways root at scene (Written s c) t) place
    (then_comes P Any Any _ _ (because_comes P (note_cause scene (Written s c) t) scene.locals _ refl) (λ u q. tt))
note_told root at place code scene (Own s) t =
    let P : Cause → Type 0 = λ x. x ≡ note_cause scene (Own s) t in
    told_by code (note_cause scene (Own s) t) (explained_note ways root at scene (Own s) t) place
    (then_comes P Any Any _ _ (because_comes P (note_cause scene (Own s) t) scene.locals _ refl) (λ u q. tt))

pub branch_told : (at place : Place) (code : Code) (scene : Scene) (n : Note) (t : CapturingType)
    → outcome_of (branch at scene n t) ≡ plain.Refused code place
    → branch at scene n t ≡ Refused (note_cause scene n t) place
branch_told at place code scene Absent t = told_by code NothingThere (branch at scene Absent t) place tt
branch_told at place code scene (Written s c) t =
    told_by code (note_cause scene (Written s c) t) (branch at scene (Written s c) t) place
    (because_comes (λ x. x ≡ note_cause scene (Written s c) t) (note_cause scene (Written s c) t) scene.locals _ refl)
branch_told at place code scene (Own s) t =
    told_by code (note_cause scene (Own s) t) (branch at scene (Own s) t) place
    (because_comes (λ x. x ≡ note_cause scene (Own s) t) (note_cause scene (Own s) t) scene.locals _ refl)

pub below_told : (at place : Place) (code : Code) (scene : Scene) (left right : CapturingType)
    → outcome_of (explained_below ways at scene left right) ≡ plain.Refused code place
    → explained_below ways at scene left right ≡ Refused (WrongType scene left right) place
below_told at place code scene left right =
    told_by code (WrongType scene left right) (explained_below ways at scene left right) place
    (because_comes (λ x. x ≡ WrongType scene left right) (WrongType scene left right) scene.locals _ refl)

by_compared : (at : Place) (c : Comparison) → IsRefusedBy E14 (compared_at at c)
by_compared at Unfinished = tt
by_compared at Mismatch = refl
by_compared at (Matches demands) = tt

against_is : (at : Place) (scene : Scene) (left right : Shape)
    → outcome_of (explained_against ways at scene left right) ≡ against comparing at scene.context left right
against_is at scene left right =
    because_is (WrongShape scene left right) scene.locals _ (by_compared at (comparing scene.context left right))

-- the branch of a choice, as inference over a log has it
pub branch_logs : (at : Place) (scene : Scene) (n : Note) (t : CapturingType) (log : List Placed)
    → branch_log at scene.context n t log ≡ logs.after log (outcome_of (branch at scene n t))
branch_logs at scene Absent t log = refl
branch_logs at scene (Written s c) t log = ap (logs.after log) (sym (below_is ways at scene t _))
branch_logs at scene (Own s) t log = ap (logs.after log) (sym (against_is at scene t.shape _))

nothing_before : {A : Type 0} (o : Explained A) → asked_before [] o ≡ o
nothing_before NoAnswer = refl
nothing_before (Refused cause at) = refl
nothing_before (Found value asked) = refl

-- it is not refused, and asks nothing
abbrev IsQuiet : {A : Type 0} → Outcome A → Type 0
IsQuiet plain.NoAnswer = Unit {0}
IsQuiet (plain.Refused code at) = ⊥
IsQuiet (plain.Found value asked) = asked ≡ []

entry_quiet : (v : Var) (o : Option Bind) → IsQuiet (entry_type v o)
entry_quiet v (Some (TermEntry s c)) = refl
entry_quiet v (Some (TypeEntry b)) = tt
entry_quiet v None = tt

variable_quiet : (g : Context) (v : Var) → IsQuiet (variable_type g v)
variable_quiet g (Free p) = entry_quiet (Free p) (lookup g p)
variable_quiet g (Bound i) = tt

quiet_logs : (at : Place) (scene : Scene) (shape : Shape) (log : List Placed) (o : Outcome CapturingType) → IsQuiet o
    → logs.plainly o (λ t. logs.after log (against comparing at scene.context t.shape shape))
    ≡ logs.after log
    (outcome_of (◌>>=◌ (because NothingThere scene.locals o) (λ t. explained_against ways at scene t.shape shape)))
unfolding ◌>>=◌
quiet_logs at scene shape log plain.NoAnswer quiet = refl
quiet_logs at scene shape log (plain.Refused code place) quiet = absurd quiet
quiet_logs at scene shape log (plain.Found t asked) quiet =
    let step : Explained (Unit {0}) = explained_against ways at scene t.shape shape in
    sym (ap (λ a. logs.after log (outcome_of (asked_before (map (located scene.locals) a) step))) quiet
    ∙ ap (λ x. logs.after log (outcome_of x)) (nothing_before step)
    ∙ ap (logs.after log) (against_is at scene t.shape shape))

-- an operand, as inference over a log has it
pub operand_logs : (at : Place) (scene : Scene) (v : Var) (shape : Shape) (log : List Placed)
    → operand_log at scene.context v shape log
    ≡ logs.after log (outcome_of (explained_operand ways at scene v shape))
operand_logs at scene v shape log =
    quiet_logs at scene shape log (variable_type scene.context (in_context scene.context v))
    (variable_quiet scene.context (in_context scene.context v))

pub operand_told : (at place : Place) (code : Code) (scene : Scene) (v : Var) (s : CapturingType) (shape : Shape)
    → variable_type scene.context (in_context scene.context v) ≡ plain.finds s
    → outcome_of (explained_operand ways at scene v shape) ≡ plain.Refused code place
    → explained_operand ways at scene v shape ≡ Refused (WrongShape scene s.shape shape) place
operand_told at place code scene v s shape found =
    told_by code (WrongShape scene s.shape shape) (explained_operand ways at scene v shape) place
    (operand_comes scene (λ x. x ≡ WrongShape scene s.shape shape) at v s shape found refl)
