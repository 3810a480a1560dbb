-- The codes that definitions are refused with.
use Rattle.std.proofs.Common.{◌≡◌, ℕ, Bool, true, false, List, Option, Some, None, cond, sym, ◌∙◌, subst}
use Rattle.std.proofs.Common.{inl, inr}
use Rattle.cc_base.specs.declared.code.Code.{Code}
use Rattle.cc_base.specs.declared.code.Code.TheVariants.{E13, E14, E17, E18}
use Rattle.cc_base.specs.declared.literal.Base.{Base}
use Rattle.cc_base.specs.declared.place.Place.{Place}
use Rattle.cc_capture.specs.declared.var.Var.{Var}
use Rattle.cc_capture.specs.declared.var.Var.TheVariants.{Bound, Free}
use Rattle.cc_capture.specs.Sets.{Set}
use Rattle.cc_core.specs.Equality.{same_shape}
use Rattle.cc_core.specs.Contexts.{Bind, TermEntry, TypeEntry, Context, lookup}
use Rattle.cc_core.specs.Places.{Places, spots, first_part, second_part}
use Rattle.cc_core.specs.Shapes.{Shape, BaseShape, AnyShape, TypeVariable, FunctionShape, TypeFunctionShape, BoxShape}
use Rattle.cc_core.specs.Shapes.{ExitShape, CapturingType}
use Rattle.cc_core.specs.Typing.{base_operated, base_taken}
use Rattle.cc_core.specs.Terms.{Note, Absent, Written, Own, Term, VariableTerm, LiteralTerm, FunctionTerm}
use Rattle.cc_core.specs.Terms.{TypeFunctionTerm, BoxTerm, Application, TypeApplication, Unboxing, Let, Primitive}
use Rattle.cc_core.specs.Terms.{Conditional, Repetition, Operation, Boundary, Leave}
use Rattle.cc_checking.specs.Comparison.{Comparison, Unfinished, Mismatch, Matches, Comparing}
use Rattle.cc_checking.specs.Exposing.{exposed}
use Rattle.cc_checking.specs.Fillings.{Filling, code_of_failure}
use Rattle.cc_checking.specs.Inference.{Result, Ways, entry_type, variable_type, function_head, type_function_head, box_head}
use Rattle.cc_checking.specs.Inference.{exit_head, device_head, compared_at, below, against, operand, operation_argument}
use Rattle.cc_checking.specs.Inference.{opening_set, noted, part_below, part_against, sized, inferred, limited}
use Rattle.cc_checking.specs.Outcomes.{Asked, IsBelow, IsCapless, Placed, Outcome, NoAnswer, Refused, Found, asked_before}
use Rattle.cc_checking.specs.Outcomes.{finds, ◌>>=◌, found_or}
use Rattle.cc_checking.specs.Verdicts.{Definition, Checking, IsRefused, signature_verdict}
use Rattle.cc_checking.specs.Verdicts.{signature_under, plain_checked, recursive_checked, checked}
use Rattle.cc_checking.specs.Verdicts.{HasVerdict}
use Rattle.cc_entry_laws.specs.PresentFiles.{IsCodeOfDefinition}

-- a refusal has one of the codes
abbrev Answers : {A : Type 0} → Outcome A → Type 0
Answers NoAnswer = Unit {0}
Answers (Refused code at) = IsCodeOfDefinition code
Answers (Found value asked) = Unit {0}

record HasCodes {A : Type 0} (outcome : Outcome A) : Type 0 where
  answers : Answers outcome

-- ---- steps
answers_behind : {A : Type 0} (asked : List Placed) (o : Outcome A) → Answers o → Answers (asked_before asked o)
answers_behind asked NoAnswer h = tt
answers_behind asked (Refused code at) h = h
answers_behind asked (Found value more) h = tt

answers_then : {A B : Type 0} (o : Outcome A) (next : A → Outcome B) → Answers o → ((value : A) → HasCodes (next value))
    → Answers (◌>>=◌ o next)
unfolding ◌>>=◌
answers_then NoAnswer next h n = tt
answers_then (Refused code at) next h n = h
answers_then (Found value asked) next h n = answers_behind asked (next value) (n value).answers

then_codes : {A B : Type 0} {o : Outcome A} {next : A → Outcome B} → HasCodes o → ((value : A) → HasCodes (next value))
    → HasCodes (◌>>=◌ o next)
then_codes {o = o} {next = next} h n = record { answers = answers_then o next h.answers n }

found_codes : {A : Type 0} {value : A} {asked : List Placed} → HasCodes (Found value asked)
found_codes = record { answers = tt }

refused_codes : {A : Type 0} (code : Code) (at : Place) → IsCodeOfDefinition code → HasCodes {A = A} (Refused code at)
refused_codes code at h = record { answers = h }

none_codes : {A : Type 0} → HasCodes {A = A} NoAnswer
none_codes = record { answers = tt }

or_codes : {A : Type 0} (code : Code) (at : Place) (o : Option A) → IsCodeOfDefinition code
    → HasCodes (found_or code at o)
or_codes code at (Some value) h = found_codes
or_codes code at None h = refused_codes code at h

test_codes : {A : Type 0} (code : Code) (at : Place) (b : Bool) (value : A) → IsCodeOfDefinition code
    → HasCodes (cond b (finds value) (Refused code at))
test_codes code at true value h = found_codes
test_codes code at false value h = refused_codes code at h

-- ---- the steps of inference
entry_codes : (v : Var) (o : Option Bind) → HasCodes (entry_type v o)
entry_codes v (Some (TermEntry shape declared)) = found_codes
entry_codes v (Some (TypeEntry bound)) = none_codes
entry_codes v None = none_codes

variable_codes : (g : Context) (v : Var) → HasCodes (variable_type g v)
variable_codes g (Free position) = entry_codes (Free position) (lookup g position)
variable_codes g (Bound index) = none_codes

function_codes : (at : Place) (s : Shape) → HasCodes (function_head at s)
function_codes at (FunctionShape takes c gives e) = found_codes
function_codes at (BaseShape base) = refused_codes E13 at tt
function_codes at AnyShape = refused_codes E13 at tt
function_codes at (TypeVariable variable) = refused_codes E13 at tt
function_codes at (TypeFunctionShape bound gives e) = refused_codes E13 at tt
function_codes at (BoxShape content c) = refused_codes E13 at tt
function_codes at (ExitShape gives) = refused_codes E13 at tt

type_function_codes : (at : Place) (s : Shape) → HasCodes (type_function_head at s)
type_function_codes at (TypeFunctionShape bound gives e) = found_codes
type_function_codes at (FunctionShape takes c gives e) = refused_codes E13 at tt
type_function_codes at (BaseShape base) = refused_codes E13 at tt
type_function_codes at AnyShape = refused_codes E13 at tt
type_function_codes at (TypeVariable variable) = refused_codes E13 at tt
type_function_codes at (BoxShape content c) = refused_codes E13 at tt
type_function_codes at (ExitShape gives) = refused_codes E13 at tt

box_codes : (at : Place) (s : Shape) → HasCodes (box_head at s)
box_codes at (BoxShape content c) = found_codes
box_codes at (FunctionShape takes c gives e) = refused_codes E13 at tt
box_codes at (BaseShape base) = refused_codes E13 at tt
box_codes at AnyShape = refused_codes E13 at tt
box_codes at (TypeVariable variable) = refused_codes E13 at tt
box_codes at (TypeFunctionShape bound gives e) = refused_codes E13 at tt
box_codes at (ExitShape gives) = refused_codes E13 at tt

exit_codes : (at : Place) (s : Shape) → HasCodes (exit_head at s)
exit_codes at (ExitShape gives) = found_codes
exit_codes at (FunctionShape takes c gives e) = refused_codes E13 at tt
exit_codes at (BaseShape base) = refused_codes E13 at tt
exit_codes at AnyShape = refused_codes E13 at tt
exit_codes at (TypeVariable variable) = refused_codes E13 at tt
exit_codes at (TypeFunctionShape bound gives e) = refused_codes E13 at tt
exit_codes at (BoxShape content c) = refused_codes E13 at tt

device_codes : (at : Place) (base : Base) (s : Shape) → HasCodes (device_head at base s)
device_codes at base s = test_codes E13 at (same_shape s (BaseShape base)) tt tt

compared_codes : (at : Place) (comparison : Comparison) → HasCodes (compared_at at comparison)
compared_codes at Unfinished = none_codes
compared_codes at Mismatch = refused_codes E14 at tt
compared_codes at (Matches demands) = found_codes

opening_codes : (at : Place) (g : Context) (content : Set) (set : Option Set) → HasCodes (opening_set at g content set)
opening_codes at g content (Some set) = found_codes
opening_codes at g content None = found_codes

module _ (compare : Comparing) where
  below_codes : (at : Place) (g : Context) (left right : CapturingType) → HasCodes (below compare at g left right)
  below_codes at g left right = compared_codes at _

  against_codes : (at : Place) (g : Context) (left right : Shape) → HasCodes (against compare at g left right)
  against_codes at g left right = compared_codes at _

  operand_codes : (at : Place) (g : Context) (v : Var) (s : Shape) → HasCodes (operand compare at g v s)
  operand_codes at g v s = then_codes (variable_codes g _) (λ t. against_codes at g t.shape s)

  argument_codes : (at : Place) (g : Context) (base : Option Base) (v : Option Var)
      → HasCodes (operation_argument compare at g base v)
  argument_codes at g (Some base) (Some v) = operand_codes at g v _
  argument_codes at g (Some base) None = refused_codes E14 at tt
  argument_codes at g None (Some v) = refused_codes E14 at tt
  argument_codes at g None None = found_codes

  noted_codes : (root : ℕ) (at : Place) (g : Context) (note : Note) (t : CapturingType)
      → HasCodes (noted compare root at g note t)
  noted_codes root at g Absent t = found_codes
  noted_codes root at g (Written shape set) t = then_codes (below_codes at g t _) (λ _. found_codes)
  noted_codes root at g (Own shape) t = then_codes (against_codes at g t.shape _) (λ _. found_codes)

  part_below_codes : (at : Place) (g : Context) (t : CapturingType) (o : Outcome Result) → HasCodes o
      → HasCodes (part_below compare at g t o)
  part_below_codes at g t o h = then_codes h (λ part. then_codes (below_codes at g part.type t) (λ _. found_codes))

  part_against_codes : (at : Place) (g : Context) (s : Shape) (o : Outcome Result) → HasCodes o
      → HasCodes (part_against compare at g s o)
  part_against_codes at g s o h =
      then_codes h (λ part. then_codes (against_codes at g part.type.shape s) (λ _. found_codes))

module _ (ways : Ways) where
  sized_codes : (places : Places) (o : Outcome Result) → HasCodes o → HasCodes (sized ways places o)
  sized_codes places o h =
      then_codes h (λ found. test_codes E18 (spots places).at (ways.passes found.type) found tt)

  inferred_codes : (term : Term) (root : ℕ) (g : Context) (places : Places)
      → HasCodes (inferred ways root g term places)
  inferred_codes (VariableTerm v) root g places =
      sized_codes places _ (then_codes (variable_codes g _) (λ t. found_codes))
  inferred_codes (LiteralTerm literal) root g places = sized_codes places _ found_codes
  inferred_codes (FunctionTerm takes c body) root g places =
      sized_codes places _ (then_codes (inferred_codes body root _ (first_part places)) (λ part. found_codes))
  inferred_codes (TypeFunctionTerm bound body) root g places =
      sized_codes places _ (then_codes (inferred_codes body root _ (first_part places)) (λ part. found_codes))
  inferred_codes (BoxTerm v) root g places =
      sized_codes places _ (then_codes (variable_codes g _) (λ t. found_codes))
  inferred_codes (Application v w) root g places =
      sized_codes places _
      (then_codes (variable_codes g _)
      (λ applied. then_codes (function_codes _ _)
      (λ head. then_codes (variable_codes g _)
      (λ given. then_codes (below_codes ways.compare _ g _ _) (λ _. found_codes)))))
  inferred_codes (TypeApplication v s) root g places =
      sized_codes places _
      (then_codes (variable_codes g _)
      (λ applied. then_codes (type_function_codes _ _)
      (λ head. then_codes (against_codes ways.compare _ g _ _) (λ _. found_codes))))
  inferred_codes (Unboxing set v) root g places =
      sized_codes places _
      (then_codes (variable_codes g _)
      (λ opened. then_codes (box_codes _ _)
      (λ content. then_codes (opening_codes _ g _ set) (λ under. then_codes found_codes (λ _. found_codes)))))
  inferred_codes (Let note right body) root g places =
      sized_codes places _
      (then_codes (inferred_codes right root g (first_part places))
      (λ one. then_codes (noted_codes ways.compare root _ g note _)
      (λ named. then_codes (inferred_codes body root _ (second_part places))
      (λ two. then_codes (or_codes E17 _ _ tt) (λ type. found_codes)))))
  inferred_codes (Primitive operator v w) root g places =
      sized_codes places _
      (then_codes (operand_codes ways.compare _ g v _)
      (λ _. then_codes (operand_codes ways.compare _ g w _) (λ _. found_codes)))
  inferred_codes (Conditional Absent v s t) root g places = refused_codes E14 (spots places).at tt
  inferred_codes (Conditional (Written shape set) v s t) root g places =
      sized_codes places _
      (then_codes (operand_codes ways.compare _ g v _)
      (λ _. then_codes (part_below_codes ways.compare _ g _ _ (inferred_codes s root g (first_part places)))
      (λ one. then_codes (part_below_codes ways.compare _ g _ _ (inferred_codes t root g (second_part places)))
      (λ two. found_codes))))
  inferred_codes (Conditional (Own shape) v s t) root g places =
      sized_codes places _
      (then_codes (operand_codes ways.compare _ g v _)
      (λ _. then_codes (part_against_codes ways.compare _ g _ _ (inferred_codes s root g (first_part places)))
      (λ one. then_codes (part_against_codes ways.compare _ g _ _ (inferred_codes t root g (second_part places)))
      (λ two. found_codes))))
  inferred_codes (Repetition v w) root g places =
      sized_codes places _
      (then_codes (operand_codes ways.compare _ g v _)
      (λ _. then_codes (operand_codes ways.compare _ g w _) (λ _. found_codes)))
  inferred_codes (Operation operation v w) root g places =
      sized_codes places _
      (then_codes (variable_codes g _)
      (λ device. then_codes
      (device_codes (spots places).first (base_operated operation) (exposed g device.shape))
      (λ _. then_codes (argument_codes ways.compare _ g (base_taken operation) w) (λ _. found_codes))))
  inferred_codes (Boundary gives body) root g places =
      sized_codes places _
      (then_codes (part_below_codes ways.compare _ _ _ _ (inferred_codes body root _ (first_part places)))
      (λ part. found_codes))
  inferred_codes (Leave gives c v w) root g places =
      sized_codes places _
      (then_codes (variable_codes g _)
      (λ left. then_codes (exit_codes _ _)
      (λ takes. then_codes (variable_codes g _)
      (λ given. then_codes (below_codes ways.compare _ g _ _) (λ _. found_codes)))))

  -- ---- a definition
  plain_codes : (g : Context) (definition : Definition) → HasCodes (plain_checked ways g definition)
  plain_codes g definition =
      then_codes (inferred_codes definition.right _ g definition.places)
      (λ found. then_codes (noted_codes ways.compare _ _ g definition.note _) (λ named. found_codes))

  recursive_codes : (devices : ℕ) (g : Context) (definition : Definition) (note : Note)
      → HasCodes (recursive_checked ways devices g definition note)
  recursive_codes devices g definition (Written shape set) =
      then_codes (or_codes E17 definition.name_at _ tt)
      (λ signature. then_codes (inferred_codes definition.right _ _ definition.places)
      (λ found. then_codes (below_codes ways.compare _ _ _ _) (λ _. found_codes)))
  recursive_codes devices g definition Absent = refused_codes E14 definition.name_at tt
  recursive_codes devices g definition (Own shape) = refused_codes E14 definition.name_at tt

  checked_by : (devices : ℕ) (g : Context) (definition : Definition) (recursive : Bool)
      → HasCodes (cond recursive (recursive_checked ways devices g definition definition.note)
      (plain_checked ways g definition))
  checked_by devices g definition true = recursive_codes devices g definition definition.note
  checked_by devices g definition false = plain_codes g definition

  checked_codes : (devices : ℕ) (g : Context) (definition : Definition) → HasCodes (checked ways devices g definition)
  checked_codes devices g definition = checked_by devices g definition definition.recursive

-- ---- a verdict
same_refusal : (code other : Code) (at there : Place) → IsRefused code at ≡ IsRefused other there → code ≡ other
same_refusal code other at there same = cc

failure_code : (asked : Asked) → IsCodeOfDefinition (code_of_failure asked)
failure_code (IsBelow demand) = tt
failure_code (IsCapless set) = tt

signature_code : (filling : Filling) (definition : Definition) (found : Checking) (signature : Option CapturingType)
    (code : Code) (at : Place) → IsRefused code at ≡ signature_verdict filling definition found signature
    → IsCodeOfDefinition code
signature_code filling definition found (Some signature) code at same = cc
signature_code filling definition found None code at same =
    subst IsCodeOfDefinition (sym (same_refusal code E17 at definition.name_at same)) tt

-- a definition that is refused has one of the codes
pub refusal_code : (devices : ℕ) (globals : Context) (definition : Definition) (code : Code) (at : Place)
    → HasVerdict devices globals definition (IsRefused code at) → IsCodeOfDefinition code
refusal_code devices globals definition code at (NoAnswer, is, deserves) = absurd deserves
refusal_code devices globals definition code at (Refused first there, (steps, is, answered), deserves) =
    subst IsCodeOfDefinition (sym (same_refusal code first at there deserves))
    (let it = checked_codes (limited steps) devices globals definition in
    subst Answers is it.answers)
refusal_code devices globals definition code at (Found found asked, is, (filling, least, inl (first, there, fails, same))) =
    let (before, placed, after, stands, served, unserved, is_code, is_place) = fails in
    subst IsCodeOfDefinition (sym (same_refusal code first at there same ∙ is_code)) (failure_code placed.asked)
refusal_code devices globals definition code at (Found found asked, is, (filling, least, inr (served, same))) =
    signature_code filling definition found (signature_under filling devices globals found) code at same
