-- Steps that settle: from some number of steps of comparisons on they come to one answer. Each step of inference
-- settles for what is well formed.
use Rattle.std.proofs.Common.{◌≡◌, ℕ, zero, ◌+◌, ◌≤◌, Bool, true, false, cond, List, [], ◌∷◌, Option, Some, None, refl, sym, ap, ◌∙◌, subst, inl, inr, arith}
use Rattle.cc_base.specs.declared.code.Code.{Code}
use Rattle.cc_base.specs.declared.code.Code.TheVariants.{E13, E14, E18}
use Rattle.cc_base.specs.declared.place.Place.{Place}
use Rattle.cc_base.specs.declared.literal.Base.{Base}
use Rattle.cc_capture.specs.declared.var.Var.{Var}
use Rattle.cc_capture.specs.declared.var.Var.TheVariants.{Bound, Free}
use Rattle.cc_capture.specs.Sets.{Set}
use Rattle.cc_core.specs.Shapes.{Shape, BaseShape, AnyShape, TypeVariable, FunctionShape, TypeFunctionShape, BoxShape, ExitShape, CapturingType, capturing}
use Rattle.cc_core.specs.Terms.{Note, Absent, Written, Own}
use Rattle.cc_core.specs.Contexts.{Bind, TermEntry, Context, lookup}
use Rattle.cc_core.specs.Equality.{same_shape}
use Rattle.cc_core.specs.WellFormed.{Kind, TermKind, kinds_of}
use Rattle.cc_core.specs.Places.{Places, spots}
use Rattle.cc_core.proofs.KindFacts.{IsOfKind, IsKinded, IsKindedType, IsKindedNote, IsKindedOptional, IsKinded-test}
use Rattle.cc_core.proofs.Sorts.{ShapeSort, TypeSort}
use Rattle.cc_core.proofs.SubcapturingContexts.{IsKindedContext, entry_of_term}
use Rattle.cc_checking.specs.Comparison.{Demand, demanded, Comparison, Unfinished, Mismatch, Matches, and_then, comparison}
use Rattle.cc_checking.specs.Outcomes.{Asked, Placed, Outcome, NoAnswer, Refused, Found, finds, asked_before, ◌>>=◌, found_or}
use Rattle.cc_checking.specs.Inference.{Result, in_context, shape_in, type_in, variable_type, entry_type, function_head, type_function_head, box_head, exit_head, device_head, opening_set, compared_at, below, against, operand, operation_argument, noted, part_below, part_against, tested, sized, limited}
use Rattle.cc_checking.specs.Weights.{IsEnough, enough_steps}
use Rattle.cc_typing_laws.proofs.ComparisonLemmas.{comparison_keeps}
use Rattle.cc_typing_laws.proofs.Endings.{comparison_enough}
use Rattle.cc_typing_laws.proofs.FormedContexts.{IsKindedContext-test}
use Rattle.cc_checking_laws.proofs.FoundFindings.{asked_of, Came, variable_came}
use Rattle.cc_checking_laws.proofs.FoundTypes.{has_kinded}
use Rattle.cc_checking_laws.proofs.ReadingKinds.{Inside, reading_moves, read_kinded}

-- the steps have an answer, and keep it with more of them
pub record Settles {A : Type 0} (at : ℕ → Outcome A) : Type 0 where
  pub steps : ℕ
  pub answer : Outcome A
  pub ends : answer ≡ NoAnswer → ⊥
  pub after : (n : ℕ) → steps ≤ n → at n ≡ answer

-- what does not depend on the number of steps
pub settles_now : {A : Type 0} (o : Outcome A) → (o ≡ NoAnswer → ⊥) → Settles (λ n. o)
settles_now o ends = record { steps = zero; answer = o; ends = ends; after = λ n h. refl }

pub settles_found : {A : Type 0} (a : A) → Settles (λ n. finds a)
settles_found a = settles_now (finds a) (λ e. cc)

asked_ends : {B : Type 0} (list : List Placed) (o : Outcome B) → (o ≡ NoAnswer → ⊥) → asked_before list o ≡ NoAnswer → ⊥
asked_ends list NoAnswer ends e = ends refl
asked_ends list (Refused code at) ends e = cc
asked_ends list (Found b more) ends e = cc

-- a step, and what follows for its value
module _ {A B : Type 0} (at : ℕ → Outcome A) (next : ℕ → A → Outcome B) (s : Settles at) where
  refused_then : (code : Code) (place : Place) → s.answer ≡ Refused code place → Settles (λ n. ◌>>=◌ (at n) (next n))
  unfolding ◌>>=◌
  refused_then code place e =
      record {
        steps = s.steps;
        answer = Refused code place;
        ends = λ e. cc;
        after = λ n h. ap (λ o. ◌>>=◌ o (next n)) (s.after n h ∙ e);
      }

  found_then : (a : A) (list : List Placed) → s.answer ≡ Found a list → Settles (λ n. next n a)
      → Settles (λ n. ◌>>=◌ (at n) (next n))
  unfolding ◌>>=◌
  found_then a list e rest =
      let first : ℕ = s.steps in
      let second : ℕ = rest.steps in
      record {
        steps = first + second;
        answer = asked_before list rest.answer;
        ends = asked_ends list rest.answer rest.ends;
        after =
            λ n h.
            let one : first ≤ n = omega arith in
            let two' : second ≤ n = omega arith in
            ap (λ o. ◌>>=◌ o (next n)) (s.after n one ∙ e) ∙ ap (asked_before list) (rest.after n two');
      }

-- where a step settles, and what follows settles for each value that is found, the two settle
pub settles_then : {A B : Type 0} {at : ℕ → Outcome A} {next : ℕ → A → Outcome B} → Settles at
    → ((a : A) (n : ℕ) (qs : List Asked) → Came (at n) a qs → Settles (λ m. next m a))
    → Settles (λ n. ◌>>=◌ (at n) (next n))
settles_then {A} {B} {at} {next} s k = by_answer s.answer refl
  where
    by_answer : (o : Outcome A) → s.answer ≡ o → Settles (λ n. ◌>>=◌ (at n) (next n))
    by_answer NoAnswer e = absurd (s.ends e)
    by_answer (Refused code place) e = refused_then at next s code place e
    by_answer (Found a list) e =
        let enough : s.steps ≤ s.steps = omega arith in
        found_then at next s a list e (k a s.steps (asked_of list) (list, s.after s.steps enough ∙ e, refl))

-- the test of the size
tested_ends : (b : Bool) (at : Place) (r : Result) → cond b (finds r) (Refused E18 at) ≡ NoAnswer → ⊥
tested_ends true at r e = cc
tested_ends false at r e = cc

pub settles_sized : (places : Places) {at : ℕ → Outcome Result} → Settles at
    → Settles (λ n. sized (limited n) places (at n))
settles_sized places s =
    settles_then s (λ r n qs c. settles_now (tested (limited 0) (spots places).at r) (tested_ends ((limited 0).passes r.type) (spots places).at r))

-- a comparison of well-formed shapes, and what is made of it
module _ (g : Context) (formed : IsKindedContext g) (l r : Shape) (kl : IsKinded (kinds_of g) [] l) (kr : IsKinded (kinds_of g) [] r) where
  enough : IsEnough (enough_steps g l r) g l r
  enough = comparison_enough g l r (IsKindedContext-test g formed) (IsKinded-test (kinds_of g) [] l kl) (IsKinded-test (kinds_of g) [] r kr)

  compared_after : (n : ℕ) → enough_steps g l r ≤ n → comparison n g l r ≡ comparison (enough_steps g l r) g l r
  compared_after n h =
      elim (comparison_keeps (enough_steps g l r) n h g l r) as (λ _. comparison n g l r ≡ comparison (enough_steps g l r) g l r) [
        | inl e ↦ absurd (enough e)
        | inr e ↦ sym e
      ]

  settles_comparing : (make : Comparison → Outcome (Unit {0}))
      → ((c : Comparison) → (c ≡ Unfinished → ⊥) → make c ≡ NoAnswer → ⊥)
      → Settles (λ n. make (comparison n g l r))
  settles_comparing make ends =
      record {
        steps = enough_steps g l r;
        answer = make (comparison (enough_steps g l r) g l r);
        ends = ends (comparison (enough_steps g l r) g l r) enough;
        after = λ n h. ap make (compared_after n h);
      }

compared_ends : (at : Place) (c : Comparison) → (c ≡ Unfinished → ⊥) → compared_at at c ≡ NoAnswer → ⊥
compared_ends at Unfinished done e = done refl
compared_ends at Mismatch done e = cc
compared_ends at (Matches ds) done e = cc

demanded_ends : (at : Place) (first : List Demand) (c : Comparison) → (c ≡ Unfinished → ⊥)
    → compared_at at (and_then (Matches first) c) ≡ NoAnswer → ⊥
demanded_ends at first Unfinished done e = done refl
demanded_ends at first Mismatch done e = cc
demanded_ends at first (Matches ds) done e = cc

pub settles_against : (at : Place) (g : Context) → IsKindedContext g → (l r : Shape) → IsKinded (kinds_of g) [] l
    → IsKinded (kinds_of g) [] r
    → Settles (λ n. against (comparison n) at g l r)
settles_against at g formed l r kl kr = settles_comparing g formed l r kl kr (compared_at at) (compared_ends at)

pub settles_below : (at : Place) (g : Context) → IsKindedContext g → (l r : CapturingType)
    → IsKinded (kinds_of g) [] l.shape → IsKinded (kinds_of g) [] r.shape
    → Settles (λ n. below (comparison n) at g l r)
settles_below at g formed l r kl kr =
    settles_comparing g formed l.shape r.shape kl kr (λ c. compared_at at (and_then (Matches (demanded g l.set r.set ∷ [])) c))
    (demanded_ends at (demanded g l.set r.set ∷ []))

-- variables
entry_answers : (v : Var) (o : Option Bind) (s : Shape) (d : Set) → o ≡ Some (TermEntry s d)
    → entry_type v o ≡ NoAnswer → ⊥
entry_answers v o s d there e = let found : entry_type v (Some (TermEntry s d)) ≡ NoAnswer = ap (entry_type v) (sym there) ∙ e in cc

variable_answers : (g : Context) (v : Var) → IsOfKind (kinds_of g) [] v TermKind → variable_type g v ≡ NoAnswer → ⊥
variable_answers g (Free p) k e = let entry = entry_of_term g p k in entry_answers (Free p) (lookup g p) entry.0 entry.1 entry.2 e
variable_answers g (Bound i) k e = cc

pub settles_variable : (g : Context) (v : Var) → IsOfKind (kinds_of g) [] v TermKind → Settles (λ n. variable_type g v)
settles_variable g v k = settles_now (variable_type g v) (variable_answers g v k)

-- heads
function_head_answers : (at : Place) (s : Shape) → function_head at s ≡ NoAnswer → ⊥
function_head_answers at (FunctionShape t c u x) e = cc
function_head_answers at (BaseShape b) e = cc
function_head_answers at AnyShape e = cc
function_head_answers at (TypeVariable v) e = cc
function_head_answers at (TypeFunctionShape b t c) e = cc
function_head_answers at (BoxShape t c) e = cc
function_head_answers at (ExitShape t) e = cc

pub settles_function_head : (at : Place) (s : Shape) → Settles (λ n. function_head at s)
settles_function_head at s = settles_now (function_head at s) (function_head_answers at s)

type_function_head_answers : (at : Place) (s : Shape) → type_function_head at s ≡ NoAnswer → ⊥
type_function_head_answers at (FunctionShape t c u x) e = cc
type_function_head_answers at (BaseShape b) e = cc
type_function_head_answers at AnyShape e = cc
type_function_head_answers at (TypeVariable v) e = cc
type_function_head_answers at (TypeFunctionShape b t c) e = cc
type_function_head_answers at (BoxShape t c) e = cc
type_function_head_answers at (ExitShape t) e = cc

pub settles_type_function_head : (at : Place) (s : Shape) → Settles (λ n. type_function_head at s)
settles_type_function_head at s = settles_now (type_function_head at s) (type_function_head_answers at s)

box_head_answers : (at : Place) (s : Shape) → box_head at s ≡ NoAnswer → ⊥
box_head_answers at (FunctionShape t c u x) e = cc
box_head_answers at (BaseShape b) e = cc
box_head_answers at AnyShape e = cc
box_head_answers at (TypeVariable v) e = cc
box_head_answers at (TypeFunctionShape b t c) e = cc
box_head_answers at (BoxShape t c) e = cc
box_head_answers at (ExitShape t) e = cc

pub settles_box_head : (at : Place) (s : Shape) → Settles (λ n. box_head at s)
settles_box_head at s = settles_now (box_head at s) (box_head_answers at s)

exit_head_answers : (at : Place) (s : Shape) → exit_head at s ≡ NoAnswer → ⊥
exit_head_answers at (FunctionShape t c u x) e = cc
exit_head_answers at (BaseShape b) e = cc
exit_head_answers at AnyShape e = cc
exit_head_answers at (TypeVariable v) e = cc
exit_head_answers at (TypeFunctionShape b t c) e = cc
exit_head_answers at (BoxShape t c) e = cc
exit_head_answers at (ExitShape t) e = cc

pub settles_exit_head : (at : Place) (s : Shape) → Settles (λ n. exit_head at s)
settles_exit_head at s = settles_now (exit_head at s) (exit_head_answers at s)

device_head_answers : (at : Place) (b : Bool) → ◌≡◌ {A = Outcome (Unit {0})} (cond b (finds tt) (Refused E13 at)) NoAnswer → ⊥
device_head_answers at true e = cc
device_head_answers at false e = cc

pub settles_device_head : (at : Place) (base : Base) (s : Shape) → Settles (λ n. device_head at base s)
settles_device_head at base s = settles_now (device_head at base s) (device_head_answers at (same_shape s (BaseShape base)))

-- the set of an unboxing
opening_answers : (at : Place) (g : Context) (c : Set) (o : Option Set) → opening_set at g c o ≡ NoAnswer → ⊥
opening_answers at g c (Some set) e = cc
opening_answers at g c None e = cc

pub settles_opening : (at : Place) (g : Context) (c : Set) (o : Option Set) → Settles (λ n. opening_set at g c o)
settles_opening at g c o = settles_now (opening_set at g c o) (opening_answers at g c o)

-- an avoided type
avoided_answers : {A : Type 0} (code : Code) (at : Place) (o : Option A) → found_or code at o ≡ NoAnswer → ⊥
avoided_answers code at (Some a) e = cc
avoided_answers code at None e = cc

pub settles_or : {A : Type 0} (code : Code) (at : Place) (o : Option A) → Settles (λ n. found_or code at o)
settles_or code at o = settles_now (found_or code at o) (avoided_answers code at o)

-- the shape of a variable that is found is well formed
pub found_shape : (g : Context) (v : Var) → IsKindedContext g → (n : ℕ) {t : CapturingType} {qs : List Asked}
    → Came (variable_type g v) t qs
    → IsKinded (kinds_of g) [] t.shape
found_shape g v formed n c =
    let x = variable_came g v c in subst (λ (t : CapturingType). IsKinded (kinds_of g) [] t.shape) (sym x.type) (has_kinded formed x.has).0

-- steps at a place of a context, for what is well formed under the binders passed
module _ {base g : Context} {passed : List Kind} (i : Inside base g passed) (formed : IsKindedContext g) where
  pub in_kind : (v : Var) → IsOfKind (kinds_of base) passed v TermKind
      → IsOfKind (kinds_of g) [] (in_context g v) TermKind
  in_kind v k = reading_moves i [] v TermKind k

  pub settles_there : (v : Var) → IsOfKind (kinds_of base) passed v TermKind
      → Settles (λ n. variable_type g (in_context g v))
  settles_there v k = settles_variable g (in_context g v) (in_kind v k)

  pub settles_operand : (at : Place) (v : Var) (s : Shape) → IsOfKind (kinds_of base) passed v TermKind
      → IsKinded (kinds_of g) [] s
      → Settles (λ n. operand (comparison n) at g v s)
  settles_operand at v s k ks =
      settles_then (settles_there v k) (λ t n qs c. settles_against at g formed t.shape s (found_shape g (in_context g v) formed n c) ks)

  pub settles_argument : (at : Place) (taken : Option Base) (v : Option Var) → IsKindedOptional (kinds_of base) passed v
      → Settles (λ n. operation_argument (comparison n) at g taken v)
  settles_argument at (Some b) (Some v) k = settles_operand at v (BaseShape b) k tt
  settles_argument at (Some b) None k = settles_now (Refused E14 at) (λ e. cc)
  settles_argument at None (Some v) k = settles_now (Refused E14 at) (λ e. cc)
  settles_argument at None None k = settles_found tt

  pub settles_noted : (root : ℕ) (at : Place) (note : Note) (t : CapturingType)
      → IsKindedNote (kinds_of base) passed note → IsKindedType (kinds_of g) [] t
      → Settles (λ n. noted (comparison n) root at g note t)
  settles_noted root at Absent t k kt = settles_found _
  settles_noted root at (Written s c) t k kt =
      settles_then (settles_below at g formed t (type_in g (capturing s c)) kt.0 (read_kinded i TypeSort (capturing s c) k).0) (λ u n qs c. settles_found _)
  settles_noted root at (Own s) t k kt =
      settles_then (settles_against at g formed t.shape (shape_in g s) kt.0 (read_kinded i ShapeSort s k)) (λ u n qs c. settles_found _)

-- a part with its comparison
pub settles_part_below : (at : Place) (g : Context) → IsKindedContext g → (t : CapturingType)
    → IsKinded (kinds_of g) [] t.shape → {row : ℕ → Outcome Result} → Settles row
    → ((r : Result) (n : ℕ) (qs : List Asked) → Came (row n) r qs → IsKindedType (kinds_of g) [] r.type)
    → Settles (λ n. part_below (comparison n) at g t (row n))
settles_part_below at g formed t kt s found =
    settles_then s (λ r n qs c. settles_then (settles_below at g formed r.type t (found r n qs c).0 kt) (λ u n qs c. settles_found r))

pub settles_part_against : (at : Place) (g : Context) → IsKindedContext g → (x : Shape) → IsKinded (kinds_of g) [] x
    → {row : ℕ → Outcome Result} → Settles row
    → ((r : Result) (n : ℕ) (qs : List Asked) → Came (row n) r qs → IsKindedType (kinds_of g) [] r.type)
    → Settles (λ n. part_against (comparison n) at g x (row n))
settles_part_against at g formed x kx s found =
    settles_then s (λ r n qs c. settles_then (settles_against at g formed r.type.shape x (found r n qs c).0 kx) (λ u n qs c. settles_found r))
