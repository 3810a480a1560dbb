-- What the function finds, the relation finds.
use Rattle.std.proofs.Common.{◌≡◌, ℕ, Bool, true, false, cond, List, [], ◌∷◌, ◌++◌, Option, Some, None, refl, sym, ap, ◌∙◌, subst}
use Rattle.std.specs.Prelude.{map}
use Rattle.cc_base.specs.declared.code.Code.TheVariants.{E13, E17, E18}
use Rattle.cc_base.specs.declared.place.Place.{Place}
use Rattle.cc_base.specs.declared.literal.Base.{Base}
use Rattle.cc_base.specs.declared.literal.Operator.{Operator}
use Rattle.cc_base.specs.declared.literal.Op.{Op}
use Rattle.cc_base.specs.Literals.{Literal}
use Rattle.cc_capture.specs.declared.var.Var.{Var}
use Rattle.cc_capture.specs.declared.var.Var.TheVariants.{Bound, Free}
use Rattle.cc_capture.specs.Sets.{Set, empty}
use Rattle.cc_core.specs.Shapes.{Shape, BaseShape, AnyShape, TypeVariable, FunctionShape, TypeFunctionShape, BoxShape, ExitShape, CapturingType, capturing}
use Rattle.cc_core.specs.Terms.{Note, Absent, Written, Own, Term, VariableTerm, LiteralTerm, FunctionTerm, TypeFunctionTerm, BoxTerm, Application, TypeApplication, Unboxing, Let, Primitive, Conditional, Repetition, Operation, Boundary, Leave}
use Rattle.cc_core.specs.Contexts.{Bind, TermEntry, TypeEntry, Context, lookup}
use Rattle.cc_core.specs.Equality.{same_shape}
use Rattle.cc_core.specs.Captured.{variable_set}
use Rattle.cc_core.specs.Substitution.{replaced_type, replaced_type_by_shape}
use Rattle.cc_core.specs.Typing.{base_operated, base_taken, base_answered}
use Rattle.cc_core.specs.Places.{Places, spots, first_part, second_part}
use Rattle.cc_checking.specs.Comparison.{Demand, demanded, Comparison, Unfinished, Mismatch, Matches, comparison, HasDemands, TypesHaveDemands}
use Rattle.cc_checking.specs.Exposing.{exposed}
use Rattle.cc_checking.specs.Outcomes.{Asked, IsBelow, IsCapless, Placed, Outcome, NoAnswer, Refused, Found, finds, asked_before, ◌>>=◌, found_or}
use Rattle.cc_checking.specs.Inference.{Result, result, Ways, in_context, set_in, shape_in, written_in, base_type, entry_type, variable_type, Function, TypeFunction, function_head, type_function_head, box_head, exit_head, device_head, demand_at, compared_at, below, against, operand, operation_argument, Named, noted, part_below, part_against, tested, sized, inferred}
use Rattle.cc_checking.proofs.ShapeEquality.{same_shape-true}
use Rattle.cc_checking_laws.proofs.Findings.{Has, below_all, Operand, Notes, notes-absent, notes-written, notes-own, Finds, finds-variable, finds-literal, finds-function, finds-type_function, finds-box, finds-application, finds-type_application, finds-unboxing, finds-unboxing_own, finds-let, finds-primitive, finds-choice, finds-choice_own, finds-repetition, finds-operation, finds-operation_alone, finds-boundary, finds-exit}

-- what is asked, without the places
abbrev pub asked_of : List Placed → List Asked
asked_of list = map (λ (p : Placed). p.asked) list

pub asked_of-append : (a b : List Placed) → asked_of (a ++ b) ≡ asked_of a ++ asked_of b
asked_of-append [] b = refl
asked_of-append (x ∷ a) b = ap (λ l. x.asked ∷ l) (asked_of-append a b)

pub asked_of-demands : (at : Place) (ds : List Demand) → asked_of (map (demand_at at) ds) ≡ below_all ds
asked_of-demands at [] = refl
asked_of-demands at (d ∷ ds) = ap (λ l. IsBelow d ∷ l) (asked_of-demands at ds)

-- the outcome is the value, and this is asked
abbrev pub Came : {A : Type 0} → Outcome A → A → List Asked → Type 0
Came o a qs = (list : List Placed) × (o ≡ Found a list) × (asked_of list ≡ qs)

found_parts : {A : Type 0} {a b : A} {x y : List Placed} → Found a x ≡ Found b y → (a ≡ b) × (x ≡ y)
found_parts e = (cc, cc)

-- a step and the rest
pub record Steps {A B : Type 0} (o : Outcome A) (next : A → Outcome B) (b : B) (qs : List Asked) : Type 0 where
  pub value : A
  pub first : List Asked
  pub second : List Asked
  pub came : Came o value first
  pub rest : Came (next value) b second
  pub all : qs ≡ first ++ second

then_found : {A B : Type 0} (o : Outcome A) {next : A → Outcome B} {b : B} {qs : List Asked} → Came (◌>>=◌ o next) b qs
    → Steps o next b qs
unfolding ◌>>=◌
then_found NoAnswer (list, e, q) = cc
then_found (Refused code at) (list, e, q) = cc
then_found (Found a asked) {next} {b} {qs} (list, e, q) = behind asked (next a) refl list e q
  where
    behind : (asked : List Placed) (o : Outcome _) → next a ≡ o → (list : List Placed) → asked_before asked o ≡ Found b list → asked_of list ≡ qs
        → Steps (Found a asked) next b qs
    behind asked NoAnswer k list e q = cc
    behind asked (Refused code at) k list e q = cc
    behind asked (Found b' more) k list e q =
        record {
          value = a;
          first = asked_of asked;
          second = asked_of more;
          came = (asked, refl, refl);
          rest = (more, k ∙ ap (λ x. Found x more) (found_parts e).0, refl);
          all = sym q ∙ ap asked_of (sym (found_parts e).1) ∙ asked_of-append asked more;
        }

pub then_came : {A B : Type 0} {o : Outcome A} {next : A → Outcome B} {b : B} {qs : List Asked} → Came (◌>>=◌ o next) b qs
    → Steps o next b qs
then_came {o = o} c = then_found o c

pub finds_came : {A : Type 0} {a b : A} {qs : List Asked} → Came (finds a) b qs → (b ≡ a) × (qs ≡ [])
finds_came (list, e, q) = let p = found_parts e in (sym p.0, sym q ∙ ap asked_of (sym p.1))

-- each step
entry_came : (v : Var) (o : Option Bind) {t : CapturingType} {qs : List Asked} → Came (entry_type v o) t qs
    → (s : Shape) × (d : Set) × (o ≡ Some (TermEntry s d)) × (t ≡ capturing s (variable_set v)) × (qs ≡ [])
entry_came v (Some (TermEntry s d)) c = let p = finds_came c in (s, d, refl, p.0, p.1)
entry_came v (Some (TypeEntry b)) (list, e, q) = cc
entry_came v None (list, e, q) = cc

pub record VariableFound (g : Context) (v : Var) (t : CapturingType) (qs : List Asked) : Type 0 where
  pub shape : Shape
  pub declared : Set
  pub has : Has g v shape declared
  pub type : t ≡ capturing shape (variable_set v)
  pub none : qs ≡ []

pub variable_came : (g : Context) (v : Var) {t : CapturingType} {qs : List Asked} → Came (variable_type g v) t qs → VariableFound g v t qs
variable_came g (Free p) c =
    let (s, d, there, t, n) = entry_came (Free p) (lookup g p) c in
    record { shape = s; declared = d; has = record { position = p; is = refl; there = there }; type = t; none = n }
variable_came g (Bound i) (list, e, q) = cc

pub function_head_came : (at : Place) (s : Shape) {h : Function} {qs : List Asked} → Came (function_head at s) h qs
    → (takes : Shape) × (c : Set) × (gives : Shape) × (e : Set) × (s ≡ FunctionShape takes c gives e)
    × (h ≡ record { takes = capturing takes c; gives = capturing gives e }) × (qs ≡ [])
function_head_came at (FunctionShape t c u e) k = let p = finds_came k in (t, c, u, e, refl, p.0, p.1)
function_head_came at (BaseShape b) (list, e, q) = cc
function_head_came at AnyShape (list, e, q) = cc
function_head_came at (TypeVariable v) (list, e, q) = cc
function_head_came at (TypeFunctionShape b t c) (list, e, q) = cc
function_head_came at (BoxShape t c) (list, e, q) = cc
function_head_came at (ExitShape t) (list, e, q) = cc

pub type_function_head_came : (at : Place) (s : Shape) {h : TypeFunction} {qs : List Asked} → Came (type_function_head at s) h qs
    → (bound : Shape) × (gives : Shape) × (e : Set) × (s ≡ TypeFunctionShape bound gives e)
    × (h ≡ record { bound = bound; gives = capturing gives e }) × (qs ≡ [])
type_function_head_came at (TypeFunctionShape b u e) k = let p = finds_came k in (b, u, e, refl, p.0, p.1)
type_function_head_came at (BaseShape b) (list, e, q) = cc
type_function_head_came at AnyShape (list, e, q) = cc
type_function_head_came at (TypeVariable v) (list, e, q) = cc
type_function_head_came at (FunctionShape t c u e') (list, e, q) = cc
type_function_head_came at (BoxShape t c) (list, e, q) = cc
type_function_head_came at (ExitShape t) (list, e, q) = cc

pub box_head_came : (at : Place) (s : Shape) {h : CapturingType} {qs : List Asked} → Came (box_head at s) h qs
    → (content : Shape) × (c : Set) × (s ≡ BoxShape content c) × (h ≡ capturing content c) × (qs ≡ [])
box_head_came at (BoxShape t c) k = let p = finds_came k in (t, c, refl, p.0, p.1)
box_head_came at (BaseShape b) (list, e, q) = cc
box_head_came at AnyShape (list, e, q) = cc
box_head_came at (TypeVariable v) (list, e, q) = cc
box_head_came at (FunctionShape t c u e') (list, e, q) = cc
box_head_came at (TypeFunctionShape b t c) (list, e, q) = cc
box_head_came at (ExitShape t) (list, e, q) = cc

pub exit_head_came : (at : Place) (s : Shape) {h : Shape} {qs : List Asked} → Came (exit_head at s) h qs
    → (takes : Shape) × (s ≡ ExitShape takes) × (h ≡ takes) × (qs ≡ [])
exit_head_came at (ExitShape t) k = let p = finds_came k in (t, refl, p.0, p.1)
exit_head_came at (BaseShape b) (list, e, q) = cc
exit_head_came at AnyShape (list, e, q) = cc
exit_head_came at (TypeVariable v) (list, e, q) = cc
exit_head_came at (FunctionShape t c u e') (list, e, q) = cc
exit_head_came at (TypeFunctionShape b t c) (list, e, q) = cc
exit_head_came at (BoxShape t c) (list, e, q) = cc

pub device_head_came : (at : Place) (base : Base) (s : Shape) {u : Unit {0}} {qs : List Asked} → Came (device_head at base s) u qs
    → (s ≡ BaseShape base) × (qs ≡ [])
device_head_came at base s {u} {qs} c = by_test (same_shape s (BaseShape base)) refl c
  where
    by_test : (b : Bool) → same_shape s (BaseShape base) ≡ b → Came (cond b (finds tt) (Refused E13 at)) u qs → (s ≡ BaseShape base) × (qs ≡ [])
    by_test true k c = (same_shape-true s (BaseShape base) k, (finds_came c).1)
    by_test false k (list, e, q) = cc

pub compared_came : (at : Place) (c : Comparison) {u : Unit {0}} {qs : List Asked} → Came (compared_at at c) u qs
    → (ds : List Demand) × (c ≡ Matches ds) × (qs ≡ below_all ds)
compared_came at Unfinished (list, e, q) = cc
compared_came at Mismatch (list, e, q) = cc
compared_came at (Matches ds) (list, e, q) = (ds, refl, sym q ∙ ap asked_of (sym (found_parts e).1) ∙ asked_of-demands at ds)

pub joined : {qs a b a' b' : List Asked} → qs ≡ a ++ b → a ≡ a' → b ≡ b' → qs ≡ a' ++ b'
joined {b = b} {a' = a'} k p q = k ∙ ap (λ l. l ++ b) p ∙ ap (λ l. a' ++ l) q

pub below_came : (n : ℕ) (at : Place) (g : Context) (l r : CapturingType) {u : Unit {0}} {qs : List Asked} → Came (below (comparison n) at g l r) u qs
    → (ds : List Demand) × TypesHaveDemands g l r ds × (qs ≡ below_all ds)
below_came n at g l r c = let p = compared_came at _ c in (p.0, (n, p.1), p.2)

against_came : (n : ℕ) (at : Place) (g : Context) (l r : Shape) {u : Unit {0}} {qs : List Asked} → Came (against (comparison n) at g l r) u qs
    → (ds : List Demand) × HasDemands g l r ds × (qs ≡ below_all ds)
against_came n at g l r c = let p = compared_came at _ c in (p.0, (n, p.1), p.2)

operand_came : (n : ℕ) (at : Place) (g : Context) (v : Var) (s : Shape) {u : Unit {0}} {qs : List Asked} → Came (operand (comparison n) at g v s) u qs
    → (ds : List Demand) × Operand g v s ds × (qs ≡ below_all ds)
operand_came n at g v s c =
    let k = then_came c in
    let x = variable_came g (in_context g v) k.came in
    let a = against_came n at g k.value.shape s k.rest in
    (a.0, record { shape = x.shape; declared = x.declared; has = x.has; demands = subst (λ (t : CapturingType). HasDemands g t.shape s a.0) x.type a.1 }, joined k.all x.none a.2)

pub noted_came : (n root : ℕ) (at : Place) (g : Context) (note : Note) (t : CapturingType) {named : Named} {qs : List Asked} → Came (noted (comparison n) root at g note t) named qs
    → Notes root g note t named qs
noted_came n root at g Absent t {named} {qs} c =
    let p = finds_came c in subst (λ x. Notes root g Absent t x qs) (sym p.0) (subst (Notes root g Absent t _) (sym p.1) notes-absent)
noted_came n root at g (Written s x) t {named} {qs} c =
    let k = then_came c in
    let b = below_came n at g t _ k.came in
    let f = finds_came k.rest in
    subst (λ y. Notes root g (Written s x) t y qs) (sym f.0) (subst (Notes root g (Written s x) t _) (sym (joined k.all b.2 f.1)) (notes-written b.1))
noted_came n root at g (Own s) t {named} {qs} c =
    let k = then_came c in
    let b = against_came n at g t.shape _ k.came in
    let f = finds_came k.rest in
    subst (λ y. Notes root g (Own s) t y qs) (sym f.0) (subst (Notes root g (Own s) t _) (sym (joined k.all b.2 f.1)) (notes-own b.1))

pub avoided_came : (at : Place) (o : Option CapturingType) {t : CapturingType} {qs : List Asked} → Came (found_or E17 at o) t qs → (o ≡ Some t) × (qs ≡ [])
avoided_came at (Some x) c = let p = finds_came c in (ap (λ y. Some y) (sym p.0), p.1)
avoided_came at None (list, e, q) = cc

pub append_none : (qs : List Asked) → qs ++ [] ≡ qs
append_none [] = refl
append_none (q ∷ qs) = ap (λ l. q ∷ l) (append_none qs)

tested_came : (w : Ways) (at : Place) (a : Result) {r : Result} {qs : List Asked} → Came (tested w at a) r qs → (r ≡ a) × (qs ≡ [])
tested_came w at a {r} {qs} c = by_test (w.passes a.type) c
  where
    by_test : (b : Bool) → Came (cond b (finds a) (Refused E18 at)) r qs → (r ≡ a) × (qs ≡ [])
    by_test true c = finds_came c
    by_test false (list, e, q) = cc

pub sized_came : (w : Ways) (places : Places) {o : Outcome Result} {r : Result} {qs : List Asked} → Came (sized w places o) r qs → Came o r qs
sized_came w places {o} {r} {qs} c =
    let k = then_came c in
    let t = tested_came w _ k.value k.rest in
    subst (λ x. Came o x qs) (sym t.0) (subst (Came o k.value) (sym (joined k.all refl t.1 ∙ append_none k.first)) k.came)

module _ (n root : ℕ) (passes : CapturingType → Bool) where
  abbrev ways : Ways
  ways = record { compare = comparison n; passes = passes }

  as_found : {g : Context} {t : Term} {r r' : Result} {qs qs' : List Asked} → Finds root g t r' qs' → r ≡ r' → qs ≡ qs' → Finds root g t r qs
  as_found {g} {t} {r} {r'} {qs} {qs'} f p q = subst (λ x. Finds root g t x qs) (sym p) (subst (Finds root g t r') (sym q) f)

  -- the same is found for a part
  abbrev Again : Term → Type 0
  Again t = (g : Context) (places : Places) (r : Result) (qs : List Asked) → Came (inferred ways root g t places) r qs → Finds root g t r qs

  row_variable : (g : Context) (v : Var) (places : Places) {r : Result} {qs : List Asked} → Came (inferred ways root g (VariableTerm v) places) r qs → Finds root g (VariableTerm v) r qs
  row_variable g v places c =
      let k = then_came (sized_came ways places c) in
      let x = variable_came g (in_context g v) k.came in
      let f = finds_came k.rest in
      as_found (finds-variable x.has) (f.0 ∙ ap (λ t. result t (VariableTerm v)) x.type) (joined k.all x.none f.1)

  row_literal : (g : Context) (l : Literal) (places : Places) {r : Result} {qs : List Asked} → Came (inferred ways root g (LiteralTerm l) places) r qs → Finds root g (LiteralTerm l) r qs
  row_literal g l places c = let f = finds_came (sized_came ways places c) in as_found finds-literal f.0 f.1

  row_function : (g : Context) (takes : Shape) (x : Set) (body : Term) (places : Places) {r : Result} {qs : List Asked} → Again body
      → Came (inferred ways root g (FunctionTerm takes x body) places) r qs → Finds root g (FunctionTerm takes x body) r qs
  row_function g takes x body places again c =
      let k = then_came (sized_came ways places c) in
      let f = finds_came k.rest in
      as_found (finds-function (again _ (first_part places) _ _ k.came)) f.0 (joined k.all refl f.1)

  row_type_function : (g : Context) (bound : Shape) (body : Term) (places : Places) {r : Result} {qs : List Asked} → Again body
      → Came (inferred ways root g (TypeFunctionTerm bound body) places) r qs → Finds root g (TypeFunctionTerm bound body) r qs
  row_type_function g bound body places again c =
      let k = then_came (sized_came ways places c) in
      let f = finds_came k.rest in
      as_found (finds-type_function (again _ (first_part places) _ _ k.came)) f.0 (joined k.all refl f.1)

  row_box : (g : Context) (v : Var) (places : Places) {r : Result} {qs : List Asked} → Came (inferred ways root g (BoxTerm v) places) r qs → Finds root g (BoxTerm v) r qs
  row_box g v places c =
      let k = then_came (sized_came ways places c) in
      let x = variable_came g (in_context g v) k.came in
      let f = finds_came k.rest in
      as_found (finds-box x.has) (f.0 ∙ ap (λ (t : CapturingType). result (capturing (BoxShape t.shape t.set) empty) (BoxTerm v)) x.type) (joined k.all x.none f.1)

  row_application : (g : Context) (v w : Var) (places : Places) {r : Result} {qs : List Asked} → Came (inferred ways root g (Application v w) places) r qs → Finds root g (Application v w) r qs
  row_application g v w places c =
      let k = then_came (sized_came ways places c) in
      let k2 = then_came k.rest in
      let k3 = then_came k2.rest in
      let k4 = then_came k3.rest in
      let f = finds_came k4.rest in
      let x = variable_came g (in_context g v) k.came in
      let h = function_head_came _ (exposed g k.value.shape) k2.came in
      let y = variable_came g (in_context g w) k3.came in
      let b = below_came n _ g k3.value k2.value.takes k4.came in
      as_found
      (finds-application x.has (ap (λ (t : CapturingType). exposed g t.shape) (sym x.type) ∙ h.4) y.has
      (subst (λ (t : CapturingType). TypesHaveDemands g t (capturing h.0 h.1) b.0) y.type (subst (λ (t : Function). TypesHaveDemands g k3.value t.takes b.0) h.5 b.1)))
      (f.0 ∙ ap (λ (t : Function). result (replaced_type (in_context g w) t.gives) (Application v w)) h.5)
      (joined k.all x.none (joined k2.all h.6 (joined k3.all y.none (joined k4.all b.2 f.1))))

  row_type_application : (g : Context) (v : Var) (s : Shape) (places : Places) {r : Result} {qs : List Asked} → Came (inferred ways root g (TypeApplication v s) places) r qs → Finds root g (TypeApplication v s) r qs
  row_type_application g v s places c =
      let k = then_came (sized_came ways places c) in
      let k2 = then_came k.rest in
      let k4 = then_came k2.rest in
      let f = finds_came k4.rest in
      let x = variable_came g (in_context g v) k.came in
      let h = type_function_head_came _ (exposed g k.value.shape) k2.came in
      let b = against_came n _ g (shape_in g s) k2.value.bound k4.came in
      as_found
      (finds-type_application x.has (ap (λ (t : CapturingType). exposed g t.shape) (sym x.type) ∙ h.3)
      (subst (λ (t : TypeFunction). HasDemands g (shape_in g s) t.bound b.0) h.4 b.1))
      (f.0 ∙ ap (λ (t : TypeFunction). result (replaced_type_by_shape (shape_in g s) t.gives) (TypeApplication v s)) h.4)
      (joined k.all x.none (joined k2.all h.5 (joined k4.all b.2 f.1)))

  row_unboxing : (g : Context) (set : Option Set) (v : Var) (places : Places) {r : Result} {qs : List Asked} → Came (inferred ways root g (Unboxing set v) places) r qs → Finds root g (Unboxing set v) r qs
  row_unboxing g (Some set) v places c =
      let k = then_came (sized_came ways places c) in
      let k2 = then_came k.rest in
      let k3 = then_came k2.rest in
      let k4 = then_came k3.rest in
      let f = finds_came k4.rest in
      let x = variable_came g (in_context g v) k.came in
      let h = box_head_came _ (exposed g k.value.shape) k2.came in
      let o = found_parts k3.came.1 in
      let p = found_parts k4.came.1 in
      as_found
      (finds-unboxing x.has (ap (λ (t : CapturingType). exposed g t.shape) (sym x.type) ∙ h.2))
      (f.0 ∙ ap (λ (t : CapturingType). result (capturing t.shape k3.value) (Unboxing (Some set) v)) h.3 ∙ ap (λ (t : Set). result (capturing h.0 t) (Unboxing (Some set) v)) (sym o.0))
      (joined k.all x.none (joined k2.all h.4 (joined k3.all
      (sym k3.came.2 ∙ ap asked_of (sym o.1) ∙ ap (λ (t : CapturingType). IsBelow (demanded g t.set (set_in g set)) ∷ []) h.3)
      (joined k4.all (sym k4.came.2 ∙ ap asked_of (sym p.1) ∙ ap (λ (t : Set). IsCapless t ∷ []) (sym o.0)) f.1))))
  row_unboxing g None v places c =
      let k = then_came (sized_came ways places c) in
      let k2 = then_came k.rest in
      let k3 = then_came k2.rest in
      let k4 = then_came k3.rest in
      let f = finds_came k4.rest in
      let x = variable_came g (in_context g v) k.came in
      let h = box_head_came _ (exposed g k.value.shape) k2.came in
      let o = found_parts k3.came.1 in
      let p = found_parts k4.came.1 in
      let is : k3.value ≡ h.1 = sym o.0 ∙ ap (λ (t : CapturingType). t.set) h.3 in
      as_found
      (finds-unboxing_own x.has (ap (λ (t : CapturingType). exposed g t.shape) (sym x.type) ∙ h.2))
      (f.0 ∙ ap (λ (t : CapturingType). result (capturing t.shape k3.value) (Unboxing (Some (written_in root g k3.value)) v)) h.3 ∙ ap (λ (t : Set). result (capturing h.0 t) (Unboxing (Some (written_in root g t)) v)) is)
      (joined k.all x.none (joined k2.all h.4 (joined k3.all (sym k3.came.2 ∙ ap asked_of (sym o.1))
      (joined k4.all (sym k4.came.2 ∙ ap asked_of (sym p.1) ∙ ap (λ (t : Set). IsCapless t ∷ []) is) f.1))))

  row_let : (g : Context) (note : Note) (s t : Term) (places : Places) {r : Result} {qs : List Asked} → Again s → Again t
      → Came (inferred ways root g (Let note s t) places) r qs → Finds root g (Let note s t) r qs
  row_let g note s t places again again' c =
      let k = then_came (sized_came ways places c) in
      let k2 = then_came k.rest in
      let k3 = then_came k2.rest in
      let k4 = then_came k3.rest in
      let f = finds_came k4.rest in
      let a = avoided_came _ _ k4.came in
      as_found
      (finds-let (again g (first_part places) _ _ k.came) (noted_came n root _ g note k.value.type k2.came) (again' _ (second_part places) _ _ k3.came) a.0)
      f.0
      (joined k.all refl (joined k2.all refl (joined k3.all refl (joined k4.all a.1 f.1))))

  row_primitive : (g : Context) (o : Operator) (v w : Var) (places : Places) {r : Result} {qs : List Asked} → Came (inferred ways root g (Primitive o v w) places) r qs → Finds root g (Primitive o v w) r qs
  row_primitive g o v w places c =
      let k = then_came (sized_came ways places c) in
      let k2 = then_came k.rest in
      let f = finds_came k2.rest in
      let a = operand_came n _ g v _ k.came in
      let b = operand_came n _ g w _ k2.came in
      as_found (finds-primitive a.1 b.1) f.0 (joined k.all a.2 (joined k2.all b.2 f.1))

  row_repetition : (g : Context) (v w : Var) (places : Places) {r : Result} {qs : List Asked} → Came (inferred ways root g (Repetition v w) places) r qs → Finds root g (Repetition v w) r qs
  row_repetition g v w places c =
      let k = then_came (sized_came ways places c) in
      let k2 = then_came k.rest in
      let f = finds_came k2.rest in
      let a = operand_came n _ g v _ k.came in
      let b = operand_came n _ g w _ k2.came in
      as_found (finds-repetition a.1 b.1) f.0 (joined k.all a.2 (joined k2.all b.2 f.1))

  -- a branch with its comparison
  record Branch (g : Context) (t : Term) (r : Result) (qs : List Asked) (type : CapturingType) : Type 0 where
    part : List Asked
    demands : List Demand
    found : Finds root g t r part
    below : TypesHaveDemands g r.type type demands
    all : qs ≡ part ++ (below_all demands ++ [])

  branch_came : (at : Place) (g : Context) (t : Term) (places : Places) (type : CapturingType) {r : Result} {qs : List Asked} → Again t
      → Came (part_below (comparison n) at g type (inferred ways root g t places)) r qs → Branch g t r qs type
  branch_came at g t places type {r} {qs} again c =
      let k = then_came c in
      let k2 = then_came k.rest in
      let f = finds_came k2.rest in
      let b = below_came n at g k.value.type type k2.came in
      record {
        part = k.first;
        demands = b.0;
        found = subst (λ x. Finds root g t x k.first) (sym f.0) (again g places _ _ k.came);
        below = subst (λ (x : Result). TypesHaveDemands g x.type type b.0) (sym f.0) b.1;
        all = joined k.all refl (joined k2.all b.2 f.1);
      }

  record BranchOfShape (g : Context) (t : Term) (r : Result) (qs : List Asked) (shape : Shape) : Type 0 where
    part : List Asked
    demands : List Demand
    found : Finds root g t r part
    below : HasDemands g r.type.shape shape demands
    all : qs ≡ part ++ (below_all demands ++ [])

  branch_of_shape_came : (at : Place) (g : Context) (t : Term) (places : Places) (shape : Shape) {r : Result} {qs : List Asked} → Again t
      → Came (part_against (comparison n) at g shape (inferred ways root g t places)) r qs → BranchOfShape g t r qs shape
  branch_of_shape_came at g t places shape {r} {qs} again c =
      let k = then_came c in
      let k2 = then_came k.rest in
      let f = finds_came k2.rest in
      let b = against_came n at g k.value.type.shape shape k2.came in
      record {
        part = k.first;
        demands = b.0;
        found = subst (λ x. Finds root g t x k.first) (sym f.0) (again g places _ _ k.came);
        below = subst (λ (x : Result). HasDemands g x.type.shape shape b.0) (sym f.0) b.1;
        all = joined k.all refl (joined k2.all b.2 f.1);
      }

  row_choice : (g : Context) (x : Shape) (y : Set) (v : Var) (s t : Term) (places : Places) {r : Result} {qs : List Asked} → Again s → Again t
      → Came (inferred ways root g (Conditional (Written x y) v s t) places) r qs → Finds root g (Conditional (Written x y) v s t) r qs
  row_choice g x y v s t places again again' c =
      let k = then_came (sized_came ways places c) in
      let k2 = then_came k.rest in
      let k3 = then_came k2.rest in
      let f = finds_came k3.rest in
      let a = operand_came n _ g v _ k.came in
      let b = branch_came _ g s (first_part places) _ again k2.came in
      let b' = branch_came _ g t (second_part places) _ again' k3.came in
      as_found (finds-choice a.1 b.found b.below b'.found b'.below) f.0 (joined k.all a.2 (joined k2.all b.all (joined k3.all b'.all f.1)))

  row_choice_own : (g : Context) (x : Shape) (v : Var) (s t : Term) (places : Places) {r : Result} {qs : List Asked} → Again s → Again t
      → Came (inferred ways root g (Conditional (Own x) v s t) places) r qs → Finds root g (Conditional (Own x) v s t) r qs
  row_choice_own g x v s t places again again' c =
      let k = then_came (sized_came ways places c) in
      let k2 = then_came k.rest in
      let k3 = then_came k2.rest in
      let f = finds_came k3.rest in
      let a = operand_came n _ g v _ k.came in
      let b = branch_of_shape_came _ g s (first_part places) _ again k2.came in
      let b' = branch_of_shape_came _ g t (second_part places) _ again' k3.came in
      as_found (finds-choice_own a.1 b.found b.below b'.found b'.below) f.0 (joined k.all a.2 (joined k2.all b.all (joined k3.all b'.all f.1)))

  argument_came : (g : Context) (v : Var) (o : Op) (places : Places) (taken : Option Base) (w : Option Var) (s : Shape) (d : Set) {u : Unit {0}} {qs : List Asked} → base_taken o ≡ taken
      → Has g (in_context g v) s d → exposed g s ≡ BaseShape (base_operated o)
      → Came (operation_argument (comparison n) (spots places).second g taken w) u qs
      → Finds root g (Operation o v w) (result (base_type (base_answered o)) (Operation o v w)) (qs ++ [])
  argument_came g v o places (Some base) (Some w) s d {qs = qs} e has x c =
      let a = operand_came n _ g w _ c in
      subst (λ l. Finds root g (Operation o v (Some w)) (result (base_type (base_answered o)) (Operation o v (Some w))) (l ++ [])) (sym a.2) (finds-operation has x e a.1)
  argument_came g v o places (Some base) None s d e has x (list, p, q) = cc
  argument_came g v o places None (Some w) s d e has x (list, p, q) = cc
  argument_came g v o places None None s d e has x c =
      subst (λ l. Finds root g (Operation o v None) (result (base_type (base_answered o)) (Operation o v None)) (l ++ [])) (sym (finds_came c).1) (finds-operation_alone has x e)

  row_operation : (g : Context) (o : Op) (v : Var) (w : Option Var) (places : Places) {r : Result} {qs : List Asked} → Came (inferred ways root g (Operation o v w) places) r qs → Finds root g (Operation o v w) r qs
  row_operation g o v w places c =
      let k = then_came (sized_came ways places c) in
      let k2 = then_came k.rest in
      let k3 = then_came k2.rest in
      let f = finds_came k3.rest in
      let x = variable_came g (in_context g v) k.came in
      let h = device_head_came _ (base_operated o) (exposed g k.value.shape) k2.came in
      as_found
      (argument_came g v o places (base_taken o) w x.shape x.declared refl x.has (ap (λ (t : CapturingType). exposed g t.shape) (sym x.type) ∙ h.0) k3.came)
      f.0
      (joined k.all x.none (joined k2.all h.1 (joined k3.all refl f.1)))

  row_boundary : (g : Context) (x : Shape) (t : Term) (places : Places) {r : Result} {qs : List Asked} → Again t
      → Came (inferred ways root g (Boundary x t) places) r qs → Finds root g (Boundary x t) r qs
  row_boundary g x t places again c =
      let k = then_came (sized_came ways places c) in
      let f = finds_came k.rest in
      let b = branch_came _ _ t (first_part places) _ again k.came in
      as_found (finds-boundary b.found b.below) f.0 (joined k.all b.all f.1)

  row_exit : (g : Context) (x : Shape) (y : Set) (v w : Var) (places : Places) {r : Result} {qs : List Asked} → Came (inferred ways root g (Leave x y v w) places) r qs → Finds root g (Leave x y v w) r qs
  row_exit g x y v w places c =
      let k = then_came (sized_came ways places c) in
      let k2 = then_came k.rest in
      let k3 = then_came k2.rest in
      let k4 = then_came k3.rest in
      let f = finds_came k4.rest in
      let a = variable_came g (in_context g v) k.came in
      let h = exit_head_came _ (exposed g k.value.shape) k2.came in
      let z = variable_came g (in_context g w) k3.came in
      let b = below_came n _ g k3.value (capturing k2.value empty) k4.came in
      as_found
      (finds-exit a.has (ap (λ (t : CapturingType). exposed g t.shape) (sym a.type) ∙ h.1) z.has
      (subst (λ (t : CapturingType). TypesHaveDemands g t (capturing h.0 empty) b.0) z.type (subst (λ (t : Shape). TypesHaveDemands g k3.value (capturing t empty) b.0) h.2 b.1)))
      f.0
      (joined k.all a.none (joined k2.all h.3 (joined k3.all z.none (joined k4.all b.2 f.1))))

  pub found_finds : (t : Term) (g : Context) (places : Places) {r : Result} {qs : List Asked} → Came (inferred ways root g t places) r qs → Finds root g t r qs
  found_finds (VariableTerm v) g places c = row_variable g v places c
  found_finds (LiteralTerm l) g places c = row_literal g l places c
  found_finds (FunctionTerm x y t) g places c = row_function g x y t places (λ h ps x y c. found_finds t h ps c) c
  found_finds (TypeFunctionTerm x t) g places c = row_type_function g x t places (λ h ps x y c. found_finds t h ps c) c
  found_finds (BoxTerm v) g places c = row_box g v places c
  found_finds (Application v w) g places c = row_application g v w places c
  found_finds (TypeApplication v s) g places c = row_type_application g v s places c
  found_finds (Unboxing o v) g places c = row_unboxing g o v places c
  found_finds (Let note s t) g places c = row_let g note s t places (λ h ps x y c. found_finds s h ps c) (λ h ps x y c. found_finds t h ps c) c
  found_finds (Primitive o v w) g places c = row_primitive g o v w places c
  found_finds (Conditional Absent v s t) g places (list, e, q) = cc
  found_finds (Conditional (Written x y) v s t) g places c = row_choice g x y v s t places (λ h ps x y c. found_finds s h ps c) (λ h ps x y c. found_finds t h ps c) c
  found_finds (Conditional (Own x) v s t) g places c = row_choice_own g x v s t places (λ h ps x y c. found_finds s h ps c) (λ h ps x y c. found_finds t h ps c) c
  found_finds (Repetition v w) g places c = row_repetition g v w places c
  found_finds (Operation o v w) g places c = row_operation g o v w places c
  found_finds (Boundary x t) g places c = row_boundary g x t places (λ h ps x y c. found_finds t h ps c) c
  found_finds (Leave x y v w) g places c = row_exit g x y v w places c
