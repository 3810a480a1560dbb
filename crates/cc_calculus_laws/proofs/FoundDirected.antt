-- What inference finds, under a filling that serves all that it asks, is a directed type.
use Rattle.std.proofs.Common.{◌≡◌, ℕ, ◌≤◌, Bool, true, false, cond, List, [], ◌∷◌, ◌++◌, refl, sym, ap, ◌∙◌, subst, arith}
use Rattle.std.specs.Prelude.{nat_le}
use Rattle.std.proofs.lemmas.Bool.Decides.{nat_tests}
use Rattle.cc_base.specs.declared.code.Code.TheVariants.{E18}
use Rattle.cc_base.specs.declared.place.Place.{Place}
use Rattle.cc_capture.specs.declared.var.Var.{Var}
use Rattle.cc_capture.specs.Sets.{Set, empty}
use Rattle.cc_core.specs.Shapes.{Shape, CapturingType, capturing}
use Rattle.cc_core.specs.Terms.{Note, Absent, Written, Own, Term, VariableTerm, LiteralTerm, FunctionTerm, TypeFunctionTerm, BoxTerm, Application, TypeApplication, Unboxing, Let, Primitive, Conditional, Repetition, Operation, Boundary, Leave}
use Rattle.cc_core.specs.Contexts.{Context}
use Rattle.cc_core.specs.Sizes.{type_size}
use Rattle.cc_core.specs.Places.{Places, first_part, second_part}
use Rattle.cc_checking.specs.Comparison.{Demand, comparison, HasDemands}
use Rattle.cc_checking.specs.Outcomes.{Asked, Outcome, Refused, finds}
use Rattle.cc_checking.specs.Fillings.{Filling, IsOverGlobals}
use Rattle.cc_checking.specs.Inference.{Result, in_context, shape_in, type_in, against, operand, Named, part_below, part_against, tested, sized, exit_entry, inferred, limited}
use Rattle.cc_checking_laws.proofs.Findings.{Has, its_type, below_all, Operand, Notes, notes-absent, notes-written, notes-own, Finds, finds-variable, finds-literal, finds-function, finds-type_function, finds-box, finds-application, finds-type_application, finds-unboxing, finds-unboxing_own, finds-let, finds-primitive, finds-choice, finds-choice_own, finds-repetition, finds-operation, finds-operation_alone, finds-boundary, finds-exit}
use Rattle.cc_checking_laws.proofs.FoundFindings.{Came, then_came, finds_came, sized_came, variable_came, compared_came, joined, below_came, noted_came, avoided_came, found_finds}
use Rattle.cc_checking_laws.proofs.FilledSubtyping.{Serves, serves_parts, shapes_below, types_below}
use Rattle.cc_calculus_laws.specs.DirectedTypes.{ShapeIsBelow, TypeIsBelow, HasShape, IsOfShape, IsNamedWith, nothing_written, type_written, set_omitted, HasDirectedType, by_form, HasTypeByForm, of_variable, of_literal, of_function, of_type_function, of_box, of_application, of_type_application, of_unboxing, of_unboxing_alone, of_let, of_primitive, of_choice, of_choice_alone, of_repetition, of_operation, of_operation_alone, of_boundary, of_exit}

-- the forms without parts
abbrev pub IsLeaf : Term → Type 0
IsLeaf (FunctionTerm takes c body) = ⊥
IsLeaf (TypeFunctionTerm bound body) = ⊥
IsLeaf (Let note right body) = ⊥
IsLeaf (Conditional note test s t) = ⊥
IsLeaf (Boundary gives body) = ⊥
IsLeaf _ = Unit {0}

as_shape : {g : Context} {v : Var} {s : Shape} {d : Set} → Has g (in_context g v) s d → HasShape g v s
as_shape {d = d} h = record { position = h.position; declared = d; is = h.is; there = h.there }

-- what is found is not too large
tested_small : (n : ℕ) (at : Place) (a : Result) {r : Result} {qs : List Asked} → Came (tested (limited n) at a) r qs → nat_le (type_size r.type) 4096 ≡ true
tested_small n at a {r} {qs} c = by_test (nat_le (type_size a.type) 4096) refl c
  where
    by_test : (b : Bool) → nat_le (type_size a.type) 4096 ≡ b → Came (cond b (finds a) (Refused E18 at)) r qs → nat_le (type_size r.type) 4096 ≡ true
    by_test true is c = ap (λ (x : Result). nat_le (type_size x.type) 4096) (finds_came c).0 ∙ is
    by_test false is (list, e, q) = cc

test_passes : (size : ℕ) → nat_le size 4096 ≡ true → size ≤ 4096
test_passes size h = grind (arith, nat_tests, h)

sized_small : (n : ℕ) (places : Places) (o : Outcome Result) {r : Result} {qs : List Asked} → Came (sized (limited n) places o) r qs → type_size r.type ≤ 4096
sized_small n places o {r = r} c = let k = then_came c in test_passes (type_size r.type) (tested_small n _ k.value k.rest)

-- steps that compare
against_came : (n : ℕ) (at : Place) (g : Context) (l r : Shape) {u : Unit {0}} {qs : List Asked} → Came (against (comparison n) at g l r) u qs
    → (ds : List Demand) × HasDemands g l r ds × (qs ≡ below_all ds)
against_came n at g l r c = let p = compared_came at _ c in (p.0, (n, p.1), p.2)

operand_came : (n : ℕ) (at : Place) (g : Context) (v : Var) (s : Shape) {u : Unit {0}} {qs : List Asked} → Came (operand (comparison n) at g v s) u qs
    → (ds : List Demand) × Operand g v s ds × (qs ≡ below_all ds)
operand_came n at g v s c =
    let k = then_came c in
    let x = variable_came g (in_context g v) k.came in
    let a = against_came n at g k.value.shape s k.rest in
    (a.0, record { shape = x.shape; declared = x.declared; has = x.has; demands = subst (λ (t : CapturingType). HasDemands g t.shape s a.0) x.type a.1 }, joined k.all x.none a.2)

module _ (n root count : ℕ) (f : Filling) (over : IsOverGlobals count f) where
  pub named_with : {g : Context} {note : Note} {t : CapturingType} {m : Named} {ps : List Asked} → Notes root g note t m ps → Serves f ps → IsNamedWith f root g t note m.note m.type
  named_with notes-absent s = nothing_written
  named_with {g} (notes-written {t = t} {s = x} {c = c} {ds = ds} b) s = type_written (types_below count f over g t (type_in g (capturing x c)) ds b (serves_parts f (below_all ds) [] s).0)
  named_with {g} (notes-own {t = t} {s = x} {ds = ds} b) s = set_omitted (shapes_below count f over g t.shape (shape_in g x) ds b (serves_parts f (below_all ds) [] s).0)

  operand_of : {g : Context} {v : Var} {s : Shape} {ds : List Demand} → Operand g v s ds → Serves f (below_all ds) → IsOfShape f g v s
  operand_of {g} {v} {s} {ds} o k = (o.shape, as_shape o.has, shapes_below count f over g o.shape s ds o.demands k)

  two_operands : (ds es : List Demand) → Serves f (below_all ds ++ (below_all es ++ [])) → Serves f (below_all ds) × Serves f (below_all es)
  two_operands ds es s = let p = serves_parts f (below_all ds) (below_all es ++ []) s in (p.0, (serves_parts f (below_all es) [] p.1).0)

  alone : (ds : List Demand) → Serves f (below_all ds ++ []) → Serves f (below_all ds)
  alone ds s = (serves_parts f (below_all ds) [] s).0

  -- forms without parts
  leaf : {g : Context} {t : Term} {r : Result} {qs : List Asked} → Finds root g t r qs → IsLeaf t → Serves f qs → HasTypeByForm f root g t r.completed r.type
  leaf (finds-variable h) l s = of_variable (as_shape h)
  leaf finds-literal l s = of_literal
  leaf (finds-function b) l s = absurd l
  leaf (finds-type_function b) l s = absurd l
  leaf (finds-box h) l s = of_box (as_shape h)
  leaf (finds-application {g = g} {w = w} {s = x} {s' = x'} {takes = takes} {c = c} {ds = ds} h e h' b) l s =
      of_application (x, as_shape h, e) (x', as_shape h', types_below count f over g (its_type g w x') (capturing takes c) ds b (alone ds s))
  leaf (finds-type_application {g = g} {x = y} {s = x} {bound = bound} {ds = ds} h e b) l s =
      of_type_application (x, as_shape h, e) (shapes_below count f over g (shape_in g y) bound ds b (alone ds s))
  leaf (finds-unboxing {s = x} h e) l s = of_unboxing (x, as_shape h, e) s.0 s.1.0
  leaf (finds-unboxing_own {s = x} h e) l s = of_unboxing_alone (x, as_shape h, e) s.0
  leaf (finds-let a nt b e) l s = absurd l
  leaf (finds-primitive {ds = ds} {es = es} a b) l s = let p = two_operands ds es s in of_primitive (operand_of a p.0) (operand_of b p.1)
  leaf (finds-choice o a p b q) l s = absurd l
  leaf (finds-choice_own o a p b q) l s = absurd l
  leaf (finds-repetition {ds = ds} {es = es} a b) l s = let p = two_operands ds es s in of_repetition (operand_of a p.0) (operand_of b p.1)
  leaf (finds-operation {s = x} {ds = ds} h e t a) l s = of_operation (x, as_shape h, e) t (operand_of a (alone ds s))
  leaf (finds-operation_alone {s = x} h e t) l s = of_operation_alone (x, as_shape h, e) t
  leaf (finds-boundary a p) l s = absurd l
  leaf (finds-exit {g = g} {w = w} {s = x} {s' = x'} {takes = takes} {ds = ds} h e h' b) l s =
      of_exit (x, as_shape h, e) (x', as_shape h', types_below count f over g (its_type g w x') (capturing takes empty) ds b (alone ds s))

  -- the same of a part
  abbrev Again : Term → Type 0
  Again t = (g : Context) (places : Places) (r : Result) (qs : List Asked) → Came (inferred (limited n) root g t places) r qs → Serves f qs → HasDirectedType f root g t r.completed r.type

  row_function : (g : Context) (takes : Shape) (x : Set) (body : Term) (places : Places) {r : Result} {qs : List Asked} → Again body
      → Came (inferred (limited n) root g (FunctionTerm takes x body) places) r qs → Serves f qs → HasTypeByForm f root g (FunctionTerm takes x body) r.completed r.type
  row_function g takes x body places again c s =
      let k = then_came (sized_came (limited n) places c) in
      let fin = finds_came k.rest in
      let p = serves_parts f k.first k.second (subst (Serves f) k.all s) in
      subst (λ (y : Result). HasTypeByForm f root g (FunctionTerm takes x body) y.completed y.type) (sym fin.0) (of_function (again _ (first_part places) _ _ k.came p.0))

  row_type_function : (g : Context) (bound : Shape) (body : Term) (places : Places) {r : Result} {qs : List Asked} → Again body
      → Came (inferred (limited n) root g (TypeFunctionTerm bound body) places) r qs → Serves f qs → HasTypeByForm f root g (TypeFunctionTerm bound body) r.completed r.type
  row_type_function g bound body places again c s =
      let k = then_came (sized_came (limited n) places c) in
      let fin = finds_came k.rest in
      let p = serves_parts f k.first k.second (subst (Serves f) k.all s) in
      subst (λ (y : Result). HasTypeByForm f root g (TypeFunctionTerm bound body) y.completed y.type) (sym fin.0) (of_type_function (again _ (first_part places) _ _ k.came p.0))

  row_let : (g : Context) (note : Note) (right body : Term) (places : Places) {r : Result} {qs : List Asked} → Again right → Again body
      → Came (inferred (limited n) root g (Let note right body) places) r qs → Serves f qs → HasTypeByForm f root g (Let note right body) r.completed r.type
  row_let g note right body places again again' c s =
      let k = then_came (sized_came (limited n) places c) in
      let k2 = then_came k.rest in
      let k3 = then_came k2.rest in
      let k4 = then_came k3.rest in
      let fin = finds_came k4.rest in
      let a = avoided_came _ _ k4.came in
      let p = serves_parts f k.first k.second (subst (Serves f) k.all s) in
      let p2 = serves_parts f k2.first k2.second (subst (Serves f) k2.all p.1) in
      let p3 = serves_parts f k3.first k3.second (subst (Serves f) k3.all p2.1) in
      subst (λ (y : Result). HasTypeByForm f root g (Let note right body) y.completed y.type) (sym fin.0)
      (of_let (again g (first_part places) _ _ k.came p.0) (named_with (noted_came n root _ g note k.value.type k2.came) p2.0) (again' _ (second_part places) _ _ k3.came p3.0) a.0)

  -- a branch with its comparison
  branch : (at : Place) (g : Context) (t : Term) (places : Places) (type : CapturingType) {r : Result} {qs : List Asked} → Again t
      → Came (part_below (comparison n) at g type (inferred (limited n) root g t places)) r qs → Serves f qs → HasDirectedType f root g t r.completed r.type × TypeIsBelow f g r.type type
  branch at g t places type again c s =
      let k = then_came c in
      let k2 = then_came k.rest in
      let fin = finds_came k2.rest in
      let b = below_came n at g k.value.type type k2.came in
      let p = serves_parts f k.first k.second (subst (Serves f) k.all s) in
      let p2 = serves_parts f k2.first k2.second (subst (Serves f) k2.all p.1) in
      subst (λ (y : Result). HasDirectedType f root g t y.completed y.type × TypeIsBelow f g y.type type) (sym fin.0)
      (again g places _ _ k.came p.0, types_below count f over g k.value.type type b.0 b.1 (subst (Serves f) b.2 p2.0))

  branch_of_shape : (at : Place) (g : Context) (t : Term) (places : Places) (shape : Shape) {r : Result} {qs : List Asked} → Again t
      → Came (part_against (comparison n) at g shape (inferred (limited n) root g t places)) r qs → Serves f qs → HasDirectedType f root g t r.completed r.type × ShapeIsBelow f g r.type.shape shape
  branch_of_shape at g t places shape again c s =
      let k = then_came c in
      let k2 = then_came k.rest in
      let fin = finds_came k2.rest in
      let b = against_came n at g k.value.type.shape shape k2.came in
      let p = serves_parts f k.first k.second (subst (Serves f) k.all s) in
      let p2 = serves_parts f k2.first k2.second (subst (Serves f) k2.all p.1) in
      subst (λ (y : Result). HasDirectedType f root g t y.completed y.type × ShapeIsBelow f g y.type.shape shape) (sym fin.0)
      (again g places _ _ k.came p.0, shapes_below count f over g k.value.type.shape shape b.0 b.1 (subst (Serves f) b.2 p2.0))

  row_choice : (g : Context) (x : Shape) (y : Set) (v : Var) (t u : Term) (places : Places) {r : Result} {qs : List Asked} → Again t → Again u
      → Came (inferred (limited n) root g (Conditional (Written x y) v t u) places) r qs → Serves f qs → HasTypeByForm f root g (Conditional (Written x y) v t u) r.completed r.type
  row_choice g x y v t u places again again' c s =
      let k = then_came (sized_came (limited n) places c) in
      let k2 = then_came k.rest in
      let k3 = then_came k2.rest in
      let fin = finds_came k3.rest in
      let a = operand_came n _ g v _ k.came in
      let p = serves_parts f k.first k.second (subst (Serves f) k.all s) in
      let p2 = serves_parts f k2.first k2.second (subst (Serves f) k2.all p.1) in
      let p3 = serves_parts f k3.first k3.second (subst (Serves f) k3.all p2.1) in
      let one = branch _ g t (first_part places) (type_in g (capturing x y)) again k2.came p2.0 in
      let two = branch _ g u (second_part places) (type_in g (capturing x y)) again' k3.came p3.0 in
      subst (λ (z : Result). HasTypeByForm f root g (Conditional (Written x y) v t u) z.completed z.type) (sym fin.0)
      (of_choice (operand_of a.1 (subst (Serves f) a.2 p.0)) one.0 one.1 two.0 two.1)

  row_choice_alone : (g : Context) (x : Shape) (v : Var) (t u : Term) (places : Places) {r : Result} {qs : List Asked} → Again t → Again u
      → Came (inferred (limited n) root g (Conditional (Own x) v t u) places) r qs → Serves f qs → HasTypeByForm f root g (Conditional (Own x) v t u) r.completed r.type
  row_choice_alone g x v t u places again again' c s =
      let k = then_came (sized_came (limited n) places c) in
      let k2 = then_came k.rest in
      let k3 = then_came k2.rest in
      let fin = finds_came k3.rest in
      let a = operand_came n _ g v _ k.came in
      let p = serves_parts f k.first k.second (subst (Serves f) k.all s) in
      let p2 = serves_parts f k2.first k2.second (subst (Serves f) k2.all p.1) in
      let p3 = serves_parts f k3.first k3.second (subst (Serves f) k3.all p2.1) in
      let one = branch_of_shape _ g t (first_part places) (shape_in g x) again k2.came p2.0 in
      let two = branch_of_shape _ g u (second_part places) (shape_in g x) again' k3.came p3.0 in
      subst (λ (z : Result). HasTypeByForm f root g (Conditional (Own x) v t u) z.completed z.type) (sym fin.0)
      (of_choice_alone (operand_of a.1 (subst (Serves f) a.2 p.0)) one.0 one.1 two.0 two.1)

  row_boundary : (g : Context) (x : Shape) (body : Term) (places : Places) {r : Result} {qs : List Asked} → Again body
      → Came (inferred (limited n) root g (Boundary x body) places) r qs → Serves f qs → HasTypeByForm f root g (Boundary x body) r.completed r.type
  row_boundary g x body places again c s =
      let k = then_came (sized_came (limited n) places c) in
      let fin = finds_came k.rest in
      let p = serves_parts f k.first k.second (subst (Serves f) k.all s) in
      let one = branch _ (exit_entry (shape_in g x) ∷ g) body (first_part places) (capturing (shape_in g x) empty) again k.came p.0 in
      subst (λ (y : Result). HasTypeByForm f root g (Boundary x body) y.completed y.type) (sym fin.0) (of_boundary one.0 one.1)

  leaf_directed : (t : Term) → IsLeaf t → (g : Context) (places : Places) {r : Result} {qs : List Asked} → Came (inferred (limited n) root g t places) r qs → type_size r.type ≤ 4096 → Serves f qs
      → HasDirectedType f root g t r.completed r.type
  leaf_directed t l g places c small s = by_form (leaf (found_finds n root (limited n).passes t g places c) l s) small

  pub directed : (t : Term) (g : Context) (places : Places) {r : Result} {qs : List Asked} → Came (inferred (limited n) root g t places) r qs → Serves f qs → HasDirectedType f root g t r.completed r.type
  directed (VariableTerm v) g places c s = leaf_directed (VariableTerm v) tt g places c (sized_small n places _ c) s
  directed (LiteralTerm l) g places c s = leaf_directed (LiteralTerm l) tt g places c (sized_small n places _ c) s
  directed (FunctionTerm x y t) g places c s = by_form (row_function g x y t places (λ h ps x y c s. directed t h ps c s) c s) (sized_small n places _ c)
  directed (TypeFunctionTerm x t) g places c s = by_form (row_type_function g x t places (λ h ps x y c s. directed t h ps c s) c s) (sized_small n places _ c)
  directed (BoxTerm v) g places c s = leaf_directed (BoxTerm v) tt g places c (sized_small n places _ c) s
  directed (Application v w) g places c s = leaf_directed (Application v w) tt g places c (sized_small n places _ c) s
  directed (TypeApplication v x) g places c s = leaf_directed (TypeApplication v x) tt g places c (sized_small n places _ c) s
  directed (Unboxing o v) g places c s = leaf_directed (Unboxing o v) tt g places c (sized_small n places _ c) s
  directed (Let note t u) g places c s = by_form (row_let g note t u places (λ h ps x y c s. directed t h ps c s) (λ h ps x y c s. directed u h ps c s) c s) (sized_small n places _ c)
  directed (Primitive o v w) g places c s = leaf_directed (Primitive o v w) tt g places c (sized_small n places _ c) s
  directed (Conditional Absent v t u) g places (list, e, q) s = cc
  directed (Conditional (Written x y) v t u) g places c s =
      by_form (row_choice g x y v t u places (λ h ps x y c s. directed t h ps c s) (λ h ps x y c s. directed u h ps c s) c s) (sized_small n places _ c)
  directed (Conditional (Own x) v t u) g places c s =
      by_form (row_choice_alone g x v t u places (λ h ps x y c s. directed t h ps c s) (λ h ps x y c s. directed u h ps c s) c s) (sized_small n places _ c)
  directed (Repetition v w) g places c s = leaf_directed (Repetition v w) tt g places c (sized_small n places _ c) s
  directed (Operation o v w) g places c s = leaf_directed (Operation o v w) tt g places c (sized_small n places _ c) s
  directed (Boundary x t) g places c s = by_form (row_boundary g x t places (λ h ps x y c s. directed t h ps c s) c s) (sized_small n places _ c)
  directed (Leave x y v w) g places c s = leaf_directed (Leave x y v w) tt g places c (sized_small n places _ c) s
