-- The canonical derivation of each form is valid where those of its parts are.
use Rattle.std.proofs.Common.{◌≡◌, ℕ, suc, true, false, cond, List, [], ◌∷◌, ◌++◌, length, Some, None, refl, sym, ap, ◌∙◌, subst}
use Rattle.cc_base.specs.declared.literal.Base.TheVariants as bases
use Rattle.cc_base.specs.declared.literal.Base.{Base}
use Rattle.cc_base.specs.declared.literal.Operator.{Operator}
use Rattle.cc_base.specs.declared.literal.Op.{Op}
use Rattle.cc_capture.specs.declared.var.Var.{Var}
use Rattle.cc_capture.specs.declared.var.Var.TheVariants.{Free}
use Rattle.cc_capture.specs.declared.var.Elem.TheVariants.{Var as Variable, Cap}
use Rattle.cc_capture.specs.Sets.{Set, empty}
use Rattle.cc_core.specs.Shapes.{Shape, BaseShape, FunctionShape, TypeFunctionShape, BoxShape, ExitShape, CapturingType, capturing}
use Rattle.cc_core.specs.Terms.{Written, Term, VariableTerm, FunctionTerm, TypeFunctionTerm, BoxTerm, Application, TypeApplication, Unboxing, Primitive, Conditional, Repetition, Operation, Boundary, Leave}
use Rattle.cc_core.specs.Contexts.{TermEntry, TypeEntry, Context, lookup, entry_of}
use Rattle.cc_core.specs.Traversal.{act_term}
use Rattle.cc_core.specs.Substitution.{replaced_type, replaced_type_by_shape}
use Rattle.cc_core.specs.Reading.{reading, read_term}
use Rattle.cc_core.specs.WellFormed.{kinds_of, TermKind}
use Rattle.cc_core.specs.Equality.{same_type}
use Rattle.cc_core.specs.Captured.{variable_set}
use Rattle.cc_core.specs.Subcapturing.{SubcapturesSet}
use Rattle.cc_core.specs.Subtyping.{Subtypes, SubtypesType, reflexive, transitive, box}
use Rattle.cc_core.specs.Typing.{base_given, base_operated, base_taken, base_answered, HasNoCap}
use Rattle.cc_core.specs.Derivations.{t-box, t-prim, t-if, t-repeat, Node, one, two, three, Derivation, OfType, TypeBelow, IsValidComparison, IsValidTyping, Concludes, ConcludesShapes}
use Rattle.cc_core.proofs.CapturedActions.{captured_variables-act}
use Rattle.cc_core.proofs.CapturedKinds.{empty_kinded}
use Rattle.cc_core.proofs.Comparisons.{same_type-decides}
use Rattle.cc_core.proofs.KindFacts.{IsKindedSet, IsKinded, IsKindedType, IsKinded-test, IsKindedSet-test, IsKindedType-test}
use Rattle.cc_core.proofs.Moving.{Member-single}
use Rattle.cc_core.proofs.ReadingAndWriting.{opened_term-read}
use Rattle.cc_core.proofs.SubcapturingContexts.{IsKindedContext}
use Rattle.cc_core.proofs.SubcapturingLemmas.{subcaptures_reflexive}
use Rattle.cc_checking.specs.Comparison.{Demand, HasDemands, TypesHaveDemands, AllHold}
use Rattle.cc_checking.specs.Exposing.{exposed}
use Rattle.cc_checking.specs.Outcomes.{Asked}
use Rattle.cc_checking.specs.Inference.{Result, result, in_context, set_in, shape_in, type_in, base_type, function_found, type_function_found, exit_entry}
use Rattle.cc_checking.specs.CanonicalDerivations.{Deriving, type_derived, claimed_type, typed, raised, raised_if, shape_of_entry, shape_at, variable_derived, head_derived, operand_derived, given_derived, application_derived, type_application_derived, unboxing_derived, operation_derived, exit_derived, function_node, type_function_node, boundary_node}
use Rattle.cc_typing_laws.proofs.ComparisonLemmas.{subtyping_compares, subtyping_of_types_compares}
use Rattle.cc_typing_laws.proofs.ExposingShapes.{exposed_above}
use Rattle.cc_typing_laws.proofs.FormedContexts.{IsKindedContext-test}
use Rattle.cc_checking_laws.proofs.CanonicalSets.{set_derived_valid}
use Rattle.cc_checking_laws.proofs.Findings.{Has, below_all, Operand}
use Rattle.cc_checking_laws.proofs.FilledComparisons.{EachHolds}
use Rattle.cc_checking_laws.proofs.FilledSyntax.{PassesBinders-reading}
use Rattle.cc_checking_laws.proofs.FoundTypes.{has_kinded, has_exposed, variable_set_kinded}

-- what holds of all that is asked holds of its parts
pub each_holds-parts : (a b : List Asked) → EachHolds (a ++ b) → EachHolds a × EachHolds b
each_holds-parts [] b h = (tt, h)
each_holds-parts (q ∷ a) b h = let p = each_holds-parts a b h.1 in ((h.0, p.0), p.1)

demands_hold : (ds : List Demand) → EachHolds (below_all ds) → AllHold ds
demands_hold [] h = tt
demands_hold (d ∷ ds) h = (h.0, demands_hold ds h.1)

-- a comparison whose demands hold is subtyping
pub shapes_hold : (g : Context) (l r : Shape) (ds : List Demand) → HasDemands g l r ds → EachHolds (below_all ds)
    → Subtypes g l r
shapes_hold g l r ds b h = (subtyping_compares g l r).1 (ds, b, demands_hold ds h)

pub types_hold : (g : Context) (l r : CapturingType) (ds : List Demand) → TypesHaveDemands g l r ds
    → EachHolds (below_all ds) → SubtypesType g l r
types_hold g l r ds b h = (subtyping_of_types_compares g l r).1 (ds, b, demands_hold ds h)

-- the derivation is valid for the term, and concludes that it has the type
pub record Derives (g : Context) (t : Term) (d : Derivation) (type : CapturingType) : Type 0 where
  pub valid : IsValidTyping g t d
  pub concludes : Concludes d (OfType type)

-- the type that it gives is that one
pub gives : {g : Context} {t : Term} {d : Derivation} {type : CapturingType} → Derives g t d type → typed d ≡ type
gives p = ap claimed_type p.concludes

-- shapes that are below each other have valid derivations of that
abbrev pub DerivesAll : Deriving → Type 0
DerivesAll derive = (g : Context) (l r : Shape) → IsKindedContext g → IsKinded (kinds_of g) [] l → IsKinded (kinds_of g) [] r → Subtypes g l r
    → IsValidComparison g (derive g l r) × ConcludesShapes (derive g l r) l r

-- a term that is the same
pub of_term : {g : Context} {t u : Term} {d : Derivation} {type : CapturingType} → t ≡ u → Derives g t d type
    → Derives g u d type
of_term {g} {t} {u} {d} {type} e p = subst (λ x. Derives g x d type) e p

module _ (derive : Deriving) (derives : DerivesAll derive) (g : Context) (formed : IsKindedContext g) where
  types_derived : (l r : CapturingType) → IsKindedType (kinds_of g) [] l → IsKindedType (kinds_of g) [] r
      → SubtypesType g l r
      → IsValidComparison g (type_derived derive g l r) × Concludes (type_derived derive g l r) (TypeBelow l r)
  types_derived l r kl kr below =
      let sets = set_derived_valid g l.set r.set (IsKindedContext-test g formed) (IsKindedSet-test (kinds_of g) [] l.set kl.1) below.0 in
      let shapes = derives g l.shape r.shape formed kl.0 kr.0 below.1 in
      ((l, r, sets.0, sets.1, shapes.0, shapes.1, refl), refl)

  -- widened to a type above
  pub raised_valid : (t : Term) (d : Derivation) (l r : CapturingType) → IsKindedType (kinds_of g) [] l
      → IsKindedType (kinds_of g) [] r → SubtypesType g l r
      → Derives g t d l → Derives g t (raised derive g d r) r
  raised_valid t d l r kl kr below p =
      let types = subst (λ (x : CapturingType). IsValidComparison g (type_derived derive g x r) × Concludes (type_derived derive g x r) (TypeBelow l r)) (sym (gives p)) (types_derived l r kl kr below) in
      record { valid = (l.shape, l.set, r.shape, r.set, p.valid, p.concludes, types.0, types.1, IsKindedType-test (kinds_of g) [] r kr, refl); concludes = refl }

  -- widened where it differs
  pub raised_if_valid : (t : Term) (d : Derivation) (l r : CapturingType) → IsKindedType (kinds_of g) [] l
      → IsKindedType (kinds_of g) [] r → SubtypesType g l r
      → Derives g t d l → Derives g t (raised_if derive g d r) r
  raised_if_valid t d l r kl kr below p =
      elim (same_type (typed d) r) as (λ b. same_type (typed d) r ≡ b → Derives g t (cond b d (raised derive g d r)) r) [
        | true ↦ λ same. subst (Derives g t d) (sym (gives p) ∙ (same_type-decides (typed d) r).0 same) p
        | false ↦ λ _. raised_valid t d l r kl kr below p
      ] refl

  pub shape_there : {v : Var} {s : Shape} {d : Set} → Has g v s d → shape_at g v ≡ s
  shape_there h = ap (shape_at g) h.is ∙ ap shape_of_entry h.there

  at_position : (p : ℕ) (s : Shape) (d : Set) → lookup g p ≡ Some (TermEntry s d)
      → Derives g (VariableTerm (Free p)) (variable_derived g (Free p)) (capturing s (variable_set (Free p)))
  at_position p s d there =
      let e = ap (λ o. OfType (capturing (shape_of_entry o) (variable_set (Free p)))) there in record { valid = (p, s, d, refl, there, e); concludes = e }

  pub variable_valid : {v : Var} {s : Shape} {d : Set} → Has g v s d
      → Derives g (VariableTerm v) (variable_derived g v) (capturing s (variable_set v))
  variable_valid {v} {s} {d} h =
      subst (λ w. Derives g (VariableTerm w) (variable_derived g w) (capturing s (variable_set w))) (sym h.is) (at_position h.position s d h.there)

  its_kinded : {v : Var} {s : Shape} {d : Set} → Has g v s d
      → IsKindedType (kinds_of g) [] (capturing s (variable_set v))
  its_kinded h = ((has_kinded formed h).0, variable_set_kinded h)

  -- a variable that was compared with a type
  pub given_valid : {v : Var} {s : Shape} {d : Set} → Has g v s d → (t : CapturingType) → IsKindedType (kinds_of g) [] t
      → SubtypesType g (capturing s (variable_set v)) t
      → Derives g (VariableTerm v) (given_derived derive g v t) t
  given_valid {v} {s} h t k below = raised_valid (VariableTerm v) (variable_derived g v) (capturing s (variable_set v)) t (its_kinded h) k below (variable_valid h)

  -- an operand of a shape
  pub operand_valid : (v : Var) (x : Shape) (ds : List Demand) → Operand g v x ds → IsKinded (kinds_of g) [] x
      → EachHolds (below_all ds)
      → Derives g (VariableTerm (in_context g v)) (operand_derived derive g (in_context g v) x) (capturing x (variable_set (in_context g v)))
  operand_valid v x ds o k h =
      given_valid o.has (capturing x (variable_set (in_context g v))) (k, variable_set_kinded o.has)
      (subcaptures_reflexive g (variable_set (in_context g v)), shapes_hold g o.shape x ds o.demands h)

  -- a head, whose exposed shape is this
  pub head_valid : {v : Var} {s x : Shape} {d : Set} → Has g v s d → exposed g s ≡ x
      → Derives g (VariableTerm v) (head_derived derive g v) (capturing x (variable_set v))
  head_valid {v} {s} {x} {d} h e =
      let is : exposed g (shape_at g v) ≡ x = ap (exposed g) (shape_there h) ∙ e in
      subst (λ y. Derives g (VariableTerm v) (raised_if derive g (variable_derived g v) (capturing y (variable_set v))) (capturing x (variable_set v))) (sym is)
      (raised_if_valid (VariableTerm v) (variable_derived g v) (capturing s (variable_set v)) (capturing x (variable_set v)) (its_kinded h) (has_exposed formed h e, variable_set_kinded h)
      (subcaptures_reflexive g (variable_set v), subst (Subtypes g s) e (exposed_above g s)) (variable_valid h))

  -- what depends on the exposed shape
  at_head : {v : Var} {s x : Shape} {d : Set} → Has g v s d → exposed g s ≡ x
      → (t : Term) (tree : Shape → Derivation) (type : CapturingType) → Derives g t (tree x) type
      → Derives g t (tree (exposed g (shape_at g v))) type
  at_head h e t tree type p = subst (λ y. Derives g t (tree y) type) (sym (ap (exposed g) (shape_there h) ∙ e)) p

  pub row_box : {v : Var} {s : Shape} {d : Set} → Has g v s d
      → Derives g (BoxTerm v) (Node t-box (one (variable_derived g v)) (OfType (capturing (BoxShape (shape_at g v) (variable_set v)) empty))) (capturing (BoxShape s (variable_set v)) empty)
  row_box {v} {s} h =
      let p = variable_valid h in
      let e = ap (λ x. OfType (capturing (BoxShape x (variable_set v)) empty)) (shape_there h) in
      record { valid = (v, s, variable_set v, refl, p.valid, p.concludes, (λ m. let clash = Member-single Cap (Variable v) m in cc), e); concludes = e }

  pub row_application : {v w : Var} {s s' : Shape} {d d' : Set} (takes give : Shape) (c e : Set) (ds : List Demand)
      → Has g v s d → exposed g s ≡ FunctionShape takes c give e → Has g w s' d'
      → TypesHaveDemands g (capturing s' (variable_set w)) (capturing takes c) ds → EachHolds (below_all ds)
      → Derives g (Application v w) (application_derived derive g v w (exposed g (shape_at g v))) (replaced_type w (capturing give e))
  row_application {v} {w} {s' = s'} takes give c e ds h x h' b holds =
      let k = has_exposed formed h x in
      let p = head_valid h x in
      let q = given_valid h' (capturing takes c) (k.0, k.1) (types_hold g (capturing s' (variable_set w)) (capturing takes c) ds b holds) in
      at_head h x (Application v w) (application_derived derive g v w) (replaced_type w (capturing give e))
      (record { valid = (v, w, takes, c, give, e, variable_set v, refl, p.valid, p.concludes, q.valid, q.concludes, refl); concludes = refl })

  pub row_type_application : {v : Var} {s : Shape} {d : Set} (y bound give : Shape) (e : Set) (ds : List Demand)
      → Has g v s d → exposed g s ≡ TypeFunctionShape bound give e → HasDemands g y bound ds → EachHolds (below_all ds)
      → IsKinded (kinds_of g) [] y
      → Derives g (TypeApplication v y) (type_application_derived derive g v y (exposed g (shape_at g v))) (replaced_type_by_shape y (capturing give e))
  row_type_application {v} y bound give e ds h x b holds ky =
      let k = has_exposed formed h x in
      let p = head_valid h x in
      let q = derives g y bound formed ky k.0 (shapes_hold g y bound ds b holds) in
      at_head h x (TypeApplication v y) (type_application_derived derive g v y) (replaced_type_by_shape y (capturing give e))
      (record { valid = (v, y, bound, give, e, variable_set v, refl, p.valid, p.concludes, q.0, q.1, IsKinded-test (kinds_of g) [] y ky, refl); concludes = refl })

  pub row_unboxing : {v : Var} {s : Shape} {d : Set} (content : Shape) (c set : Set) → Has g v s d
      → exposed g s ≡ BoxShape content c
      → SubcapturesSet g c set → HasNoCap set → IsKindedSet (kinds_of g) [] set
      → Derives g (Unboxing (Some set) v) (unboxing_derived derive g set v (exposed g (shape_at g v))) (capturing content set)
  row_unboxing {v} {s} content c set h x below none k =
      let kb = has_exposed formed h x in
      let p = given_valid h (capturing (BoxShape content set) (variable_set v)) ((kb.0, k), variable_set_kinded h)
      (subcaptures_reflexive g (variable_set v), transitive (subst (Subtypes g s) x (exposed_above g s)) (box below reflexive)) in
      at_head h x (Unboxing (Some set) v) (unboxing_derived derive g set v) (capturing content set)
      (record { valid = (v, content, set, variable_set v, refl, p.valid, p.concludes, IsKindedSet-test (kinds_of g) [] set k, none, refl); concludes = refl })

  pub row_operation : {v : Var} {s : Shape} {d : Set} (o : Op) (w : Var) (base : Base) (ds : List Demand) → Has g v s d
      → exposed g s ≡ BaseShape (base_operated o) → base_taken o ≡ Some base
      → Operand g w (BaseShape base) ds → EachHolds (below_all ds)
      → Derives g (Operation o v (Some (in_context g w))) (operation_derived derive g o v (Some (in_context g w)) (base_taken o)) (base_type (base_answered o))
  row_operation {v} o w base ds h x taken a holds =
      let p = head_valid h x in
      let q = operand_valid w (BaseShape base) ds a tt holds in
      subst (λ y. Derives g (Operation o v (Some (in_context g w))) (operation_derived derive g o v (Some (in_context g w)) y) (base_type (base_answered o))) (sym taken)
      (record { valid = (o, v, in_context g w, base, variable_set v, variable_set (in_context g w), refl, p.valid, p.concludes, taken, q.valid, q.concludes, refl); concludes = refl })

  pub row_operation_alone : {v : Var} {s : Shape} {d : Set} (o : Op) → Has g v s d
      → exposed g s ≡ BaseShape (base_operated o) → base_taken o ≡ None
      → Derives g (Operation o v None) (operation_derived derive g o v None (base_taken o)) (base_type (base_answered o))
  row_operation_alone {v} o h x taken =
      let p = head_valid h x in
      subst (λ y. Derives g (Operation o v None) (operation_derived derive g o v None y) (base_type (base_answered o))) (sym taken)
      (record { valid = (o, v, variable_set v, refl, p.valid, p.concludes, taken, refl); concludes = refl })

  pub row_exit : {v w : Var} {s s' : Shape} {d d' : Set} (t : CapturingType) (takes : Shape) (ds : List Demand)
      → Has g v s d → exposed g s ≡ ExitShape takes → Has g w s' d'
      → TypesHaveDemands g (capturing s' (variable_set w)) (capturing takes empty) ds → EachHolds (below_all ds)
      → IsKindedType (kinds_of g) [] t
      → Derives g (Leave t.shape t.set v w) (exit_derived derive g t v w (exposed g (shape_at g v))) t
  row_exit {v} {w} {s' = s'} t takes ds h x h' b holds k =
      let p = head_valid h x in
      let q = given_valid h' (capturing takes empty) (has_exposed formed h x, empty_kinded (kinds_of g) []) (types_hold g (capturing s' (variable_set w)) (capturing takes empty) ds b holds) in
      at_head h x (Leave t.shape t.set v w) (exit_derived derive g t v w) t
      (record { valid = (t.shape, t.set, v, w, takes, variable_set v, refl, p.valid, p.concludes, q.valid, q.concludes, IsKindedType-test (kinds_of g) [] t k, refl); concludes = refl })

  pub row_primitive : (o : Operator) (v w : Var) (ds es : List Demand) → Operand g v (BaseShape bases.Int) ds
      → Operand g w (BaseShape bases.Int) es → EachHolds (below_all ds) → EachHolds (below_all es)
      → Derives g (Primitive o (in_context g v) (in_context g w))
      (Node t-prim (two (operand_derived derive g (in_context g v) (BaseShape bases.Int)) (operand_derived derive g (in_context g w) (BaseShape bases.Int))) (OfType (base_type (base_given o))))
      (base_type (base_given o))
  row_primitive o v w ds es a b hold hold' =
      let p = operand_valid v (BaseShape bases.Int) ds a tt hold in
      let q = operand_valid w (BaseShape bases.Int) es b tt hold' in
      record { valid = (o, in_context g v, in_context g w, variable_set (in_context g v), variable_set (in_context g w), refl, p.valid, p.concludes, q.valid, q.concludes, refl); concludes = refl }

  pub row_repetition : (v w : Var) (ds es : List Demand) → Operand g v (BaseShape bases.Int) ds
      → Operand g w (FunctionShape (BaseShape bases.Int) empty (BaseShape bases.Unit) empty) es
      → EachHolds (below_all ds) → EachHolds (below_all es)
      → Derives g (Repetition (in_context g v) (in_context g w))
      (Node t-repeat (two (operand_derived derive g (in_context g v) (BaseShape bases.Int)) (operand_derived derive g (in_context g w) (FunctionShape (BaseShape bases.Int) empty (BaseShape bases.Unit) empty))) (OfType (base_type bases.Unit)))
      (base_type bases.Unit)
  row_repetition v w ds es a b hold hold' =
      let p = operand_valid v (BaseShape bases.Int) ds a tt hold in
      let q = operand_valid w (FunctionShape (BaseShape bases.Int) empty (BaseShape bases.Unit) empty) es b (tt, empty_kinded (kinds_of g) [], tt, empty_kinded (kinds_of g) (TermKind ∷ [])) hold' in
      record { valid = (in_context g v, in_context g w, variable_set (in_context g v), variable_set (in_context g w), refl, p.valid, p.concludes, q.valid, q.concludes, refl); concludes = refl }

  -- a function, whose body was read under its parameter
  pub row_function : (takes : Shape) (c : Set) (body : Term) (r : Result) (d : Derivation) → r.completed ≡ body
      → IsKindedType (kinds_of g) [] (type_in g (capturing takes c))
      → Derives (entry_of (type_in g (capturing takes c)) ∷ g) (read_term (suc (length g)) body) d r.type
      → Derives g (read_term (length g) (FunctionTerm takes c body)) (function_node g takes c body d) (function_found g takes c r).type
  row_function takes c body r d same k p =
      let n : ℕ = length g in
      let inner = of_term (sym (opened_term-read n body)) p in
      let type = ap (λ (t : CapturingType). (function_found g takes c (result t body)).type) (gives p) ∙ ap (λ (b : Term). (function_found g takes c (result r.type b)).type) (sym same) in
      let captured = captured_variables-act (reading n) (PassesBinders-reading n) 0 (FunctionTerm takes c body) in
      record {
        valid = (
          shape_in g takes,
          set_in g c,
          r.type.shape,
          r.type.set,
          act_term (reading n) 1 body,
          refl,
          IsKindedType-test (kinds_of g) [] (type_in g (capturing takes c)) k,
          inner.valid,
          inner.concludes,
          ap (λ (t : CapturingType). OfType (function_found g takes c (result t body)).type) (gives p) ∙ ap (λ (x : Set). OfType (capturing (function_found g takes c (result r.type body)).type.shape x)) (sym captured),
        );
        concludes = ap OfType type;
      }

  pub row_type_function : (bound : Shape) (body : Term) (r : Result) (d : Derivation) → r.completed ≡ body
      → IsKinded (kinds_of g) [] (shape_in g bound)
      → Derives (TypeEntry (shape_in g bound) ∷ g) (read_term (suc (length g)) body) d r.type
      → Derives g (read_term (length g) (TypeFunctionTerm bound body)) (type_function_node g bound body d) (type_function_found g bound r).type
  row_type_function bound body r d same k p =
      let n : ℕ = length g in
      let inner = of_term (sym (opened_term-read n body)) p in
      let type = ap (λ (t : CapturingType). (type_function_found g bound (result t body)).type) (gives p) ∙ ap (λ (b : Term). (type_function_found g bound (result r.type b)).type) (sym same) in
      let captured = captured_variables-act (reading n) (PassesBinders-reading n) 0 (TypeFunctionTerm bound body) in
      record {
        valid = (
          shape_in g bound,
          r.type.shape,
          r.type.set,
          act_term (reading n) 1 body,
          refl,
          IsKinded-test (kinds_of g) [] (shape_in g bound) k,
          inner.valid,
          inner.concludes,
          ap (λ (t : CapturingType). OfType (type_function_found g bound (result t body)).type) (gives p) ∙ ap (λ (x : Set). OfType (capturing (type_function_found g bound (result r.type body)).type.shape x)) (sym captured),
        );
        concludes = ap OfType type;
      }

  pub row_boundary : (x : Shape) (body : Term) (d : Derivation) → IsKinded (kinds_of g) [] x
      → Derives (exit_entry x ∷ g) (read_term (suc (length g)) body) (raised derive (exit_entry x ∷ g) d (capturing x empty)) (capturing x empty)
      → Derives g (Boundary x (act_term (reading (length g)) 1 body)) (boundary_node derive g x d) (capturing x empty)
  row_boundary x body d k p =
      let inner = of_term (sym (opened_term-read (length g) body)) p in
      record { valid = (x, act_term (reading (length g)) 1 body, refl, IsKinded-test (kinds_of g) [] x k, inner.valid, inner.concludes, refl); concludes = refl }

  pub row_choice : (v : Var) (type : CapturingType) (t u : Term) (d d' : Derivation) (ds : List Demand)
      → Operand g v (BaseShape bases.Bool) ds → EachHolds (below_all ds)
      → Derives g t (raised derive g d type) type → Derives g u (raised derive g d' type) type
      → Derives g (Conditional (Written type.shape type.set) (in_context g v) t u)
      (Node t-if (three (operand_derived derive g (in_context g v) (BaseShape bases.Bool)) (raised derive g d type) (raised derive g d' type)) (OfType type)) type
  row_choice v type t u d d' ds o holds p q =
      let test = operand_valid v (BaseShape bases.Bool) ds o tt holds in
      record { valid = (in_context g v, t, u, type.shape, type.set, variable_set (in_context g v), refl, test.valid, test.concludes, p.valid, p.concludes, q.valid, q.concludes, refl); concludes = refl }
