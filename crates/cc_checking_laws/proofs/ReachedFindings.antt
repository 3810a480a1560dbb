-- What the relation finds, the function finds, with enough steps for its comparisons.
use Rattle.std.proofs.Common.{◌≡◌, ℕ, zero, ◌+◌, ◌≤◌, cond, List, [], ◌∷◌, ◌++◌, length, Some, None, refl, sym, ap, ◌∙◌, subst, inl, inr, arith}
use Rattle.std.specs.Prelude.{map}
use Rattle.cc_base.specs.declared.code.Code.TheVariants.{E13, E17}
use Rattle.cc_base.specs.declared.place.Place.{Place}
use Rattle.cc_base.specs.declared.literal.Base.{Base}
use Rattle.cc_base.specs.declared.literal.Base.TheVariants as bases
use Rattle.cc_base.specs.declared.literal.Operator.{Operator}
use Rattle.cc_base.specs.declared.literal.Op.{Op}
use Rattle.cc_base.specs.Literals.{Literal}
use Rattle.cc_capture.specs.declared.var.Var.{Var}
use Rattle.cc_capture.specs.declared.var.Var.TheVariants.{Free}
use Rattle.cc_capture.specs.Sets.{Set, empty}
use Rattle.cc_core.specs.Shapes.{Shape, BaseShape, FunctionShape, TypeFunctionShape, BoxShape, ExitShape, CapturingType, capturing}
use Rattle.cc_core.specs.Terms.{Note, Written, Own, Term, VariableTerm, LiteralTerm, FunctionTerm, TypeFunctionTerm, BoxTerm, Application, TypeApplication, Unboxing, Let, Primitive, Conditional, Repetition, Operation, Boundary, Leave}
use Rattle.cc_core.specs.Contexts.{TypeEntry, Context, entry_of}
use Rattle.cc_core.specs.Captured.{variable_set}
use Rattle.cc_core.specs.Substitution.{replaced_type, replaced_type_by_shape}
use Rattle.cc_core.specs.Typing.{base_of, base_given, base_operated, base_taken, base_answered}
use Rattle.cc_core.specs.Places.{Places, spots, first_part, second_part}
use Rattle.cc_checking.specs.Comparison.{Demand, demanded, Comparison, Matches, comparison, type_comparison, HasDemands, TypesHaveDemands}
use Rattle.cc_checking.specs.Exposing.{exposed}
use Rattle.cc_checking.specs.Avoidance.{Positive, avoided_type}
use Rattle.cc_checking.specs.Outcomes.{Asked, IsBelow, IsCapless, placed_at, Outcome, Refused, Found, finds, asked_before, ◌>>=◌, found_or}
use Rattle.cc_checking.specs.Inference.{Result, result, in_context, set_in, shape_in, type_in, written_in, base_type, entry_type, variable_type, function_head, type_function_head, box_head, exit_head, device_head, demand_at, compared_at, operand, operation_argument, Named, noted, part_below, part_against, sized, function_found, type_function_found, choice_found, exit_entry, inferred, unlimited}
use Rattle.cc_checking.proofs.ShapeEquality.{same_shape-itself}
use Rattle.cc_typing_laws.proofs.ComparisonLemmas.{Keeps, keeps_then, comparison_keeps}
use Rattle.cc_checking_laws.proofs.Findings.{Has, its_type, below_all, Operand, Notes, notes-absent, notes-written, notes-own, Finds, finds-variable, finds-literal, finds-function, finds-type_function, finds-box, finds-application, finds-type_application, finds-unboxing, finds-unboxing_own, finds-let, finds-primitive, finds-choice, finds-choice_own, finds-repetition, finds-operation, finds-operation_alone, finds-boundary, finds-exit}
use Rattle.cc_checking_laws.proofs.FoundFindings.{asked_of-append, asked_of-demands, Came, append_none}

-- a step and the rest
pub then_reaches : {A B : Type 0} {o : Outcome A} (next : A → Outcome B) {a : A} {b : B} {qs ps all : List Asked} → Came o a qs → Came (next a) b ps → all ≡ qs ++ ps
    → Came (◌>>=◌ o next) b all
unfolding ◌>>=◌
then_reaches next (list, e, q) (more, k, p) same = (
  list ++ more,
  ap (λ x. ◌>>=◌ x next) e ∙ ap (asked_before list) k,
  asked_of-append list more ∙ (λ j. q j ++ p j) ∙ sym same,
)

finds_reaches : {A : Type 0} (a : A) → Came (finds a) a []
finds_reaches a = ([], refl, refl)

-- the test of sizes passes
sized_reaches : (m : ℕ) (places : Places) {o : Outcome Result} {r : Result} {qs : List Asked} → Came o r qs → Came (sized (unlimited m) places o) r qs
sized_reaches m places {r = r} {qs = qs} c = then_reaches _ c (finds_reaches r) (sym (append_none qs))

-- each step
variable_reaches : (g : Context) (v : Var) {s : Shape} {d : Set} → Has g v s d → Came (variable_type g v) (capturing s (variable_set v)) []
variable_reaches g v {s} {d} h =
    ([], subst (λ w. variable_type g w ≡ Found (capturing s (variable_set w)) []) (sym h.is) (ap (entry_type (Free h.position)) h.there), refl)

device_reaches : (at : Place) (base : Base) (s : Shape) → s ≡ BaseShape base → Came (device_head at base s) tt []
device_reaches at base s e = ([], ap (device_head at base) e ∙ ap (λ t. cond t (finds tt) (Refused E13 at)) (same_shape-itself (BaseShape base)), refl)

compared_reaches : (at : Place) (c : Comparison) (ds : List Demand) → c ≡ Matches ds → Came (compared_at at c) tt (below_all ds)
compared_reaches at c ds e = (map (demand_at at) ds, ap (compared_at at) e, asked_of-demands at ds)

-- an answer that stays
kept_answer : (a b : Comparison) (ds : List Demand) → Keeps a b → a ≡ Matches ds → b ≡ Matches ds
kept_answer a b ds (inl e) is = cc
kept_answer a b ds (inr e) is = sym e ∙ is

-- a comparison with enough steps
shapes_later : (g : Context) (l r : Shape) {ds : List Demand} → HasDemands g l r ds → (n : ℕ) × ((m : ℕ) → n ≤ m → comparison m g l r ≡ Matches ds)
shapes_later g l r {ds} (n, e) = (n, λ m h. kept_answer (comparison n g l r) (comparison m g l r) ds (comparison_keeps n m h g l r) e)

types_later : (g : Context) (l r : CapturingType) {ds : List Demand} → TypesHaveDemands g l r ds → (n : ℕ) × ((m : ℕ) → n ≤ m → type_comparison m g l r ≡ Matches ds)
types_later g l r {ds} (n, e) =
    (n, λ m h. kept_answer (type_comparison n g l r) (type_comparison m g l r) ds (keeps_then (Matches (demanded g l.set r.set ∷ [])) _ _ (comparison_keeps n m h g l.shape r.shape)) e)

operand_reaches : (m : ℕ) (at : Place) (g : Context) (v : Var) (s s' : Shape) {d : Set} (ds : List Demand) → Has g (in_context g v) s' d → comparison m g s' s ≡ Matches ds
    → Came (operand (comparison m) at g v s) tt (below_all ds)
operand_reaches m at g v s s' ds h e = then_reaches _ (variable_reaches g (in_context g v) h) (compared_reaches at (comparison m g s' s) ds e) refl

operand_later : {g : Context} {v : Var} {s : Shape} {ds : List Demand} → Operand g v s ds
    → (n : ℕ) × ((m : ℕ) → n ≤ m → (at : Place) → Came (operand (comparison m) at g v s) tt (below_all ds))
operand_later {g} {v} {s} {ds} o = let k = shapes_later _ _ _ o.demands in (k.0, λ m h at. operand_reaches m at g v s o.shape ds o.has (k.1 m h))

notes_later : {root : ℕ} {g : Context} {note : Note} {t : CapturingType} {named : Named} {ps : List Asked} → Notes root g note t named ps
    → (n : ℕ) × ((m : ℕ) → n ≤ m → (at : Place) → Came (noted (comparison m) root at g note t) named ps)
notes_later notes-absent = (zero, λ m h at. finds_reaches _)
notes_later (notes-written {ds = ds} b) = let k = types_later _ _ _ b in (k.0, λ m h at. then_reaches _ (compared_reaches at _ ds (k.1 m h)) (finds_reaches _) refl)
notes_later (notes-own {ds = ds} b) = let k = shapes_later _ _ _ b in (k.0, λ m h at. then_reaches _ (compared_reaches at _ ds (k.1 m h)) (finds_reaches _) refl)

-- a branch with its comparison
part_below_reaches : (m : ℕ) (at : Place) (g : Context) (type : CapturingType) {row : Outcome Result} {r : Result} {qs : List Asked} (ds : List Demand) → Came row r qs → type_comparison m g r.type type ≡ Matches ds
    → Came (part_below (comparison m) at g type row) r (qs ++ (below_all ds ++ []))
part_below_reaches m at g type {r = r} ds c e = then_reaches _ c (then_reaches _ (compared_reaches at (type_comparison m g r.type type) ds e) (finds_reaches r) refl) refl

part_against_reaches : (m : ℕ) (at : Place) (g : Context) (shape : Shape) {row : Outcome Result} {r : Result} {qs : List Asked} (ds : List Demand) → Came row r qs → comparison m g r.type.shape shape ≡ Matches ds
    → Came (part_against (comparison m) at g shape row) r (qs ++ (below_all ds ++ []))
part_against_reaches m at g shape {r = r} ds c e = then_reaches _ c (then_reaches _ (compared_reaches at (comparison m g r.type.shape shape) ds e) (finds_reaches r) refl) refl

-- with so many steps or more the function finds it
abbrev pub Reached : ℕ → Context → Term → Places → Result → List Asked → Type 0
Reached root g t places r qs = (n : ℕ) × ((m : ℕ) → n ≤ m → Came (inferred (unlimited m) root g t places) r qs)

module _ (root : ℕ) where
  reached_variable : (g : Context) (v : Var) (places : Places) {s : Shape} {d : Set} → Has g (in_context g v) s d
      → Reached root g (VariableTerm v) places (result (its_type g v s) (VariableTerm v)) []
  reached_variable g v places h = (zero, λ m _. sized_reaches m places (then_reaches _ (variable_reaches g (in_context g v) h) (finds_reaches _) refl))

  reached_literal : (g : Context) (l : Literal) (places : Places) → Reached root g (LiteralTerm l) places (result (base_type (base_of l)) (LiteralTerm l)) []
  reached_literal g l places = (zero, λ m _. sized_reaches m places (finds_reaches _))

  reached_function : (g : Context) (takes : Shape) (c : Set) (body : Term) (places : Places) (r : Result) {qs : List Asked}
      → Reached root (entry_of (type_in g (capturing takes c)) ∷ g) body (first_part places) r qs
      → Reached root g (FunctionTerm takes c body) places (function_found g takes c r) (qs ++ [])
  reached_function g takes c body places r b = (b.0, λ m h. sized_reaches m places (then_reaches _ (b.1 m h) (finds_reaches _) refl))

  reached_type_function : (g : Context) (bound : Shape) (body : Term) (places : Places) (r : Result) {qs : List Asked}
      → Reached root (TypeEntry (shape_in g bound) ∷ g) body (first_part places) r qs
      → Reached root g (TypeFunctionTerm bound body) places (type_function_found g bound r) (qs ++ [])
  reached_type_function g bound body places r b = (b.0, λ m h. sized_reaches m places (then_reaches _ (b.1 m h) (finds_reaches _) refl))

  reached_box : (g : Context) (v : Var) (places : Places) {s : Shape} {d : Set} → Has g (in_context g v) s d
      → Reached root g (BoxTerm v) places (result (capturing (BoxShape s (variable_set (in_context g v))) empty) (BoxTerm v)) []
  reached_box g v places h = (zero, λ m _. sized_reaches m places (then_reaches _ (variable_reaches g (in_context g v) h) (finds_reaches _) refl))

  reached_application : (g : Context) (v w : Var) (places : Places) {s s' takes gives : Shape} {d d' c e : Set} {ds : List Demand}
      → Has g (in_context g v) s d → exposed g s ≡ FunctionShape takes c gives e → Has g (in_context g w) s' d' → TypesHaveDemands g (its_type g w s') (capturing takes c) ds
      → Reached root g (Application v w) places (result (replaced_type (in_context g w) (capturing gives e)) (Application v w)) (below_all ds ++ [])
  reached_application g v w places {ds = ds} h x h' b =
      let k = types_later _ _ _ b in (
        k.0,
        λ m more. sized_reaches m places
            (then_reaches _ (variable_reaches g (in_context g v) h)
            (then_reaches _ ([], ap (function_head (spots places).first) x, refl)
            (then_reaches _ (variable_reaches g (in_context g w) h')
            (then_reaches _ (compared_reaches (spots places).second _ ds (k.1 m more)) (finds_reaches _) refl) refl) refl) refl),
      )

  reached_type_application : (g : Context) (v : Var) (y : Shape) (places : Places) {s bound gives : Shape} {d e : Set} {ds : List Demand}
      → Has g (in_context g v) s d → exposed g s ≡ TypeFunctionShape bound gives e → HasDemands g (shape_in g y) bound ds
      → Reached root g (TypeApplication v y) places (result (replaced_type_by_shape (shape_in g y) (capturing gives e)) (TypeApplication v y)) (below_all ds ++ [])
  reached_type_application g v y places {ds = ds} h x b =
      let k = shapes_later _ _ _ b in (
        k.0,
        λ m more. sized_reaches m places
            (then_reaches _ (variable_reaches g (in_context g v) h)
            (then_reaches _ ([], ap (type_function_head (spots places).first) x, refl)
            (then_reaches _ (compared_reaches (spots places).second _ ds (k.1 m more)) (finds_reaches _) refl) refl) refl),
      )

  reached_unboxing : (g : Context) (v : Var) (set : Set) (places : Places) {s content : Shape} {d c : Set} → Has g (in_context g v) s d → exposed g s ≡ BoxShape content c
      → Reached root g (Unboxing (Some set) v) places (result (capturing content (set_in g set)) (Unboxing (Some set) v)) (IsBelow (demanded g c (set_in g set)) ∷ IsCapless (set_in g set) ∷ [])
  reached_unboxing g v set places {c = c} h x = (
    zero,
    λ m _. sized_reaches m places
        (then_reaches _ (variable_reaches g (in_context g v) h)
        (then_reaches _ ([], ap (box_head (spots places).first) x, refl)
        (then_reaches _ (demand_at (spots places).first (demanded g c (set_in g set)) ∷ [], refl, refl)
        (then_reaches _ (placed_at (spots places).second (IsCapless (set_in g set)) ∷ [], refl, refl) (finds_reaches _) refl) refl) refl) refl),
  )

  reached_unboxing_own : (g : Context) (v : Var) (places : Places) {s content : Shape} {d c : Set} → Has g (in_context g v) s d → exposed g s ≡ BoxShape content c
      → Reached root g (Unboxing None v) places (result (capturing content c) (Unboxing (Some (written_in root g c)) v)) (IsCapless c ∷ [])
  reached_unboxing_own g v places {c = c} h x = (
    zero,
    λ m _. sized_reaches m places
        (then_reaches _ (variable_reaches g (in_context g v) h)
        (then_reaches _ ([], ap (box_head (spots places).first) x, refl)
        (then_reaches _ (finds_reaches c)
        (then_reaches _ (placed_at (spots places).second (IsCapless c) ∷ [], refl, refl) (finds_reaches _) refl) refl) refl) refl),
  )

  reached_let : (g : Context) (note : Note) (right body : Term) (places : Places) {r r' : Result} {named : Named} {type : CapturingType} {qs ps qs' : List Asked}
      → Reached root g right (first_part places) r qs → Notes root g note r.type named ps
      → Reached root (entry_of named.type ∷ g) body (second_part places) r' qs' → avoided_type Positive (length g) named.type.set r'.type ≡ Some type
      → Reached root g (Let note right body) places (result type (Let named.note r.completed r'.completed)) (qs ++ (ps ++ (qs' ++ [])))
  reached_let g note right body places a nt b e =
      let k = notes_later nt in (
        a.0 + (k.0 + b.0),
        λ m h. sized_reaches m places
            (then_reaches _ (a.1 m (omega arith))
            (then_reaches _ (k.1 m (omega arith) (spots (first_part places)).at)
            (then_reaches _ (b.1 m (omega arith))
            (then_reaches _ ([], ap (found_or E17 (spots places).first) e, refl) (finds_reaches _) refl) refl) refl) refl),
      )

  reached_primitive : (g : Context) (o : Operator) (v w : Var) (places : Places) {ds es : List Demand} → Operand g v (BaseShape bases.Int) ds → Operand g w (BaseShape bases.Int) es
      → Reached root g (Primitive o v w) places (result (base_type (base_given o)) (Primitive o v w)) (below_all ds ++ (below_all es ++ []))
  reached_primitive g o v w places a b =
      let k = operand_later a in
      let l = operand_later b in
      (k.0 + l.0, λ m h. sized_reaches m places (then_reaches _ (k.1 m (omega arith) (spots places).first) (then_reaches _ (l.1 m (omega arith) (spots places).second) (finds_reaches _) refl) refl))

  reached_choice : (g : Context) (x : Shape) (c : Set) (v : Var) (t u : Term) (places : Places) {r r' : Result} {ds es es' : List Demand} {qs qs' : List Asked} → Operand g v (BaseShape bases.Bool) ds
      → Reached root g t (first_part places) r qs → TypesHaveDemands g r.type (type_in g (capturing x c)) es
      → Reached root g u (second_part places) r' qs' → TypesHaveDemands g r'.type (type_in g (capturing x c)) es'
      → Reached root g (Conditional (Written x c) v t u) places (result (type_in g (capturing x c)) (Conditional (Written x c) v r.completed r'.completed))
      (below_all ds ++ ((qs ++ (below_all es ++ [])) ++ ((qs' ++ (below_all es' ++ [])) ++ [])))
  reached_choice g x c v t u places {es = es} {es' = es'} o a p b q =
      let k = operand_later o in
      let l = types_later _ _ _ p in
      let l' = types_later _ _ _ q in (
        k.0 + (a.0 + (l.0 + (b.0 + l'.0))),
        λ m h. sized_reaches m places
            (then_reaches _ (k.1 m (omega arith) (spots places).first)
            (then_reaches _ (part_below_reaches m (spots (first_part places)).at g (type_in g (capturing x c)) es (a.1 m (omega arith)) (l.1 m (omega arith)))
            (then_reaches _ (part_below_reaches m (spots (second_part places)).at g (type_in g (capturing x c)) es' (b.1 m (omega arith)) (l'.1 m (omega arith))) (finds_reaches _) refl) refl) refl),
      )

  reached_choice_own : (g : Context) (x : Shape) (v : Var) (t u : Term) (places : Places) {r r' : Result} {ds es es' : List Demand} {qs qs' : List Asked} → Operand g v (BaseShape bases.Bool) ds
      → Reached root g t (first_part places) r qs → HasDemands g r.type.shape (shape_in g x) es
      → Reached root g u (second_part places) r' qs' → HasDemands g r'.type.shape (shape_in g x) es'
      → Reached root g (Conditional (Own x) v t u) places (choice_found root g x v r r')
      (below_all ds ++ ((qs ++ (below_all es ++ [])) ++ ((qs' ++ (below_all es' ++ [])) ++ [])))
  reached_choice_own g x v t u places {es = es} {es' = es'} o a p b q =
      let k = operand_later o in
      let l = shapes_later _ _ _ p in
      let l' = shapes_later _ _ _ q in (
        k.0 + (a.0 + (l.0 + (b.0 + l'.0))),
        λ m h. sized_reaches m places
            (then_reaches _ (k.1 m (omega arith) (spots places).first)
            (then_reaches _ (part_against_reaches m (spots (first_part places)).at g (shape_in g x) es (a.1 m (omega arith)) (l.1 m (omega arith)))
            (then_reaches _ (part_against_reaches m (spots (second_part places)).at g (shape_in g x) es' (b.1 m (omega arith)) (l'.1 m (omega arith))) (finds_reaches _) refl) refl) refl),
      )

  reached_repetition : (g : Context) (v w : Var) (places : Places) {ds es : List Demand} → Operand g v (BaseShape bases.Int) ds
      → Operand g w (FunctionShape (BaseShape bases.Int) empty (BaseShape bases.Unit) empty) es
      → Reached root g (Repetition v w) places (result (base_type bases.Unit) (Repetition v w)) (below_all ds ++ (below_all es ++ []))
  reached_repetition g v w places a b =
      let k = operand_later a in
      let l = operand_later b in
      (k.0 + l.0, λ m h. sized_reaches m places (then_reaches _ (k.1 m (omega arith) (spots places).first) (then_reaches _ (l.1 m (omega arith) (spots places).second) (finds_reaches _) refl) refl))

  reached_operation : (g : Context) (o : Op) (v w : Var) (places : Places) {s : Shape} {d : Set} {taken : Base} {ds : List Demand} → Has g (in_context g v) s d → exposed g s ≡ BaseShape (base_operated o)
      → base_taken o ≡ Some taken → Operand g w (BaseShape taken) ds
      → Reached root g (Operation o v (Some w)) places (result (base_type (base_answered o)) (Operation o v (Some w))) (below_all ds ++ [])
  reached_operation g o v w places {ds = ds} h x e a =
      let k = operand_later a in (
        k.0,
        λ m more. sized_reaches m places
            (then_reaches _ (variable_reaches g (in_context g v) h)
            (then_reaches _ (device_reaches (spots places).first (base_operated o) (exposed g _) x)
            (then_reaches _ (subst (λ z. Came (operation_argument (comparison m) (spots places).second g z (Some w)) tt (below_all ds)) (sym e) (k.1 m more (spots places).second)) (finds_reaches _) refl) refl) refl),
      )

  reached_operation_alone : (g : Context) (o : Op) (v : Var) (places : Places) {s : Shape} {d : Set} → Has g (in_context g v) s d → exposed g s ≡ BaseShape (base_operated o)
      → base_taken o ≡ None → Reached root g (Operation o v None) places (result (base_type (base_answered o)) (Operation o v None)) []
  reached_operation_alone g o v places h x e = (
    zero,
    λ m _. sized_reaches m places
        (then_reaches _ (variable_reaches g (in_context g v) h)
        (then_reaches _ (device_reaches (spots places).first (base_operated o) (exposed g _) x)
        (then_reaches _ (subst (λ z. Came (operation_argument (comparison m) (spots places).second g z None) tt []) (sym e) (finds_reaches tt)) (finds_reaches _) refl) refl) refl),
  )

  reached_boundary : (g : Context) (x : Shape) (body : Term) (places : Places) {r : Result} {qs : List Asked} {ds : List Demand}
      → Reached root (exit_entry (shape_in g x) ∷ g) body (first_part places) r qs
      → TypesHaveDemands (exit_entry (shape_in g x) ∷ g) r.type (capturing (shape_in g x) empty) ds
      → Reached root g (Boundary x body) places (result (capturing (shape_in g x) empty) (Boundary x r.completed)) ((qs ++ (below_all ds ++ [])) ++ [])
  reached_boundary g x body places {ds = ds} a p =
      let l = types_later _ _ _ p in (
        a.0 + l.0,
        λ m h. sized_reaches m places
            (then_reaches _ (part_below_reaches m (spots (first_part places)).at (exit_entry (shape_in g x) ∷ g) (capturing (shape_in g x) empty) ds (a.1 m (omega arith)) (l.1 m (omega arith))) (finds_reaches _) refl),
      )

  reached_exit : (g : Context) (x : Shape) (c : Set) (v w : Var) (places : Places) {s s' takes : Shape} {d d' : Set} {ds : List Demand}
      → Has g (in_context g v) s d → exposed g s ≡ ExitShape takes → Has g (in_context g w) s' d' → TypesHaveDemands g (its_type g w s') (capturing takes empty) ds
      → Reached root g (Leave x c v w) places (result (type_in g (capturing x c)) (Leave x c v w)) (below_all ds ++ [])
  reached_exit g x c v w places {ds = ds} h e h' b =
      let k = types_later _ _ _ b in (
        k.0,
        λ m more. sized_reaches m places
            (then_reaches _ (variable_reaches g (in_context g v) h)
            (then_reaches _ ([], ap (exit_head (spots places).first) e, refl)
            (then_reaches _ (variable_reaches g (in_context g w) h')
            (then_reaches _ (compared_reaches (spots places).second _ ds (k.1 m more)) (finds_reaches _) refl) refl) refl) refl),
      )

  -- what the relation finds, the function finds
  pub reaches : {g : Context} {t : Term} {r : Result} {qs : List Asked} → Finds root g t r qs → (places : Places) → Reached root g t places r qs
  reaches (finds-variable {g = g} {v = v} h) places = reached_variable g v places h
  reaches (finds-literal {g = g} {l = l}) places = reached_literal g l places
  reaches (finds-function {g = g} {takes = takes} {c = c} {body = body} {r = r} b) places = reached_function g takes c body places r (reaches b (first_part places))
  reaches (finds-type_function {g = g} {bound = bound} {body = body} {r = r} b) places = reached_type_function g bound body places r (reaches b (first_part places))
  reaches (finds-box {g = g} {v = v} h) places = reached_box g v places h
  reaches (finds-application {g = g} {v = v} {w = w} h x h' b) places = reached_application g v w places h x h' b
  reaches (finds-type_application {g = g} {v = v} {x = y} h x b) places = reached_type_application g v y places h x b
  reaches (finds-unboxing {g = g} {v = v} {set = set} h x) places = reached_unboxing g v set places h x
  reaches (finds-unboxing_own {g = g} {v = v} h x) places = reached_unboxing_own g v places h x
  reaches (finds-let {g = g} {note = note} {right = right} {body = body} a nt b e) places =
      reached_let g note right body places (reaches a (first_part places)) nt (reaches b (second_part places)) e
  reaches (finds-primitive {g = g} {o = o} {v = v} {w = w} a b) places = reached_primitive g o v w places a b
  reaches (finds-choice {g = g} {x = x} {c = c} {v = v} {t = t} {u = u} o a p b q) places =
      reached_choice g x c v t u places o (reaches a (first_part places)) p (reaches b (second_part places)) q
  reaches (finds-choice_own {g = g} {x = x} {v = v} {t = t} {u = u} o a p b q) places =
      reached_choice_own g x v t u places o (reaches a (first_part places)) p (reaches b (second_part places)) q
  reaches (finds-repetition {g = g} {v = v} {w = w} a b) places = reached_repetition g v w places a b
  reaches (finds-operation {g = g} {o = o} {v = v} {w = w} h x e a) places = reached_operation g o v w places h x e a
  reaches (finds-operation_alone {g = g} {o = o} {v = v} h x e) places = reached_operation_alone g o v places h x e
  reaches (finds-boundary {g = g} {x = x} {body = body} a p) places = reached_boundary g x body places (reaches a (first_part places)) p
  reaches (finds-exit {g = g} {x = x} {c = c} {v = v} {w = w} h e h' b) places = reached_exit g x c v w places h e h' b
