-- The completed and filled term is inferred again: a lemma for each form.
use Rattle.std.proofs.Common.{◌≡◌, ℕ, ◌<◌, ◌≤◌, List, [], ◌∷◌, ◌++◌, length, Some, None, sym, ap, ◌∙◌, subst, arith}
use Rattle.cc_base.specs.declared.literal.Base.{Base}
use Rattle.cc_base.specs.declared.literal.Base.TheVariants as bases
use Rattle.cc_base.specs.declared.literal.Operator.{Operator}
use Rattle.cc_base.specs.declared.literal.Op.{Op}
use Rattle.cc_base.specs.Literals.{Literal}
use Rattle.cc_capture.specs.declared.var.Var.{Var}
use Rattle.cc_capture.specs.declared.var.Elem.TheVariants.{Cap}
use Rattle.cc_capture.specs.Sets.{Set, empty}
use Rattle.cc_core.specs.Shapes.{Shape, BaseShape, FunctionShape, TypeFunctionShape, BoxShape, ExitShape, CapturingType, capturing}
use Rattle.cc_core.specs.Terms.{Note, Written, Term, VariableTerm, LiteralTerm, FunctionTerm, TypeFunctionTerm, BoxTerm, Application, TypeApplication, Unboxing, Let, Primitive, Conditional, Repetition, Operation, Boundary, Leave}
use Rattle.cc_core.specs.Contexts.{Bind, TermEntry, TypeEntry, Context, lookup, entry_of}
use Rattle.cc_core.specs.Traversal.{act, act_set, act_note, act_term}
use Rattle.cc_core.specs.Substitution.{filled_element, filling_in, filled, filled_set, filled_type, filled_term, closed, closed_set, replaced_type, replaced_type_by_shape}
use Rattle.cc_core.specs.Reading.{read_variable, reading}
use Rattle.cc_core.specs.WellFormed.{Kind, TermKind, kinds_of}
use Rattle.cc_core.specs.Captured.{captured_variables, variable_set}
use Rattle.cc_core.specs.Subcapturing.{SubcapturesSet}
use Rattle.cc_core.specs.Typing.{HasNoCap, base_of, base_given, base_operated, base_taken, base_answered}
use Rattle.cc_core.proofs.KindFacts.{IsKindedSet, IsKindedType}
use Rattle.cc_core.proofs.Moving.{flat_image-of_single}
use Rattle.cc_core.proofs.Shifting.{shift, shift_term}
use Rattle.cc_core.proofs.Sorts.{Sort, SetSort, ShapeSort, TypeSort, Syntax, acted}
use Rattle.cc_core.proofs.SubcapturingContexts.{IsKindedContext}
use Rattle.cc_core.proofs.SubcapturingLemmas.{subcaptures_reflexive}
use Rattle.cc_checking.specs.Comparison.{Demand, demanded, HasDemands, TypesHaveDemands}
use Rattle.cc_checking.specs.Exposing.{exposed}
use Rattle.cc_checking.specs.Avoidance.{Positive, avoided_type}
use Rattle.cc_checking.specs.Outcomes.{Asked, IsBelow, IsCapless}
use Rattle.cc_checking.specs.Fillings.{Filling, filled_entry, filled_context, IsOverGlobals}
use Rattle.cc_checking.specs.Inference.{Result, result, in_context, set_in, shape_in, type_in, written_in, captured_in, base_type, Named, named_by, function_found, type_function_found, exit_entry}
use Rattle.cc_checking_laws.proofs.Findings.{Has, its_type, below_all, Operand, Notes, notes-absent, notes-written, notes-own, Finds, finds-variable, finds-literal, finds-function, finds-type_function, finds-box, finds-application, finds-type_application, finds-unboxing, finds-let, finds-primitive, finds-choice, finds-repetition, finds-operation, finds-operation_alone, finds-boundary, finds-exit}
use Rattle.cc_checking_laws.proofs.ReadingKinds.{Inside, inside_length}
use Rattle.cc_checking_laws.proofs.LeastFillings.{lookup-filled}
use Rattle.cc_checking_laws.proofs.FilledSyntax.{length-filled, filled-put_shape}
use Rattle.cc_checking_laws.proofs.FilledSubtyping.{Serves, serves_parts, shapes_below}
use Rattle.cc_checking_laws.proofs.FilledTyping.{fill_empty, fill_variable, read_fill, read_written, closed-filled, closed_set-filled, put-filled, put_set-filled}
use Rattle.cc_checking_laws.proofs.FilledActions.{exposed-filled, captured-filled, avoided_type-filled}
use Rattle.cc_checking_laws.proofs.FilledComparisons.{EachHolds, each_holds-append, each_holds-alone, Compare, TypesCompare, types_compare, filled_shapes_compare, filled_types_compare}

-- the completed and filled term is found again in the filled context, with the filled type, and all that is asked holds
abbrev pub Refound : ℕ → Filling → Context → Result → Type 0
Refound outer f g r =
    (qs : List Asked) × Finds outer (filled_context f g) (filled_term f r.completed) (result (filled_type f r.type) (filled_term f r.completed)) qs × EachHolds qs

module _ (base : Context) (root : ℕ) (within : root ≤ length base) (f : Filling) (over : IsOverGlobals root f)
    (terms : (p : ℕ) → p < root → lookup (kinds_of base) p ≡ Some TermKind) where
  abbrev outer : ℕ
  outer = length base

  none : filled_set f empty ≡ empty
  none = fill_empty base root within f over terms

  base_filled : (b : Base) → base_type b ≡ filled_type f (base_type b)
  base_filled b = ap (capturing (BaseShape b)) (sym none)

  -- a body stands under one binder more
  under : {h : Context} (t : Term) (type : CapturingType) {qs : List Asked} → Finds outer h (filled_term f t) (result type (filled_term f t)) qs
      → Finds outer h (act_term (filling_in f) 1 t) (result type (act_term (filling_in f) 1 t)) qs
  under {h} t type {qs} b = subst (λ x. Finds outer h x (result type x) qs) (sym (shift_term (filling_in f) 0 t)) b

  module _ {g : Context} {passed : List Kind} (i : Inside base g passed) (formed : IsKindedContext g) where
    abbrev filled_g : Context
    filled_g = filled_context f g

    more : root ≤ length g
    more = let l = inside_length i in omega arith

    -- reading in the filled context
    pub in_filled : (sort : Sort) (x : Syntax sort) → acted sort (reading (length filled_g)) 0 (acted sort (filling_in f) 0 x) ≡ acted sort (filling_in f) 0 (acted sort (reading (length g)) 0 x)
    in_filled sort x = ap (λ n. acted sort (reading n) 0 (acted sort (filling_in f) 0 x)) (length-filled f g) ∙ read_fill base root within f over terms sort (length g) x

    pub written_filled : (c : Set) → IsKindedSet (kinds_of g) [] c → set_in filled_g (filled_set f (written_in outer g c)) ≡ filled_set f c
    written_filled c k = ap (λ n. act_set (reading n) 0 (filled_set f (written_in outer g c))) (length-filled f g) ∙ read_written base root within f over terms i formed c k

    variable_filled : (v : Var) → in_context filled_g v ≡ in_context g v
    variable_filled v = ap (λ n. read_variable n 0 v) (length-filled f g)

    set_filled : (v : Var) → variable_set (in_context filled_g v) ≡ filled_set f (variable_set (in_context g v))
    set_filled v = ap variable_set (variable_filled v) ∙ sym (fill_variable base root within f over terms (in_context g v))

    its_filled : (v : Var) (s : Shape) → its_type filled_g v (filled f s) ≡ filled_type f (its_type g v s)
    its_filled v s = λ j. capturing (filled f s) (set_filled v j)

    captured_filled : (t : Term) → captured_in filled_g (filled_term f t) ≡ filled_set f (captured_in g t)
    captured_filled t = ap (set_in filled_g) (captured-filled root f over t) ∙ in_filled SetSort (captured_variables t)

    closed_filled : (s : Shape) → closed (length filled_g) (filled f s) ≡ act (filling_in f) 1 (closed (length g) s)
    closed_filled s = ap (λ n. closed n (filled f s)) (length-filled f g) ∙ closed-filled base root within f over terms i formed s

    closed_set_filled : (c : Set) → closed_set (length filled_g) (filled_set f c) ≡ act_set (filling_in f) 1 (closed_set (length g) c)
    closed_set_filled c = ap (λ n. closed_set n (filled_set f c)) (length-filled f g) ∙ closed_set-filled base root within f over terms i formed c

    has_filled : (v : Var) {s : Shape} {d : Set} → Has g (in_context g v) s d → Has filled_g (in_context filled_g v) (filled f s) (filled_set f d)
    has_filled v {s} {d} h = record { position = h.position; is = variable_filled v ∙ h.is; there = lookup-filled f g h.position s d h.there }

    head_filled : (s x : Shape) → exposed g s ≡ x → exposed filled_g (filled f s) ≡ filled f x
    head_filled s x e = exposed-filled f g s ∙ ap (filled f) e

    -- an operand, with demands that hold
    abbrev pub OperandHolds : Var → Shape → Type 0
    OperandHolds v s = (ds : List Demand) × Operand filled_g v s ds × EachHolds (below_all ds)

    pub operand_filled : (v : Var) (s : Shape) (ds : List Demand) → Operand g v s ds → Serves f (below_all ds) → OperandHolds v (filled f s)
    operand_filled v s ds o served =
        let p = filled_shapes_compare root f over g o.shape s ds o.demands served in
        (p.0, record { shape = filled f o.shape; declared = filled_set f o.declared; has = has_filled v o.has; demands = p.1 }, p.2)

    -- what is given has the type of a variable
    given_filled : (w : Var) (s : Shape) (t : CapturingType) (ds : List Demand) → TypesHaveDemands g (its_type g w s) t ds → Serves f (below_all ds)
        → TypesCompare filled_g (its_type filled_g w (filled f s)) (filled_type f t)
    given_filled w s t ds b served =
        subst (λ x. TypesCompare filled_g x (filled_type f t)) (sym (its_filled w s)) (filled_types_compare root f over g (its_type g w s) t ds b served)

    pub again_variable : (v : Var) {s : Shape} {d : Set} → Has g (in_context g v) s d → Refound outer f g (result (its_type g v s) (VariableTerm v))
    again_variable v {s} h = ([], subst (λ t. Finds outer filled_g (VariableTerm v) (result t (VariableTerm v)) []) (its_filled v s) (finds-variable (has_filled v h)), tt)

    pub again_literal : (l : Literal) → Refound outer f g (result (base_type (base_of l)) (LiteralTerm l))
    again_literal l = ([], subst (λ t. Finds outer filled_g (LiteralTerm l) (result t (LiteralTerm l)) []) (base_filled (base_of l)) finds-literal, tt)

    pub again_function : (takes : Shape) (c : Set) (r : Result) → Refound outer f (entry_of (type_in g (capturing takes c)) ∷ g) r → Refound outer f g (function_found g takes c r)
    again_function takes c r b =
        let whole : Term = filled_term f (FunctionTerm takes c r.completed) in
        let body : Term = act_term (filling_in f) 1 r.completed in
        let inner : Finds outer (entry_of (type_in filled_g (capturing (filled f takes) (filled_set f c))) ∷ filled_g) body (result (filled_type f r.type) body) b.0 =
        subst (λ (t : CapturingType). Finds outer (entry_of t ∷ filled_g) body (result (filled_type f r.type) body) b.0) (sym (in_filled TypeSort (capturing takes c))) (under r.completed (filled_type f r.type) b.1) in
        let type : (function_found filled_g (filled f takes) (filled_set f c) (result (filled_type f r.type) body)).type ≡ filled_type f (function_found g takes c r).type =
        λ j. capturing (FunctionShape (in_filled ShapeSort takes j) (in_filled SetSort c j) (closed_filled r.type.shape j) (closed_set_filled r.type.set j)) (captured_filled (FunctionTerm takes c r.completed) j) in
        (b.0 ++ [], subst (λ t. Finds outer filled_g whole (result t whole) (b.0 ++ [])) type (finds-function inner), each_holds-alone b.0 b.2)

    pub again_type_function : (bound : Shape) (r : Result) → Refound outer f (TypeEntry (shape_in g bound) ∷ g) r → Refound outer f g (type_function_found g bound r)
    again_type_function bound r b =
        let whole : Term = filled_term f (TypeFunctionTerm bound r.completed) in
        let body : Term = act_term (filling_in f) 1 r.completed in
        let inner : Finds outer (TypeEntry (shape_in filled_g (filled f bound)) ∷ filled_g) body (result (filled_type f r.type) body) b.0 =
        subst (λ s. Finds outer (TypeEntry s ∷ filled_g) body (result (filled_type f r.type) body) b.0) (sym (in_filled ShapeSort bound)) (under r.completed (filled_type f r.type) b.1) in
        let type : (type_function_found filled_g (filled f bound) (result (filled_type f r.type) body)).type ≡ filled_type f (type_function_found g bound r).type =
        λ j. capturing (TypeFunctionShape (in_filled ShapeSort bound j) (closed_filled r.type.shape j) (closed_set_filled r.type.set j)) (captured_filled (TypeFunctionTerm bound r.completed) j) in
        (b.0 ++ [], subst (λ t. Finds outer filled_g whole (result t whole) (b.0 ++ [])) type (finds-type_function inner), each_holds-alone b.0 b.2)

    pub again_box : (v : Var) {s : Shape} {d : Set} → Has g (in_context g v) s d → Refound outer f g (result (capturing (BoxShape s (variable_set (in_context g v))) empty) (BoxTerm v))
    again_box v {s} h =
        let type : capturing (BoxShape (filled f s) (variable_set (in_context filled_g v))) empty ≡ filled_type f (capturing (BoxShape s (variable_set (in_context g v))) empty) =
        λ j. capturing (BoxShape (filled f s) (set_filled v j)) (sym none j) in
        ([], subst (λ t. Finds outer filled_g (BoxTerm v) (result t (BoxTerm v)) []) type (finds-box (has_filled v h)), tt)

    pub again_application : (v w : Var) {s s' : Shape} {d d' : Set} (takes gives : Shape) (c e : Set) (ds : List Demand)
        → Has g (in_context g v) s d → exposed g s ≡ FunctionShape takes c gives e → Has g (in_context g w) s' d'
        → TypesHaveDemands g (its_type g w s') (capturing takes c) ds → Serves f (below_all ds)
        → Refound outer f g (result (replaced_type (in_context g w) (capturing gives e)) (Application v w))
    again_application v w {s} {s'} takes gives c e ds h x h' b served =
        let p = given_filled w s' (capturing takes c) ds b served in
        let type : replaced_type (in_context filled_g w) (capturing (act (filling_in f) 1 gives) (act_set (filling_in f) 1 e)) ≡ filled_type f (replaced_type (in_context g w) (capturing gives e)) =
        ap (λ u. replaced_type u (capturing (act (filling_in f) 1 gives) (act_set (filling_in f) 1 e))) (variable_filled w)
        ∙ (λ j. capturing (put-filled base root within f over terms i formed (in_context g w) gives j) (put_set-filled base root within f over terms i formed (in_context g w) e j)) in (
          below_all p.0 ++ [],
          subst (λ t. Finds outer filled_g (Application v w) (result t (Application v w)) (below_all p.0 ++ [])) type
              (finds-application (has_filled v h) (head_filled s (FunctionShape takes c gives e) x) (has_filled w h') p.1),
          each_holds-alone (below_all p.0) p.2,
        )

    pub again_type_application : (v : Var) {s : Shape} {d : Set} (y bound gives : Shape) (e : Set) (ds : List Demand)
        → Has g (in_context g v) s d → exposed g s ≡ TypeFunctionShape bound gives e → HasDemands g (shape_in g y) bound ds → Serves f (below_all ds)
        → Refound outer f g (result (replaced_type_by_shape (shape_in g y) (capturing gives e)) (TypeApplication v y))
    again_type_application v {s} y bound gives e ds h x b served =
        let p : Compare filled_g (shape_in filled_g (filled f y)) (filled f bound) =
        subst (λ z. Compare filled_g z (filled f bound)) (sym (in_filled ShapeSort y)) (filled_shapes_compare root f over g (shape_in g y) bound ds b served) in
        let whole : Term = TypeApplication v (filled f y) in
        let type : replaced_type_by_shape (shape_in filled_g (filled f y)) (capturing (act (filling_in f) 1 gives) (act_set (filling_in f) 1 e)) ≡ filled_type f (replaced_type_by_shape (shape_in g y) (capturing gives e)) =
        ap (λ z. replaced_type_by_shape z (capturing (act (filling_in f) 1 gives) (act_set (filling_in f) 1 e))) (in_filled ShapeSort y)
        ∙ ap (λ z. replaced_type_by_shape (filled f (shape_in g y)) (capturing z (act_set (filling_in f) 1 e))) (shift (filling_in f) 0 gives)
        ∙ sym (filled-put_shape root f over (shape_in g y) TypeSort 0 (capturing gives e)) in (
          below_all p.0 ++ [],
          subst (λ t. Finds outer filled_g whole (result t whole) (below_all p.0 ++ [])) type
              (finds-type_application (has_filled v h) (head_filled s (TypeFunctionShape bound gives e) x) p.1),
          each_holds-alone (below_all p.0) p.2,
        )

    -- a box that is opened under a written set
    pub again_unboxing : (v : Var) {s : Shape} {d : Set} (content : Shape) (c set written : Set) → Has g (in_context g v) s d → exposed g s ≡ BoxShape content c
        → set_in filled_g (filled_set f written) ≡ filled_set f set → SubcapturesSet filled_g (filled_set f c) (filled_set f set) → HasNoCap (filled_set f set)
        → Refound outer f g (result (capturing content set) (Unboxing (Some written) v))
    again_unboxing v {s} content c set written h x is below capless =
        let whole : Term = Unboxing (Some (filled_set f written)) v in (
          IsBelow (demanded filled_g (filled_set f c) (filled_set f set)) ∷ IsCapless (filled_set f set) ∷ [],
          subst (λ z. Finds outer filled_g whole (result (capturing (filled f content) z) whole) (IsBelow (demanded filled_g (filled_set f c) z) ∷ IsCapless z ∷ [])) is
              (finds-unboxing (has_filled v h) (head_filled s (BoxShape content c) x)),
          (below, (capless, tt)),
        )

    -- what is written for a type, and what then is
    abbrev pub NotesHold : Note → CapturingType → CapturingType → Type 0
    NotesHold note t u = (ps : List Asked) × Notes outer filled_g note t (named_by u note) ps × EachHolds ps

    written_again : (s : Shape) (c : Set) (t u : CapturingType) → type_in filled_g (capturing s c) ≡ u → TypesCompare filled_g t u → NotesHold (Written s c) t u
    written_again s c t u is p = (
      below_all p.0 ++ [],
      subst (λ z. Notes outer filled_g (Written s c) t (named_by z (Written s c)) (below_all p.0 ++ [])) is (notes-written (subst (λ z. TypesHaveDemands filled_g t z p.0) (sym is) p.1)),
      each_holds-alone (below_all p.0) p.2,
    )

    pub again_notes : {note : Note} {t : CapturingType} {m : Named} {ps : List Asked} → Notes outer g note t m ps → IsKindedType (kinds_of g) [] t → Serves f ps
        → NotesHold (act_note (filling_in f) 0 m.note) (filled_type f t) (filled_type f m.type)
    again_notes notes-absent kt served = ([], notes-absent, tt)
    again_notes (notes-written {t = t} {s = s} {c = c} {ds = ds} b) kt served =
        written_again (filled f s) (filled_set f c) (filled_type f t) (filled_type f (type_in g (capturing s c))) (in_filled TypeSort (capturing s c))
        (filled_types_compare root f over g t (type_in g (capturing s c)) ds b (serves_parts f (below_all ds) [] served).0)
    again_notes (notes-own {t = t} {s = s} {ds = ds} b) kt served =
        written_again (filled f s) (filled_set f (written_in outer g t.set)) (filled_type f t) (filled_type f (capturing (shape_in g s) t.set))
        (λ j. capturing (in_filled ShapeSort s j) (written_filled t.set kt.1 j))
        (types_compare filled_g (filled_type f t) (filled_type f (capturing (shape_in g s) t.set))
        (subcaptures_reflexive filled_g (filled_set f t.set), shapes_below root f over g t.shape (shape_in g s) ds b (serves_parts f (below_all ds) [] served).0))

    pub again_let : (r r' : Result) (named : Named) (type : CapturingType) → Refound outer f g r → NotesHold (act_note (filling_in f) 0 named.note) (filled_type f r.type) (filled_type f named.type)
        → Refound outer f (entry_of named.type ∷ g) r' → avoided_type Positive (length g) named.type.set r'.type ≡ Some type
        → Refound outer f g (result type (Let named.note r.completed r'.completed))
    again_let r r' named type a m b e = (
      a.0 ++ (m.0 ++ (b.0 ++ [])),
      finds-let a.1 m.1 (under r'.completed (filled_type f r'.type) b.1)
          (ap (λ n. avoided_type Positive n (filled_set f named.type.set) (filled_type f r'.type)) (length-filled f g) ∙ avoided_type-filled root f over (length g) more named.type.set r'.type type e),
      each_holds-append a.0 (m.0 ++ (b.0 ++ [])) a.2 (each_holds-append m.0 (b.0 ++ []) m.2 (each_holds-alone b.0 b.2)),
    )

    pub again_primitive : (o : Operator) (v w : Var) → OperandHolds v (BaseShape bases.Int) → OperandHolds w (BaseShape bases.Int) → Refound outer f g (result (base_type (base_given o)) (Primitive o v w))
    again_primitive o v w a b = (
      below_all a.0 ++ (below_all b.0 ++ []),
      subst (λ t. Finds outer filled_g (Primitive o v w) (result t (Primitive o v w)) (below_all a.0 ++ (below_all b.0 ++ []))) (base_filled (base_given o)) (finds-primitive a.1 b.1),
      each_holds-append (below_all a.0) (below_all b.0 ++ []) a.2 (each_holds-alone (below_all b.0) b.2),
    )

    pub again_choice : (x : Shape) (c : Set) (v : Var) (r r' : Result) (type : CapturingType) → type_in filled_g (capturing (filled f x) (filled_set f c)) ≡ filled_type f type
        → OperandHolds v (BaseShape bases.Bool) → Refound outer f g r → TypesCompare filled_g (filled_type f r.type) (filled_type f type)
        → Refound outer f g r' → TypesCompare filled_g (filled_type f r'.type) (filled_type f type)
        → Refound outer f g (result type (Conditional (Written x c) v r.completed r'.completed))
    again_choice x c v r r' type is o a p b q =
        let whole : Term = filled_term f (Conditional (Written x c) v r.completed r'.completed) in
        let one : List Asked = a.0 ++ (below_all p.0 ++ []) in
        let other : List Asked = b.0 ++ (below_all q.0 ++ []) in (
          below_all o.0 ++ (one ++ (other ++ [])),
          subst (λ t. Finds outer filled_g whole (result t whole) (below_all o.0 ++ (one ++ (other ++ [])))) is
              (finds-choice o.1 a.1 (subst (λ t. TypesHaveDemands filled_g (filled_type f r.type) t p.0) (sym is) p.1) b.1 (subst (λ t. TypesHaveDemands filled_g (filled_type f r'.type) t q.0) (sym is) q.1)),
          each_holds-append (below_all o.0) (one ++ (other ++ [])) o.2
              (each_holds-append one (other ++ []) (each_holds-append a.0 (below_all p.0 ++ []) a.2 (each_holds-alone (below_all p.0) p.2))
              (each_holds-alone other (each_holds-append b.0 (below_all q.0 ++ []) b.2 (each_holds-alone (below_all q.0) q.2)))),
        )

    pub again_repetition : (v w : Var) → OperandHolds v (BaseShape bases.Int) → OperandHolds w (filled f (FunctionShape (BaseShape bases.Int) empty (BaseShape bases.Unit) empty))
        → Refound outer f g (result (base_type bases.Unit) (Repetition v w))
    again_repetition v w a b' =
        let b : OperandHolds w (FunctionShape (BaseShape bases.Int) empty (BaseShape bases.Unit) empty) =
        subst (OperandHolds w) (λ j. FunctionShape (BaseShape bases.Int) (none j) (BaseShape bases.Unit) (none j)) b' in (
          below_all a.0 ++ (below_all b.0 ++ []),
          subst (λ t. Finds outer filled_g (Repetition v w) (result t (Repetition v w)) (below_all a.0 ++ (below_all b.0 ++ []))) (base_filled bases.Unit) (finds-repetition a.1 b.1),
          each_holds-append (below_all a.0) (below_all b.0 ++ []) a.2 (each_holds-alone (below_all b.0) b.2),
        )

    pub again_operation : (o : Op) (v w : Var) {s : Shape} {d : Set} (taken : Base) → Has g (in_context g v) s d → exposed g s ≡ BaseShape (base_operated o) → base_taken o ≡ Some taken
        → OperandHolds w (BaseShape taken) → Refound outer f g (result (base_type (base_answered o)) (Operation o v (Some w)))
    again_operation o v w {s} taken h x e a = (
      below_all a.0 ++ [],
      subst (λ t. Finds outer filled_g (Operation o v (Some w)) (result t (Operation o v (Some w))) (below_all a.0 ++ [])) (base_filled (base_answered o))
          (finds-operation (has_filled v h) (head_filled s (BaseShape (base_operated o)) x) e a.1),
      each_holds-alone (below_all a.0) a.2,
    )

    pub again_operation_alone : (o : Op) (v : Var) {s : Shape} {d : Set} → Has g (in_context g v) s d → exposed g s ≡ BaseShape (base_operated o) → base_taken o ≡ None
        → Refound outer f g (result (base_type (base_answered o)) (Operation o v None))
    again_operation_alone o v {s} h x e = (
      [],
      subst (λ t. Finds outer filled_g (Operation o v None) (result t (Operation o v None)) []) (base_filled (base_answered o))
          (finds-operation_alone (has_filled v h) (head_filled s (BaseShape (base_operated o)) x) e),
      tt,
    )

    pub again_boundary : (x : Shape) (r : Result) → Refound outer f (exit_entry (shape_in g x) ∷ g) r
        → TypesCompare (filled_context f (exit_entry (shape_in g x) ∷ g)) (filled_type f r.type) (filled_type f (capturing (shape_in g x) empty))
        → Refound outer f g (result (capturing (shape_in g x) empty) (Boundary x r.completed))
    again_boundary x r a p =
        let whole : Term = filled_term f (Boundary x r.completed) in
        let body : Term = act_term (filling_in f) 1 r.completed in
        let entry : exit_entry (shape_in filled_g (filled f x)) ≡ filled_entry f (exit_entry (shape_in g x)) =
        λ j. TermEntry (ExitShape (in_filled ShapeSort x j)) (sym (flat_image-of_single (filled_element f) Cap) j) in
        let type : capturing (shape_in filled_g (filled f x)) empty ≡ filled_type f (capturing (shape_in g x) empty) = λ j. capturing (in_filled ShapeSort x j) (sym none j) in
        let inner : Finds outer (exit_entry (shape_in filled_g (filled f x)) ∷ filled_g) body (result (filled_type f r.type) body) a.0 =
        subst (λ (b : Bind). Finds outer (b ∷ filled_g) body (result (filled_type f r.type) body) a.0) (sym entry) (under r.completed (filled_type f r.type) a.1) in
        let below : TypesHaveDemands (exit_entry (shape_in filled_g (filled f x)) ∷ filled_g) (filled_type f r.type) (capturing (shape_in filled_g (filled f x)) empty) p.0 =
        subst (λ (b : Bind). TypesHaveDemands (b ∷ filled_g) (filled_type f r.type) (capturing (shape_in filled_g (filled f x)) empty) p.0) (sym entry)
        (subst (λ t. TypesHaveDemands (filled_entry f (exit_entry (shape_in g x)) ∷ filled_g) (filled_type f r.type) t p.0) (sym type) p.1) in
        let asked : List Asked = a.0 ++ (below_all p.0 ++ []) in (
          asked ++ [],
          subst (λ t. Finds outer filled_g whole (result t whole) (asked ++ [])) type (finds-boundary inner below),
          each_holds-alone asked (each_holds-append a.0 (below_all p.0 ++ []) a.2 (each_holds-alone (below_all p.0) p.2)),
        )

    pub again_exit : (x : Shape) (c : Set) (v w : Var) {s s' : Shape} {d d' : Set} (takes : Shape) (ds : List Demand)
        → Has g (in_context g v) s d → exposed g s ≡ ExitShape takes → Has g (in_context g w) s' d' → TypesHaveDemands g (its_type g w s') (capturing takes empty) ds → Serves f (below_all ds)
        → Refound outer f g (result (type_in g (capturing x c)) (Leave x c v w))
    again_exit x c v w {s} {s'} takes ds h e h' b served =
        let whole : Term = Leave (filled f x) (filled_set f c) v w in
        let p : TypesCompare filled_g (its_type filled_g w (filled f s')) (capturing (filled f takes) empty) =
        subst (λ z. TypesCompare filled_g (its_type filled_g w (filled f s')) (capturing (filled f takes) z)) none (given_filled w s' (capturing takes empty) ds b served) in (
          below_all p.0 ++ [],
          subst (λ t. Finds outer filled_g whole (result t whole) (below_all p.0 ++ [])) (in_filled TypeSort (capturing x c))
              (finds-exit (has_filled v h) (head_filled s (ExitShape takes) e) (has_filled w h') p.1),
          each_holds-alone (below_all p.0) p.2,
        )
