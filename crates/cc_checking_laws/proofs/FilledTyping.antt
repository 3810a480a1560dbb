-- Where a filling serves all that is asked, the completed and filled term has the filled type.
use Rattle.std.proofs.Common.{◌≡◌, ℕ, suc, ◌<◌, ◌≤◌, List, [], ◌∷◌, length, Some, refl, sym, ap, ◌∙◌, subst, arith}
use Rattle.cc_base.specs.declared.literal.Base.TheVariants as bases
use Rattle.cc_capture.specs.declared.var.Var.{Var}
use Rattle.cc_capture.specs.declared.var.Var.TheVariants.{Bound, Free}
use Rattle.cc_capture.specs.declared.var.Elem.{Elem}
use Rattle.cc_capture.specs.declared.var.Elem.TheVariants.{Var as Variable, Cap, Hole}
use Rattle.cc_capture.specs.Sets.{Set, empty}
use Rattle.cc_capture.proofs.Images.{flat_image-empty}
use Rattle.cc_core.specs.Shapes.{Shape, BaseShape, FunctionShape, TypeFunctionShape, BoxShape, ExitShape, CapturingType, capturing}
use Rattle.cc_core.specs.Terms.{Note, Written, Term, VariableTerm, FunctionTerm, TypeFunctionTerm, BoxTerm, Application, TypeApplication, Unboxing, Let, Conditional, Boundary, Leave}
use Rattle.cc_core.specs.Contexts.{TermEntry, TypeEntry, Context, lookup, entry_of}
use Rattle.cc_core.specs.Traversal.{act, act_set, act_note, act_term}
use Rattle.cc_core.specs.Substitution.{single, filled_element, filling_in, filled, filled_set, filled_term, opened_term, closed, closed_set, putting, put_variable, closed_variable, putting_shape}
use Rattle.cc_core.specs.Reading.{read_variable, reading, read_set, read_term}
use Rattle.cc_core.specs.WellFormed.{Kind, TermKind, kinds_of, IsWellFormedType, IsWellFormedShape}
use Rattle.cc_core.specs.Captured.{captured_variables, variable_set}
use Rattle.cc_core.specs.Subcapturing.{SubcapturesSet}
use Rattle.cc_core.specs.Subtyping.{Subtypes, reflexive, transitive, box}
use Rattle.cc_core.specs.Typing.{IsNoteOf, HasNoCap, HasTyping, t-var, t-abs, t-tabs, t-app, t-tapp, t-box, t-unbox, t-let, t-if, t-boundary, t-exit, t-sub}
use Rattle.cc_core.proofs.CapturedActions.{captured_variables-act, PassesBinders-filling_in}
use Rattle.cc_core.proofs.CapturedKinds.{empty_kinded}
use Rattle.cc_core.proofs.KindFacts.{IsKindedElement, IsKindedSet, IsKinded, IsKindedType, IsKindedNote, IsKinded-test, IsKindedSet-test}
use Rattle.cc_core.proofs.KindRespecting.{KeepsKinds-filling_in}
use Rattle.cc_core.proofs.Lookups.{lookup-newest}
use Rattle.cc_core.proofs.Moving.{flat_image-of_single, Member-single}
use Rattle.cc_core.proofs.ReadingAndWriting.{opened_term-read, read_set-written}
use Rattle.cc_core.proofs.Shifting.{shift, shift_term}
use Rattle.cc_core.proofs.Sorts.{Sort, SetSort, ShapeSort, TypeSort, Syntax, acted, HasKinds, HasKinds-act}
use Rattle.cc_core.proofs.SubcapturingContexts.{IsKindedContext}
use Rattle.cc_core.proofs.SubcapturingLemmas.{subcaptures_reflexive}
use Rattle.cc_checking.specs.Comparison.{Demand, HasDemands, TypesHaveDemands}
use Rattle.cc_checking.specs.Exposing.{exposed}
use Rattle.cc_checking.specs.Avoidance.{Positive, avoided_type}
use Rattle.cc_checking.specs.Outcomes.{Asked}
use Rattle.cc_checking.specs.Fillings.{Filling, filled_context, IsGlobal, IsOverGlobals}
use Rattle.cc_checking.specs.Inference.{Result, in_context, set_in, shape_in, type_in, written_in, Named, function_found, type_function_found, exit_entry}
use Rattle.cc_typing_laws.proofs.Avoiding.{positive_above}
use Rattle.cc_typing_laws.proofs.ExposingShapes.{exposed_above}
use Rattle.cc_typing_laws.proofs.InternalConversions.{formed_type_from, fresh_in, fresh_in_set, closed_in_set}
use Rattle.cc_checking_laws.proofs.Findings.{Has, below_all, Operand, Notes, notes-absent, notes-written, notes-own}
use Rattle.cc_checking_laws.proofs.ReadingKinds.{Inside, inside_length, at_base, read_kinded}
use Rattle.cc_checking_laws.proofs.FoundTypes.{has_exposed, variable_set_kinded, left_kinded}
use Rattle.cc_checking_laws.proofs.LeastFillings.{lookup-filled}
use Rattle.cc_checking_laws.proofs.FilledSyntax.{length-filled, kinds-filled, filled-moved, opening_leaves, reading_leaves, closing_leaves, filled-put_shape, no_index_filled, PassesBinders-reading}
use Rattle.cc_checking_laws.proofs.FilledSubtyping.{Serves, serves_parts, subtypes_filled, subcaptures_set_filled, shapes_below, types_below}

-- typing of an equal term at an equal type
pub typing_as : {g : Context} {t t' : Term} {s s' : Shape} {c c' : Set} → t ≡ t' → s ≡ s' → c ≡ c' → HasTyping g t s c → HasTyping g t' s' c'
typing_as {g} {t} {t'} {s} {s'} {c} {c'} p q r h =
    subst (λ x. HasTyping g x s' c') p (subst (λ x. HasTyping g t x c') q (subst (HasTyping g t s) r h))

-- the rules with binders, at a position that is the length of the context
abs_at : (g : Context) (n : ℕ) → length g ≡ n → (takes gives : Shape) (c e : Set) (body : Term) → IsWellFormedType g (capturing takes c)
    → HasTyping (TermEntry takes c ∷ g) (opened_term n body) gives e
    → HasTyping g (FunctionTerm takes c body) (FunctionShape takes c (closed n gives) (closed_set n e)) (captured_variables (FunctionTerm takes c body))
abs_at g n is takes gives c e body formed h =
    subst (λ m. HasTyping g (FunctionTerm takes c body) (FunctionShape takes c (closed m gives) (closed_set m e)) (captured_variables (FunctionTerm takes c body))) is
    (t-abs formed (subst (λ m. HasTyping (TermEntry takes c ∷ g) (opened_term m body) gives e) (sym is) h))

tabs_at : (g : Context) (n : ℕ) → length g ≡ n → (bound gives : Shape) (e : Set) (body : Term) → IsWellFormedShape g bound
    → HasTyping (TypeEntry bound ∷ g) (opened_term n body) gives e
    → HasTyping g (TypeFunctionTerm bound body) (TypeFunctionShape bound (closed n gives) (closed_set n e)) (captured_variables (TypeFunctionTerm bound body))
tabs_at g n is bound gives e body formed h =
    subst (λ m. HasTyping g (TypeFunctionTerm bound body) (TypeFunctionShape bound (closed m gives) (closed_set m e)) (captured_variables (TypeFunctionTerm bound body))) is
    (t-tabs formed (subst (λ m. HasTyping (TypeEntry bound ∷ g) (opened_term m body) gives e) (sym is) h))

module _ (base : Context) (root : ℕ) (within : root ≤ length base) (f : Filling) (over : IsOverGlobals root f)
    (terms : (p : ℕ) → p < root → lookup (kinds_of base) p ≡ Some TermKind) where
  pub fill_empty : filled_set f empty ≡ empty
  fill_empty = flat_image-empty (filled_element f)

  pub fill_variable : (v : Var) → filled_set f (variable_set v) ≡ variable_set v
  fill_variable v = flat_image-of_single (filled_element f) (Variable v)

  pub read_fill : (sort : Sort) (n : ℕ) (x : Syntax sort) → acted sort (reading n) 0 (acted sort (filling_in f) 0 x) ≡ acted sort (filling_in f) 0 (acted sort (reading n) 0 x)
  read_fill sort n x = sym (filled-moved root f over (read_variable n) (reading_leaves root f over n) sort 0 x)

  body_read : (n : ℕ) (t : Term) → opened_term n (act_term (reading n) 1 (act_term (filling_in f) 1 t)) ≡ read_term (suc n) (filled_term f t)
  body_read n t = ap (λ x. opened_term n (act_term (reading n) 1 x)) (shift_term (filling_in f) 0 t) ∙ opened_term-read n (filled_term f t)

  captured_read : (n : ℕ) (t : Term) → captured_variables (read_term n (filled_term f t)) ≡ filled_set f (read_set n (captured_variables t))
  captured_read n t =
      captured_variables-act (reading n) (PassesBinders-reading n) 0 (filled_term f t)
      ∙ ap (read_set n) (captured_variables-act (filling_in f) (PassesBinders-filling_in f (no_index_filled root f over)) 0 t)
      ∙ read_fill SetSort n (captured_variables t)

  module _ {g : Context} {passed : List Kind} (i : Inside base g passed) (formed : IsKindedContext g) where
    abbrev n : ℕ
    n = length g

    abbrev filled_g : Context
    filled_g = filled_context f g

    more : root ≤ length g
    more = let l = inside_length i in omega arith

    hole_kinded : (h : ℕ) → IsKindedSet (kinds_of g) [] (f h)
    hole_kinded h e m = by_element e (over h e m)
      where
        by_element : (e : Elem) → IsGlobal root e → IsKindedElement (kinds_of g) [] e
        by_element (Variable (Free p)) k = at_base i p TermKind (terms p k)
        by_element (Variable (Bound j)) k = absurd k
        by_element Cap k = tt
        by_element (Hole j) k = tt

    -- what is well formed is so when it is filled
    pub fill_kinded : (sort : Sort) (x : Syntax sort) → HasKinds sort (kinds_of g) [] x → HasKinds sort (kinds_of filled_g) [] (acted sort (filling_in f) 0 x)
    fill_kinded sort x k =
        subst (λ ks. HasKinds sort ks [] (acted sort (filling_in f) 0 x)) (sym (kinds-filled f g))
        (HasKinds-act sort (filling_in f) (kinds_of g) [] (kinds_of g) [] (KeepsKinds-filling_in f (kinds_of g) [] hole_kinded) [] x k)

    pub fill_formed : (t : CapturingType) → IsKindedType (kinds_of g) [] t → IsWellFormedType filled_g (capturing (filled f t.shape) (filled_set f t.set))
    fill_formed t k = let p = fill_kinded TypeSort t k in formed_type_from filled_g (filled f t.shape) (filled_set f t.set) p.0 p.1

    -- a variable, as it is declared and widened
    pub value : {v : Var} {s : Shape} {d : Set} → Has g v s d → HasTyping filled_g (VariableTerm v) (filled f s) (variable_set v)
    value {v} {s} {d} h =
        subst (λ w. HasTyping filled_g (VariableTerm w) (filled f s) (variable_set w)) (sym h.is) (t-var (lookup-filled f g h.position s d h.there))

    wider : {v : Var} {s : Shape} {d : Set} → Has g v s d → (x : Shape) → Subtypes filled_g (filled f s) x → IsKinded (kinds_of filled_g) [] x → HasTyping filled_g (VariableTerm v) x (variable_set v)
    wider {v} {s} {d} h x below k =
        t-sub (value h) (subcaptures_reflexive filled_g (variable_set v)) below
        (formed_type_from filled_g x (variable_set v) k (subst (λ ks. IsKindedSet ks [] (variable_set v)) (sym (kinds-filled f g)) (variable_set_kinded h)))

    pub head : {v : Var} {s : Shape} {d : Set} → Has g v s d → (x : Shape) → exposed g s ≡ x → HasTyping filled_g (VariableTerm v) (filled f x) (variable_set v)
    head {v} {s} {d} h x e =
        wider h (filled f x) (subtypes_filled root f over (subst (Subtypes g s) e (exposed_above g s))) (fill_kinded ShapeSort x (has_exposed formed h e))

    pub of_shape : (v : Var) (x : Shape) (ds : List Demand) → Operand g v x ds → Serves f (below_all ds) → IsKinded (kinds_of g) [] x → HasTyping filled_g (VariableTerm (in_context g v)) (filled f x) (variable_set (in_context g v))
    of_shape v x ds o s k = wider o.has (filled f x) (shapes_below root f over g o.shape x ds o.demands s) (fill_kinded ShapeSort x k)

    given : {v : Var} {s : Shape} {d : Set} → Has g v s d → (t : CapturingType) (ds : List Demand) → TypesHaveDemands g (capturing s (variable_set v)) t ds → Serves f (below_all ds) → IsKindedType (kinds_of g) [] t
        → HasTyping filled_g (VariableTerm v) (filled f t.shape) (filled_set f t.set)
    given {v} {s} {d} h t ds b served k =
        let below = types_below root f over g (capturing s (variable_set v)) t ds b served in
        t-sub (value h) (subst (λ x. SubcapturesSet filled_g x (filled_set f t.set)) (fill_variable v) below.0) below.1 (fill_formed t k)

    -- a term that was compared with a type
    pub compared : (x : Term) (t u : CapturingType) (ds : List Demand) → HasTyping filled_g x (filled f t.shape) (filled_set f t.set) → TypesHaveDemands g t u ds → Serves f (below_all ds) → IsKindedType (kinds_of g) [] u
        → HasTyping filled_g x (filled f u.shape) (filled_set f u.set)
    compared x t u ds h b served k =
        let below = types_below root f over g t u ds b served in t-sub h below.0 below.1 (fill_formed u k)

    pub read_written : (c : Set) → IsKindedSet (kinds_of g) [] c → read_set n (filled_set f (written_in (length base) g c)) ≡ filled_set f c
    read_written c k = read_fill SetSort n (written_in (length base) g c) ∙ ap (filled_set f) (read_set-written (length base) n 0 c (closed_in_set g c k))

    pub noted_typed : {note : Note} {t : CapturingType} {m : Named} {ps : List Asked} → Notes (length base) g note t m ps → IsKindedNote (kinds_of base) passed note → IsKindedType (kinds_of g) [] t → Serves f ps
        → (x : Term) → HasTyping filled_g x (filled f t.shape) (filled_set f t.set)
        → HasTyping filled_g x (filled f m.type.shape) (filled_set f m.type.set) × IsNoteOf (act_note (reading n) 0 (act_note (filling_in f) 0 m.note)) (filled f m.type.shape) (filled_set f m.type.set)
    noted_typed notes-absent k kt s x h = (h, tt)
    noted_typed (notes-written {t = t} {s = w} {c = c} {ds = ds} b) k kt s x h =
        (compared x t (type_in g (capturing w c)) ds h b (serves_parts f (below_all ds) [] s).0 (read_kinded i TypeSort (capturing w c) k), (read_fill ShapeSort n w, read_fill SetSort n c))
    noted_typed (notes-own {t = t} {s = w} {ds = ds} b) k kt s x h = (
      t-sub h (subcaptures_reflexive filled_g (filled_set f t.set)) (shapes_below root f over g t.shape (shape_in g w) ds b (serves_parts f (below_all ds) [] s).0)
          (fill_formed (capturing (shape_in g w) t.set) (read_kinded i ShapeSort w k, kt.1)),
      (read_fill ShapeSort n w, read_written t.set kt.1),
    )

    pub closed-filled : (s : Shape) → closed n (filled f s) ≡ act (filling_in f) 1 (closed n s)
    closed-filled s = sym (filled-moved root f over (closed_variable n) (closing_leaves root f over n more) ShapeSort 0 s) ∙ sym (shift (filling_in f) 0 (closed n s))

    pub closed_set-filled : (c : Set) → closed_set n (filled_set f c) ≡ act_set (filling_in f) 1 (closed_set n c)
    closed_set-filled c = sym (filled-moved root f over (closed_variable n) (closing_leaves root f over n more) SetSort 0 c)

    pub put-filled : (v : Var) (s : Shape) → act (putting v) 0 (act (filling_in f) 1 s) ≡ filled f (act (putting v) 0 s)
    put-filled v s = ap (act (putting v) 0) (shift (filling_in f) 0 s) ∙ sym (filled-moved root f over (put_variable v) (opening_leaves root f over v) ShapeSort 0 s)

    pub put_set-filled : (v : Var) (c : Set) → act_set (putting v) 0 (act_set (filling_in f) 1 c) ≡ filled_set f (act_set (putting v) 0 c)
    put_set-filled v c = sym (filled-moved root f over (put_variable v) (opening_leaves root f over v) SetSort 0 c)

    pub row_function : (takes : Shape) (c : Set) (r : Result) → IsKindedType (kinds_of g) [] (type_in g (capturing takes c))
        → HasTyping (filled_context f (entry_of (type_in g (capturing takes c)) ∷ g)) (read_term (suc n) (filled_term f r.completed)) (filled f r.type.shape) (filled_set f r.type.set)
        → HasTyping filled_g (read_term n (filled_term f (FunctionTerm takes c r.completed))) (filled f (function_found g takes c r).type.shape) (filled_set f (function_found g takes c r).type.set)
    row_function takes c r k h =
        typing_as
        (ap (λ x. FunctionTerm x (filled_set f (set_in g c)) (act_term (reading n) 1 (act_term (filling_in f) 1 r.completed))) (sym (read_fill ShapeSort n takes))
        ∙ ap (λ x. FunctionTerm (act (reading n) 0 (filled f takes)) x (act_term (reading n) 1 (act_term (filling_in f) 1 r.completed))) (sym (read_fill SetSort n c)))
        (ap (λ x. FunctionShape (filled f (shape_in g takes)) (filled_set f (set_in g c)) x (closed_set n (filled_set f r.type.set))) (closed-filled r.type.shape)
        ∙ ap (λ x. FunctionShape (filled f (shape_in g takes)) (filled_set f (set_in g c)) (act (filling_in f) 1 (closed n r.type.shape)) x) (closed_set-filled r.type.set))
        (captured_read n (FunctionTerm takes c r.completed))
        (abs_at filled_g n (length-filled f g) (filled f (shape_in g takes)) (filled f r.type.shape) (filled_set f (set_in g c)) (filled_set f r.type.set)
        (act_term (reading n) 1 (act_term (filling_in f) 1 r.completed))
        (fill_formed (type_in g (capturing takes c)) k)
        (subst (λ x. HasTyping (filled_context f (entry_of (type_in g (capturing takes c)) ∷ g)) x (filled f r.type.shape) (filled_set f r.type.set)) (sym (body_read n r.completed)) h))

    pub row_type_function : (bound : Shape) (r : Result) → IsKinded (kinds_of g) [] (shape_in g bound)
        → HasTyping (filled_context f (TypeEntry (shape_in g bound) ∷ g)) (read_term (suc n) (filled_term f r.completed)) (filled f r.type.shape) (filled_set f r.type.set)
        → HasTyping filled_g (read_term n (filled_term f (TypeFunctionTerm bound r.completed))) (filled f (type_function_found g bound r).type.shape) (filled_set f (type_function_found g bound r).type.set)
    row_type_function bound r k h =
        typing_as
        (ap (λ x. TypeFunctionTerm x (act_term (reading n) 1 (act_term (filling_in f) 1 r.completed))) (sym (read_fill ShapeSort n bound)))
        (ap (λ x. TypeFunctionShape (filled f (shape_in g bound)) x (closed_set n (filled_set f r.type.set))) (closed-filled r.type.shape)
        ∙ ap (λ x. TypeFunctionShape (filled f (shape_in g bound)) (act (filling_in f) 1 (closed n r.type.shape)) x) (closed_set-filled r.type.set))
        (captured_read n (TypeFunctionTerm bound r.completed))
        (tabs_at filled_g n (length-filled f g) (filled f (shape_in g bound)) (filled f r.type.shape) (filled_set f r.type.set)
        (act_term (reading n) 1 (act_term (filling_in f) 1 r.completed))
        (IsKinded-test (kinds_of filled_g) [] (filled f (shape_in g bound)) (fill_kinded ShapeSort (shape_in g bound) k))
        (subst (λ x. HasTyping (filled_context f (TypeEntry (shape_in g bound) ∷ g)) x (filled f r.type.shape) (filled_set f r.type.set)) (sym (body_read n r.completed)) h))

    pub row_application : {v w : Var} {s s' : Shape} {d d' : Set} (takes gives : Shape) (c e : Set) (ds : List Demand)
        → Has g v s d → exposed g s ≡ FunctionShape takes c gives e → Has g w s' d'
        → TypesHaveDemands g (capturing s' (variable_set w)) (capturing takes c) ds → Serves f (below_all ds)
        → HasTyping filled_g (Application v w) (filled f (act (putting w) 0 gives)) (filled_set f (act_set (putting w) 0 e))
    row_application {v} {w} takes gives c e ds h x h' b served =
        let k = has_exposed formed h x in
        typing_as refl (put-filled w gives) (put_set-filled w e)
        (t-app (head h (FunctionShape takes c gives e) x) (given h' (capturing takes c) ds b served (k.0, k.1)))

    pub row_type_application : {v : Var} {s : Shape} {d : Set} (y bound gives : Shape) (e : Set) (ds : List Demand)
        → Has g v s d → exposed g s ≡ TypeFunctionShape bound gives e → HasDemands g (shape_in g y) bound ds → Serves f (below_all ds) → IsKinded (kinds_of g) [] (shape_in g y)
        → HasTyping filled_g (TypeApplication v (act (reading n) 0 (filled f y))) (filled f (act (putting_shape (shape_in g y)) 0 gives)) (filled_set f (act_set (putting_shape (shape_in g y)) 0 e))
    row_type_application {v} y bound gives e ds h x b served k =
        typing_as (ap (TypeApplication v) (sym (read_fill ShapeSort n y)))
        (ap (act (putting_shape (filled f (shape_in g y))) 0) (shift (filling_in f) 0 gives) ∙ sym (filled-put_shape root f over (shape_in g y) ShapeSort 0 gives))
        (sym (filled-put_shape root f over (shape_in g y) SetSort 0 e))
        (t-tapp (head h (TypeFunctionShape bound gives e) x) (shapes_below root f over g (shape_in g y) bound ds b served)
        (IsKinded-test (kinds_of filled_g) [] (filled f (shape_in g y)) (fill_kinded ShapeSort (shape_in g y) k)))

    pub row_box : {v : Var} {s : Shape} {d : Set} → Has g v s d → HasTyping filled_g (BoxTerm v) (filled f (BoxShape s (variable_set v))) (filled_set f empty)
    row_box {v} {s} h =
        typing_as refl (ap (BoxShape (filled f s)) (sym (fill_variable v))) (sym fill_empty)
        (t-box (value h) (λ m. let clash = Member-single Cap (Variable v) m in cc))

    pub row_unboxing : {v : Var} {s : Shape} {d : Set} (content : Shape) (c set : Set) (written : Set) → Has g v s d → exposed g s ≡ BoxShape content c
        → SubcapturesSet filled_g (filled_set f c) (filled_set f set) → HasNoCap (filled_set f set) → IsKindedSet (kinds_of g) [] set → written ≡ filled_set f set
        → HasTyping filled_g (Unboxing (Some written) v) (filled f content) (filled_set f set)
    row_unboxing {v} {s} content c set written h x below none k is =
        let kb = has_exposed formed h x in
        let kc = fill_kinded TypeSort (capturing content set) (kb.0, k) in
        typing_as (ap (λ y. Unboxing (Some y) v) (sym is)) refl refl
        (t-unbox
        (wider h (BoxShape (filled f content) (filled_set f set))
        (transitive (subtypes_filled root f over (subst (Subtypes g s) x (exposed_above g s))) (box below reflexive)) (kc.0, kc.1))
        (IsKindedSet-test (kinds_of filled_g) [] (filled_set f set) kc.1) none)

    pub row_let : (note : Note) (x body : Term) (t u v : CapturingType) → IsKindedType (kinds_of g) [] t → IsKindedType (kinds_of (entry_of t ∷ g)) [] u → avoided_type Positive n t.set u ≡ Some v
        → HasTyping filled_g x (filled f t.shape) (filled_set f t.set) → IsNoteOf note (filled f t.shape) (filled_set f t.set)
        → IsWellFormedType (filled_context f (entry_of t ∷ g)) (capturing (filled f v.shape) (filled_set f v.set))
        → HasTyping (filled_context f (entry_of t ∷ g)) (read_term (suc n) (filled_term f body)) (filled f u.shape) (filled_set f u.set)
        → HasTyping filled_g (Let note x (act_term (reading n) 1 (act_term (filling_in f) 1 body))) (filled f v.shape) (filled_set f v.set)
    row_let note x body t u v kt ku e h is wf b =
        let above = positive_above (entry_of t ∷ g) n t.shape t.set u v (lookup-newest (entry_of t) g) (closed_in_set g t.set kt.1) e in
        let kv = fill_kinded TypeSort v (left_kinded g t u v kt.1 ku e) in
        let wide = t-sub b (subcaptures_set_filled root f over (entry_of t ∷ g) u.set v.set above.0) (subtypes_filled root f over above.1) wf in
        t-let h is
        (subst (λ y. HasTyping (filled_context f (entry_of t ∷ g)) y (filled f v.shape) (filled_set f v.set))
        (sym (ap (λ k. opened_term k (act_term (reading n) 1 (act_term (filling_in f) 1 body))) (length-filled f g) ∙ body_read n body)) wide)
        (fresh_in filled_g [] (filled f v.shape) kv.0) (fresh_in_set filled_g [] (filled_set f v.set) kv.1)

    pub row_choice : (v : Var) (x : Shape) (c : Set) (t u : Term) (type : CapturingType) (ds : List Demand) → Operand g v (BaseShape bases.Bool) ds → Serves f (below_all ds)
        → x ≡ filled f type.shape → c ≡ filled_set f type.set
        → HasTyping filled_g t (filled f type.shape) (filled_set f type.set) → HasTyping filled_g u (filled f type.shape) (filled_set f type.set)
        → HasTyping filled_g (Conditional (Written x c) (in_context g v) t u) (filled f type.shape) (filled_set f type.set)
    row_choice v x c t u type ds o s p q a b =
        typing_as (ap (λ y. Conditional (Written y (filled_set f type.set)) (in_context g v) t u) (sym p) ∙ ap (λ y. Conditional (Written x y) (in_context g v) t u) (sym q)) refl refl
        (t-if (of_shape v (BaseShape bases.Bool) ds o s tt) a b)

    pub row_boundary : (x : Shape) (r : Result) (ds : List Demand) → IsKinded (kinds_of g) [] (shape_in g x)
        → IsWellFormedType (filled_context f (exit_entry (shape_in g x) ∷ g)) (capturing (filled f (shape_in g x)) (filled_set f empty))
        → HasTyping (filled_context f (exit_entry (shape_in g x) ∷ g)) (read_term (suc n) (filled_term f r.completed)) (filled f r.type.shape) (filled_set f r.type.set)
        → TypesHaveDemands (exit_entry (shape_in g x) ∷ g) r.type (capturing (shape_in g x) empty) ds → Serves f (below_all ds)
        → HasTyping filled_g (Boundary (act (reading n) 0 (filled f x)) (act_term (reading n) 1 (act_term (filling_in f) 1 r.completed))) (filled f (shape_in g x)) (filled_set f empty)
    row_boundary x r ds k wf h b served =
        let below = types_below root f over (exit_entry (shape_in g x) ∷ g) r.type (capturing (shape_in g x) empty) ds b served in
        let wide = t-sub h below.0 below.1 wf in
        let wide' : HasTyping (TermEntry (ExitShape (filled f (shape_in g x))) (single Cap) ∷ filled_g) (read_term (suc n) (filled_term f r.completed)) (filled f (shape_in g x)) empty =
        subst (λ c. HasTyping (TermEntry (ExitShape (filled f (shape_in g x))) c ∷ filled_g) (read_term (suc n) (filled_term f r.completed)) (filled f (shape_in g x)) empty)
        (flat_image-of_single (filled_element f) Cap) (typing_as refl refl fill_empty wide) in
        typing_as (ap (λ y. Boundary y (act_term (reading n) 1 (act_term (filling_in f) 1 r.completed))) (sym (read_fill ShapeSort n x))) refl (sym fill_empty)
        (t-boundary (IsKinded-test (kinds_of filled_g) [] (filled f (shape_in g x)) (fill_kinded ShapeSort (shape_in g x) k))
        (subst (λ y. HasTyping (TermEntry (ExitShape (filled f (shape_in g x))) (single Cap) ∷ filled_g) y (filled f (shape_in g x)) empty)
        (sym (ap (λ m. opened_term m (act_term (reading n) 1 (act_term (filling_in f) 1 r.completed))) (length-filled f g) ∙ body_read n r.completed)) wide'))

    pub row_exit : {v w : Var} {s s' : Shape} {d d' : Set} (x takes : Shape) (c : Set) (ds : List Demand)
        → Has g v s d → exposed g s ≡ ExitShape takes → Has g w s' d' → TypesHaveDemands g (capturing s' (variable_set w)) (capturing takes empty) ds → Serves f (below_all ds)
        → IsKindedType (kinds_of g) [] (type_in g (capturing x c))
        → HasTyping filled_g (Leave (act (reading n) 0 (filled f x)) (act_set (reading n) 0 (filled_set f c)) v w) (filled f (shape_in g x)) (filled_set f (set_in g c))
    row_exit {v} {w} x takes c ds h e h' b served k =
        typing_as (ap (λ y. Leave y (filled_set f (set_in g c)) v w) (sym (read_fill ShapeSort n x)) ∙ ap (λ y. Leave (act (reading n) 0 (filled f x)) y v w) (sym (read_fill SetSort n c))) refl refl
        (t-exit (head h (ExitShape takes) e)
        (typing_as refl refl fill_empty (given h' (capturing takes empty) ds b served (has_exposed formed h e, empty_kinded (kinds_of g) [])))
        (fill_formed (type_in g (capturing x c)) k))
