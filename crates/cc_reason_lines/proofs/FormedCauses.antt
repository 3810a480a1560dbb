-- What is compared in the cause of a refusal is well formed.
use Rattle.std.proofs.Common.{◌≡◌, ℕ, Bool, true, false, cond, List, [], ◌∷◌, length, Option, Some, None, refl, sym, ap, ◌∙◌, subst}
use Rattle.cc_base.specs.declared.code.Code.TheVariants.{E17}
use Rattle.cc_base.specs.declared.literal.Base.{Base}
use Rattle.cc_base.specs.declared.literal.Base.TheVariants as bases
use Rattle.cc_base.specs.declared.place.Place.{Place}
use Rattle.cc_capture.specs.declared.var.Var.{Var}
use Rattle.cc_capture.specs.declared.var.Elem.TheVariants.{Cap}
use Rattle.cc_capture.specs.Sets.{empty}
use Rattle.cc_core.specs.Shapes.{Shape, BaseShape, FunctionShape, TypeFunctionShape, ExitShape, CapturingType, capturing}
use Rattle.cc_core.specs.Terms.{Note, Absent, Written, Own, Term, VariableTerm, LiteralTerm, FunctionTerm, TypeFunctionTerm, BoxTerm, Application, TypeApplication, Unboxing, Let, Primitive, Conditional, Repetition, Operation, Boundary, Leave}
use Rattle.cc_core.specs.Contexts.{TypeEntry, Context, entry_of}
use Rattle.cc_core.specs.Places.{Places, first_part, second_part, spots}
use Rattle.cc_core.specs.WellFormed.{Kind, TermKind, kinds_of, is_well_formed_term}
use Rattle.cc_core.proofs.CapturedKinds.{empty_kinded}
use Rattle.cc_core.proofs.KindFacts.{IsKinded, IsKindedType, IsKindedNote, IsKindedTerm, IsKindedNote-from, IsKindedTerm-from, IsKindedType-test}
use Rattle.cc_core.proofs.KindRespecting.{single_kinded}
use Rattle.cc_core.proofs.Sorts.{ShapeSort, TypeSort}
use Rattle.cc_core.proofs.SubcapturingContexts.{IsKindedContext, IsKindedContext-from, IsKinded-added}
use Rattle.cc_checking.specs.Avoidance.{Positive, avoided_type}
use Rattle.cc_checking.specs.Exposing.{exposed}
use Rattle.cc_checking.specs.Inference.{Result, in_context, shape_in, type_in, variable_type, Function, TypeFunction, function_head, type_function_head, exit_head, exit_entry, capless, limited, inferred}
use Rattle.cc_checking.specs.Outcomes as plain
use Rattle.cc_checking.specs.Outcomes.{Asked, Outcome, found_or}
use Rattle.cc_checking.specs.Verdicts.{Definition, declared_set, signature_of}
use Rattle.cc_checking_laws.specs.CheckingLaws.{Fits, visible_kinds}
use Rattle.cc_checking_laws.proofs.FoundFindings.{asked_of, Came, function_head_came, type_function_head_came, exit_head_came, noted_came, avoided_came, found_finds}
use Rattle.cc_checking_laws.proofs.FoundTypes.{exposed_kinded, notes_kinded, regular}
use Rattle.cc_checking_laws.proofs.ReadingKinds.{Inside, outermost as at_base, deeper, read_kinded}
use Rattle.cc_checking_laws.proofs.SettledSteps.{found_shape}
use Rattle.cc_checking_laws.proofs.Signatures.{signed}
use Rattle.cc_reasons.specs.Causes.{Local, Scene, Cause, WrongHead, WrongType, WrongShape, NothingThere, Unavoidable, TooLarge, Located, Explained, NoAnswer, Refused, Found, outcome_of, asked_before, ◌>>=◌, because}
use Rattle.cc_reasons.specs.DefinitionReasons.{outermost, placed_of, none_or, unsigned_among, unsigned_cause, explained_plain, explained_recursion, explained_recursive, explained_definition}
use Rattle.cc_reasons.specs.ExplainedInference.{BinderNames, explained, explained_below, explained_against, explained_operand, explained_argument, explained_note, explained_part_below, explained_part_against, explained_size, typed, first_names, second_names}
use Rattle.cc_reasons.proofs.ExplainedOutcomes.{explained_is_inference, note_is}

-- two shapes of a context that are well formed
abbrev pub AreFormed : Context → Shape → Shape → Type 0
AreFormed g found wanted = IsKindedContext g × IsKinded (kinds_of g) [] found × IsKinded (kinds_of g) [] wanted

-- what is compared in the cause is well formed
abbrev pub IsFormed : Cause → Type 0
IsFormed (WrongHead scene found wanted) = Unit {0}
IsFormed (WrongType scene found wanted) = AreFormed scene.context found.shape wanted.shape
IsFormed (WrongShape scene found wanted) = AreFormed scene.context found wanted
IsFormed NothingThere = Unit {0}
IsFormed (Unavoidable scene position type) = Unit {0}
IsFormed (TooLarge scene type) = Unit {0}

-- where the steps are refused, that is so of the cause
abbrev pub Forms : {A : Type 0} → Explained A → Type 0
Forms NoAnswer = Unit {0}
Forms (Refused cause at) = IsFormed cause
Forms (Found value asked) = Unit {0}

forms_asked : {A : Type 0} (asked : List Located) (o : Explained A) → Forms o → Forms (asked_before asked o)
forms_asked asked NoAnswer f = tt
forms_asked asked (Refused cause at) f = f
forms_asked asked (Found value more) f = tt

forms_then : {A B : Type 0} (o : Explained A) (next : A → Explained B) → Forms o
    → ((a : A) (asked : List Located) → o ≡ Found a asked → Forms (next a)) → Forms (◌>>=◌ o next)
unfolding ◌>>=◌
forms_then NoAnswer next f k = tt
forms_then (Refused cause at) next f k = f
forms_then (Found a asked) next f k = forms_asked asked (next a) (k a asked refl)

forms_because : {A : Type 0} (cause : Cause) (locals : List Local) (o : Outcome A) → IsFormed cause → Forms (because cause locals o)
forms_because cause locals plain.NoAnswer f = tt
forms_because cause locals (plain.Refused code at) f = f
forms_because cause locals (plain.Found value asked) f = tt

-- a step that is refused for one cause alone comes to what its outcome comes to
because_came : {A : Type 0} (cause : Cause) (locals : List Local) (o : Outcome A) (a : A) (asked : List Located) → because cause locals o ≡ Found a asked
    → (qs : List Asked) × Came o a qs
because_came cause locals plain.NoAnswer a asked e = cc
because_came cause locals (plain.Refused code at) a asked e = cc
because_came cause locals (plain.Found b list) a asked e =
    let same : b ≡ a = cc in
    (asked_of list, (list, ap (λ x. plain.Found x list) same, refl))

then_because : {A B : Type 0} (cause : Cause) (locals : List Local) (o : Outcome A) (next : A → Explained B) → IsFormed cause
    → ((a : A) (qs : List Asked) → Came o a qs → Forms (next a)) → Forms (◌>>=◌ (because cause locals o) next)
then_because cause locals o next f k =
    forms_then (because cause locals o) next (forms_because cause locals o f)
    (λ a asked e. let came = because_came cause locals o a asked e in k a came.0 came.1)

-- and so does any other, with its outcome
then_outcome : {A B : Type 0} (o : Explained A) (p : Outcome A) (next : A → Explained B) → outcome_of o ≡ p → Forms o
    → ((a : A) (qs : List Asked) → Came p a qs → Forms (next a)) → Forms (◌>>=◌ o next)
then_outcome o p next is f k =
    forms_then o next f
    (λ a asked e. k a (asked_of (placed_of asked)) (placed_of asked, sym is ∙ ap outcome_of e, refl))

-- what a head takes that is found is well formed
head_takes : (g : Context) (at : Place) (s : Shape) (h : Function) (qs : List Asked) → IsKinded (kinds_of g) [] s
    → Came (function_head at s) h qs → IsKinded (kinds_of g) [] h.takes.shape
head_takes g at s h qs k c =
    let p = function_head_came at s c in
    let whole : IsKinded (kinds_of g) [] (FunctionShape p.0 p.1 p.2 p.3) = subst (IsKinded (kinds_of g) []) p.4 k in
    subst (λ (x : Function). IsKinded (kinds_of g) [] x.takes.shape) (sym p.5) whole.0

head_bound : (g : Context) (at : Place) (s : Shape) (h : TypeFunction) (qs : List Asked) → IsKinded (kinds_of g) [] s
    → Came (type_function_head at s) h qs → IsKinded (kinds_of g) [] h.bound
head_bound g at s h qs k c =
    let p = type_function_head_came at s c in
    let whole : IsKinded (kinds_of g) [] (TypeFunctionShape p.0 p.1 p.2) = subst (IsKinded (kinds_of g) []) p.3 k in
    subst (λ (x : TypeFunction). IsKinded (kinds_of g) [] x.bound) (sym p.4) whole.0

head_exit : (g : Context) (at : Place) (s : Shape) (h : Shape) (qs : List Asked) → IsKinded (kinds_of g) [] s
    → Came (exit_head at s) h qs → IsKinded (kinds_of g) [] h
head_exit g at s h qs k c =
    let p = exit_head_came at s c in
    let whole : IsKinded (kinds_of g) [] (ExitShape p.0) = subst (IsKinded (kinds_of g) []) p.1 k in
    subst (IsKinded (kinds_of g) []) (sym p.2) whole

module _ (n : ℕ) where
  forms_below : (at : Place) (scene : Scene) (left right : CapturingType) → IsKindedContext scene.context
      → IsKinded (kinds_of scene.context) [] left.shape → IsKinded (kinds_of scene.context) [] right.shape
      → Forms (explained_below (limited n) at scene left right)
  forms_below at scene left right f l r = forms_because (WrongType scene left right) scene.locals _ (f, l, r)

  forms_against : (at : Place) (scene : Scene) (left right : Shape) → IsKindedContext scene.context
      → IsKinded (kinds_of scene.context) [] left → IsKinded (kinds_of scene.context) [] right
      → Forms (explained_against (limited n) at scene left right)
  forms_against at scene left right f l r = forms_because (WrongShape scene left right) scene.locals _ (f, l, r)

  forms_typed : (scene : Scene) (v : Var) → Forms (typed scene v)
  forms_typed scene v = forms_because NothingThere scene.locals _ tt

  then_typed : {B : Type 0} (scene : Scene) (v : Var) (next : CapturingType → Explained B)
      → ((t : CapturingType) (qs : List Asked) → Came (variable_type scene.context (in_context scene.context v)) t qs → Forms (next t))
      → Forms (◌>>=◌ (typed scene v) next)
  then_typed scene v next k = then_because NothingThere scene.locals (variable_type scene.context (in_context scene.context v)) next tt k

  forms_size : (places : Places) (scene : Scene) (o : Explained Result) → Forms o → Forms (explained_size (limited n) places scene o)
  forms_size places scene o f = forms_then o _ f (λ r asked e. forms_because (TooLarge scene r.type) scene.locals _ tt)

  module _ (base : Context) (scene : Scene) (formed : IsKindedContext scene.context) where
    forms_operand : (at : Place) (v : Var) (s : Shape) → IsKinded (kinds_of scene.context) [] s → Forms (explained_operand (limited n) at scene v s)
    forms_operand at v s k =
        then_typed scene v _ (λ t qs c. forms_against at scene t.shape s formed (found_shape scene.context (in_context scene.context v) formed n c) k)

    forms_argument : (at : Place) (taken : Option Base) (v : Option Var) → Forms (explained_argument (limited n) at scene taken v)
    forms_argument at (Some taken) (Some v) = forms_operand at v (BaseShape taken) tt
    forms_argument at (Some taken) None = tt
    forms_argument at None (Some v) = tt
    forms_argument at None None = tt

    forms_note : {passed : List Kind} (i : Inside base scene.context passed) (root : ℕ) (at : Place) (note : Note) (t : CapturingType)
        → IsKindedNote (kinds_of base) passed note → IsKindedType (kinds_of scene.context) [] t
        → Forms (explained_note (limited n) root at scene note t)
    forms_note i root at Absent t k kt = tt
    forms_note i root at (Written s c) t k kt =
        forms_then _ _ (forms_below at scene t (type_in scene.context (capturing s c)) formed kt.0 (read_kinded i TypeSort (capturing s c) k).0) (λ u asked e. tt)
    forms_note i root at (Own s) t k kt =
        forms_then _ _ (forms_against at scene t.shape (shape_in scene.context s) formed kt.0 (read_kinded i ShapeSort s k)) (λ u asked e. tt)

    -- the exposed shape of a variable that is found is well formed
    exposed_there : (v : Var) (t : CapturingType) (qs : List Asked) → Came (variable_type scene.context (in_context scene.context v)) t qs
        → IsKinded (kinds_of scene.context) [] (exposed scene.context t.shape)
    exposed_there v t qs c = exposed_kinded scene.context t.shape formed (found_shape scene.context (in_context scene.context v) formed n c)

  module _ (base : Context) where
    part_kinded : (t : Term) (scene : Scene) {passed : List Kind} (i : Inside base scene.context passed) → IsKindedContext scene.context
        → IsKindedTerm (kinds_of base) passed t → (places : Places) (r : Result) (qs : List Asked)
        → Came (inferred (limited n) (length base) scene.context t places) r qs → IsKindedType (kinds_of scene.context) [] r.type
    part_kinded t scene i formed k places r qs c =
        (regular base (found_finds n (length base) (limited n).passes t scene.context places c) i formed k).0

    -- a part, and what follows for what is found for it
    then_part : {B : Type 0} (t : Term) (scene : Scene) {passed : List Kind} (i : Inside base scene.context passed) → IsKindedContext scene.context
        → IsKindedTerm (kinds_of base) passed t → (places : Places) (names : BinderNames) (next : Result → Explained B)
        → Forms (explained (limited n) (length base) scene t places names)
        → ((r : Result) → IsKindedType (kinds_of scene.context) [] r.type → Forms (next r))
        → Forms (◌>>=◌ (explained (limited n) (length base) scene t places names) next)
    then_part t scene i formed k places names next f rest =
        then_outcome _ _ next (explained_is_inference (limited n) (length base) scene t places names) f
        (λ r qs c. rest r (part_kinded t scene i formed k places r qs c))

    forms_part_below : (t : Term) (scene : Scene) {passed : List Kind} (i : Inside base scene.context passed) → IsKindedContext scene.context
        → IsKindedTerm (kinds_of base) passed t → (places : Places) (names : BinderNames) (at : Place) (type : CapturingType)
        → IsKinded (kinds_of scene.context) [] type.shape
        → Forms (explained (limited n) (length base) scene t places names)
        → Forms (explained_part_below (limited n) at scene type (explained (limited n) (length base) scene t places names))
    forms_part_below t scene i formed k places names at type kt f =
        then_part t scene i formed k places names _ f
        (λ r kr. forms_then _ _ (forms_below at scene r.type type formed kr.0 kt) (λ u asked e. tt))

    forms_part_against : (t : Term) (scene : Scene) {passed : List Kind} (i : Inside base scene.context passed) → IsKindedContext scene.context
        → IsKindedTerm (kinds_of base) passed t → (places : Places) (names : BinderNames) (at : Place) (x : Shape)
        → IsKinded (kinds_of scene.context) [] x
        → Forms (explained (limited n) (length base) scene t places names)
        → Forms (explained_part_against (limited n) at scene x (explained (limited n) (length base) scene t places names))
    forms_part_against t scene i formed k places names at x kx f =
        then_part t scene i formed k places names _ f
        (λ r kr. forms_then _ _ (forms_against at scene r.type.shape x formed kr.0 kx) (λ u asked e. tt))

    forms_term : (t : Term) (scene : Scene) {passed : List Kind} (i : Inside base scene.context passed) → IsKindedContext scene.context
        → IsKindedTerm (kinds_of base) passed t → (places : Places) (names : BinderNames)
        → Forms (explained (limited n) (length base) scene t places names)
    forms_term (VariableTerm v) scene i f k places names = forms_size places scene _ (then_typed scene v _ (λ t qs c. tt))
    forms_term (LiteralTerm l) scene i f k places names = forms_size places scene _ tt
    forms_term (FunctionTerm takes c body) scene i f k places names =
        let entry = entry_of (type_in scene.context (capturing takes c)) in
        let p = read_kinded i TypeSort (capturing takes c) (k.0, k.1) in
        forms_size places scene _
        (forms_then _ _ (forms_term body _ (deeper entry i) (p, f) k.2 (first_part places) (first_names names)) (λ r asked e. tt))
    forms_term (TypeFunctionTerm bound body) scene i f k places names =
        let entry = TypeEntry (shape_in scene.context bound) in
        let p = read_kinded i ShapeSort bound k.0 in
        forms_size places scene _
        (forms_then _ _ (forms_term body _ (deeper entry i) (p, f) k.1 (first_part places) (first_names names)) (λ r asked e. tt))
    forms_term (BoxTerm v) scene i f k places names = forms_size places scene _ (then_typed scene v _ (λ t qs c. tt))
    forms_term (Application v w) scene i f k places names =
        forms_size places scene _
        (then_typed scene v _
        (λ t qs c. then_because _ scene.locals (function_head (spots places).first (exposed scene.context t.shape)) _ tt
        (λ h qs' c'. then_typed scene w _
        (λ a qs'' c''. forms_then _ _
        (forms_below (spots places).second scene a h.takes f (found_shape scene.context (in_context scene.context w) f n c'')
        (head_takes scene.context (spots places).first (exposed scene.context t.shape) h qs' (exposed_there base scene f v t qs c) c'))
        (λ u asked e. tt)))))
    forms_term (TypeApplication v s) scene i f k places names =
        forms_size places scene _
        (then_typed scene v _
        (λ t qs c. then_because _ scene.locals (type_function_head (spots places).first (exposed scene.context t.shape)) _ tt
        (λ h qs' c'. forms_then _ _
        (forms_against (spots places).second scene (shape_in scene.context s) h.bound f (read_kinded i ShapeSort s k.1)
        (head_bound scene.context (spots places).first (exposed scene.context t.shape) h qs' (exposed_there base scene f v t qs c) c'))
        (λ u asked e. tt))))
    forms_term (Unboxing set v) scene i f k places names =
        forms_size places scene _
        (then_typed scene v _
        (λ t qs c. then_because _ scene.locals _ _ tt
        (λ h qs' c'. then_because NothingThere scene.locals _ _ tt
        (λ a qs'' c''. forms_then _ _ (forms_because {A = Unit {0}} NothingThere scene.locals (capless (spots places).second a) tt) (λ u asked e. tt)))))
    forms_term (Let note s t) scene i f k places names =
        forms_size places scene _
        (then_part s scene i f k.1 (first_part places) (first_names names) _ (forms_term s scene i f k.1 (first_part places) (first_names names))
        (λ r kr. then_outcome _ _ _ (note_is (limited n) (length base) (spots (first_part places)).at scene note r.type)
        (forms_note base scene f i (length base) (spots (first_part places)).at note r.type k.0 kr)
        (λ named qs c.
        let kn = (notes_kinded base (noted_came n (length base) (spots (first_part places)).at scene.context note r.type c) i k.0 kr).0 in
        forms_then _ _ (forms_term t _ (deeper (entry_of named.type) i) (kn, f) k.2 (second_part places) (second_names names))
        (λ r' asked' e'. forms_then _ _ (forms_because (Unavoidable _ _ _) scene.locals _ tt) (λ type asked'' e''. tt)))))
    forms_term (Primitive o v w) scene i f k places names =
        forms_size places scene _
        (forms_then _ _ (forms_operand base scene f (spots places).first v (BaseShape bases.Int) tt)
        (λ u asked e. forms_then _ _ (forms_operand base scene f (spots places).second w (BaseShape bases.Int) tt) (λ u' asked' e'. tt)))
    forms_term (Conditional Absent v s t) scene i f k places names = tt
    forms_term (Conditional (Written x c) v s t) scene i f k places names =
        let kx = read_kinded i TypeSort (capturing x c) k.0 in
        forms_size places scene _
        (forms_then _ _ (forms_operand base scene f (spots places).first v (BaseShape bases.Bool) tt)
        (λ u asked e. forms_then _ _
        (forms_part_below s scene i f k.2 (first_part places) (first_names names) (spots (first_part places)).at (type_in scene.context (capturing x c)) kx.0
        (forms_term s scene i f k.2 (first_part places) (first_names names)))
        (λ r asked' e'. forms_then _ _
        (forms_part_below t scene i f k.3 (second_part places) (second_names names) (spots (second_part places)).at (type_in scene.context (capturing x c)) kx.0
        (forms_term t scene i f k.3 (second_part places) (second_names names)))
        (λ r' asked'' e''. tt))))
    forms_term (Conditional (Own x) v s t) scene i f k places names =
        let kx = read_kinded i ShapeSort x k.0 in
        forms_size places scene _
        (forms_then _ _ (forms_operand base scene f (spots places).first v (BaseShape bases.Bool) tt)
        (λ u asked e. forms_then _ _
        (forms_part_against s scene i f k.2 (first_part places) (first_names names) (spots (first_part places)).at (shape_in scene.context x) kx
        (forms_term s scene i f k.2 (first_part places) (first_names names)))
        (λ r asked' e'. forms_then _ _
        (forms_part_against t scene i f k.3 (second_part places) (second_names names) (spots (second_part places)).at (shape_in scene.context x) kx
        (forms_term t scene i f k.3 (second_part places) (second_names names)))
        (λ r' asked'' e''. tt))))
    forms_term (Repetition v w) scene i f k places names =
        let each : Shape = FunctionShape (BaseShape bases.Int) empty (BaseShape bases.Unit) empty in
        forms_size places scene _
        (forms_then _ _ (forms_operand base scene f (spots places).first v (BaseShape bases.Int) tt)
        (λ u asked e. forms_then _ _
        (forms_operand base scene f (spots places).second w each (tt, empty_kinded (kinds_of scene.context) [], tt, empty_kinded (kinds_of scene.context) (TermKind ∷ [])))
        (λ u' asked' e'. tt)))
    forms_term (Operation o v w) scene i f k places names =
        forms_size places scene _
        (then_typed scene v _
        (λ t qs c. then_because _ scene.locals _ _ tt
        (λ u qs' c'. forms_then _ _ (forms_argument base scene f (spots places).second _ w) (λ u' asked e. tt))))
    forms_term (Boundary x t) scene i f k places names =
        let kx = read_kinded i ShapeSort x k.0 in
        let entry = exit_entry (shape_in scene.context x) in
        let f' : IsKindedContext (entry ∷ scene.context) = ((kx, single_kinded (kinds_of scene.context) [] Cap tt), f) in
        forms_size places scene _
        (forms_then _ _
        (forms_part_below t _ (deeper entry i) f' k.1 (first_part places) (first_names names) (spots (first_part places)).at (capturing (shape_in scene.context x) empty)
        (IsKinded-added TermKind (kinds_of scene.context) [] (shape_in scene.context x) kx)
        (forms_term t _ (deeper entry i) f' k.1 (first_part places) (first_names names)))
        (λ r asked e. tt))
    forms_term (Leave x c v w) scene i f k places names =
        forms_size places scene _
        (then_typed scene v _
        (λ t qs c. then_because _ scene.locals (exit_head (spots places).first (exposed scene.context t.shape)) _ tt
        (λ takes qs' c'. then_typed scene w _
        (λ a qs'' c''. forms_then _ _
        (forms_below (spots places).second scene a (capturing takes empty) f (found_shape scene.context (in_context scene.context w) f n c'')
        (head_exit scene.context (spots places).first (exposed scene.context t.shape) takes qs' (exposed_there base scene f v t qs c) c'))
        (λ u asked e. tt)))))

-- why a type has no signature compares nothing
unsigned_among_formed : (globals these : Context) (type : CapturingType) → IsFormed (unsigned_among globals these type)
unsigned_among_formed globals [] type = tt
unsigned_among_formed globals (newest ∷ older) type =
    by (avoided_type Positive (length older) (declared_set newest) type) (λ rest. unsigned_among_formed globals older rest)
  where
    by : (o : Option CapturingType) → ((rest : CapturingType) → IsFormed (unsigned_among globals older rest))
        → IsFormed (none_or o (Unavoidable (outermost globals) (length older) type) (λ rest. unsigned_among globals older rest))
    by (Some rest) later = later rest
    by None later = tt

pub unsigned_formed : (globals : Context) (type : CapturingType) → IsFormed (unsigned_cause globals type)
unsigned_formed globals type = unsigned_among_formed globals globals type

-- definitions
module _ (n devices : ℕ) (globals : Context) (definition : Definition) (names : BinderNames) (fits : Fits globals definition) where
  formed : IsKindedContext globals
  formed = IsKindedContext-from globals fits.formed

  forms_plain : IsKindedTerm (kinds_of globals) [] definition.right → Forms (explained_plain (limited n) globals definition names)
  forms_plain k =
      then_part n globals definition.right (outermost globals) at_base formed k definition.places names _
      (forms_term n globals definition.right (outermost globals) at_base formed k definition.places names)
      (λ r kr. forms_then _ _
      (forms_note n globals (outermost globals) formed at_base (length globals) (spots definition.places).at definition.note r.type
      (IsKindedNote-from (kinds_of globals) [] definition.note fits.note_formed) kr)
      (λ m asked e. tt))

  forms_recursion : (signature : CapturingType) → IsKindedType (kinds_of globals) [] signature → IsKindedTerm (TermKind ∷ kinds_of globals) [] definition.right
      → Forms (explained_recursion (limited n) globals definition names signature)
  forms_recursion signature ks k =
      let base : Context = entry_of signature ∷ globals in
      let kbase : IsKindedContext base = (ks, formed) in
      then_part n base definition.right (outermost base) at_base kbase k definition.places names _
      (forms_term n base definition.right (outermost base) at_base kbase k definition.places names)
      (λ r kr. forms_then _ _
      (forms_below n (spots definition.places).at (outermost base) r.type signature kbase kr.0 (IsKinded-added TermKind (kinds_of globals) [] signature.shape ks.0))
      (λ u asked e. tt))

  forms_recursive : (note : Note) → IsKindedNote (kinds_of globals) [] note → IsKindedTerm (TermKind ∷ kinds_of globals) [] definition.right
      → Forms (explained_recursive (limited n) devices globals definition names note)
  forms_recursive (Written s c) kn k =
      then_because (unsigned_cause globals (capturing s c)) [] (found_or E17 definition.name_at (signature_of devices globals (capturing s c))) _
      (unsigned_formed globals (capturing s c))
      (λ signature qs came.
      let sg = signed devices globals globals (λ p b h. h) formed formed fits.globals_alone (capturing s c) signature kn (IsKindedType-test (kinds_of globals) [] (capturing s c) kn)
      (avoided_came definition.name_at _ came).0 in
      forms_recursion signature sg.kinded k)
  forms_recursive Absent kn k = tt
  forms_recursive (Own s) kn k = tt

  pub forms_definition : Forms (explained_definition (limited n) devices globals definition names)
  forms_definition = by definition.recursive fits.right_formed
    where
      by : (b : Bool) → is_well_formed_term (visible_kinds b globals) [] definition.right ≡ true
          → Forms (cond b (explained_recursive (limited n) devices globals definition names definition.note) (explained_plain (limited n) globals definition names))
      by true right =
          forms_recursive definition.note (IsKindedNote-from (kinds_of globals) [] definition.note fits.note_formed) (IsKindedTerm-from (TermKind ∷ kinds_of globals) [] definition.right right)
      by false right = forms_plain (IsKindedTerm-from (kinds_of globals) [] definition.right right)
