-- Inference of a well-formed term settles, for each form; and so does the checking of a well-formed definition.
use Rattle.std.proofs.Common.{◌≡◌, ℕ, Bool, true, false, cond, List, [], ◌∷◌, length, Option, sym, subst, arith}
use Rattle.cc_base.specs.declared.code.Code.TheVariants.{E14, E17}
use Rattle.cc_base.specs.declared.place.Place.{Place}
use Rattle.cc_base.specs.declared.literal.Base.TheVariants as bases
use Rattle.cc_base.specs.declared.literal.Operator.{Operator}
use Rattle.cc_base.specs.declared.literal.Op.{Op}
use Rattle.cc_base.specs.Literals.{Literal}
use Rattle.cc_capture.specs.declared.var.Var.{Var}
use Rattle.cc_capture.specs.declared.var.Elem.TheVariants.{Cap}
use Rattle.cc_capture.specs.Sets.{Set, empty}
use Rattle.cc_core.specs.Shapes.{Shape, BaseShape, FunctionShape, TypeFunctionShape, ExitShape, CapturingType, capturing}
use Rattle.cc_core.specs.Terms.{Note, Absent, Written, Own, Term, VariableTerm, LiteralTerm, FunctionTerm, TypeFunctionTerm, BoxTerm, Application, TypeApplication, Unboxing, Let, Primitive, Conditional, Repetition, Operation, Boundary, Leave}
use Rattle.cc_core.specs.Contexts.{TypeEntry, Context, entry_of}
use Rattle.cc_core.specs.Typing.{base_operated, base_taken}
use Rattle.cc_core.specs.WellFormed.{Kind, TermKind, kinds_of, is_well_formed_term, IsWellFormedContext, IsWellFormedNote}
use Rattle.cc_core.specs.Places.{Places, spots, first_part, second_part}
use Rattle.cc_core.proofs.CapturedKinds.{empty_kinded}
use Rattle.cc_core.proofs.KindFacts.{IsOfKind, IsKinded, IsKindedType, IsKindedTerm, IsKindedNote-from, IsKindedTerm-from}
use Rattle.cc_core.proofs.KindRespecting.{single_kinded}
use Rattle.cc_core.proofs.Sorts.{ShapeSort, TypeSort}
use Rattle.cc_core.proofs.SubcapturingContexts.{IsKindedContext, IsKindedContext-from, IsKinded-added}
use Rattle.cc_checking.specs.Exposing.{exposed}
use Rattle.cc_checking.specs.Avoidance.{Positive, avoided_type}
use Rattle.cc_checking.specs.Outcomes.{Asked, Outcome, Refused}
use Rattle.cc_checking.specs.Inference.{Result, in_context, shape_in, type_in, variable_type, Function, TypeFunction, function_head, type_function_head, exit_head, capless, limited, inferred, exit_entry, Infers}
use Rattle.cc_checking.specs.Verdicts.{Definition, Checking, plain_checked, recursive_checked, signature_of, IsChecked}
use Rattle.cc_checking_laws.specs.CheckingLaws.{Fits}
use Rattle.cc_checking_laws.specs.FillingLaws.{AreGlobals}
use Rattle.cc_checking_laws.proofs.FoundFindings.{Came, function_head_came, type_function_head_came, exit_head_came, noted_came, avoided_came, found_finds}
use Rattle.cc_checking_laws.proofs.FoundTypes.{exposed_kinded, notes_kinded, regular}
use Rattle.cc_checking_laws.proofs.ReadingKinds.{Inside, outermost, deeper, read_kinded}
use Rattle.cc_checking_laws.proofs.Signatures.{signed}
use Rattle.cc_checking_laws.proofs.SettledSteps.{Settles, settles_now, settles_found, settles_then, settles_sized, settles_against, settles_below, settles_function_head, settles_type_function_head, settles_box_head, settles_exit_head, settles_device_head, settles_opening, settles_or, found_shape, settles_there, settles_operand, settles_argument, settles_noted, settles_part_below, settles_part_against}

-- what is taken by a head that is found is well formed
head_takes : (g : Context) (at : Place) (s : Shape) {h : Function} {qs : List Asked} → IsKinded (kinds_of g) [] s
    → Came (function_head at s) h qs → IsKinded (kinds_of g) [] h.takes.shape
head_takes g at s {h} k c =
    let p = function_head_came at s c in
    let whole : IsKinded (kinds_of g) [] (FunctionShape p.0 p.1 p.2 p.3) = subst (IsKinded (kinds_of g) []) p.4 k in
    subst (λ (x : Function). IsKinded (kinds_of g) [] x.takes.shape) (sym p.5) whole.0

head_bound : (g : Context) (at : Place) (s : Shape) {h : TypeFunction} {qs : List Asked} → IsKinded (kinds_of g) [] s
    → Came (type_function_head at s) h qs → IsKinded (kinds_of g) [] h.bound
head_bound g at s {h} k c =
    let p = type_function_head_came at s c in
    let whole : IsKinded (kinds_of g) [] (TypeFunctionShape p.0 p.1 p.2) = subst (IsKinded (kinds_of g) []) p.3 k in
    subst (λ (x : TypeFunction). IsKinded (kinds_of g) [] x.bound) (sym p.4) whole.0

head_exit : (g : Context) (at : Place) (s : Shape) {h : Shape} {qs : List Asked} → IsKinded (kinds_of g) [] s
    → Came (exit_head at s) h qs → IsKinded (kinds_of g) [] h
head_exit g at s {h} k c =
    let p = exit_head_came at s c in
    let whole : IsKinded (kinds_of g) [] (ExitShape p.0) = subst (IsKinded (kinds_of g) []) p.1 k in
    subst (IsKinded (kinds_of g) []) (sym p.2) whole

module _ (base : Context) where
  -- inference of the term settles at each place where it is well formed
  abbrev SettlesIn : Term → Type 0
  SettlesIn t =
      (g : Context) (passed : List Kind) → Inside base g passed → IsKindedContext g → IsKindedTerm (kinds_of base) passed t → (places : Places)
      → Settles (λ n. inferred (limited n) (length base) g t places)

  -- the type that is found for a part is well formed
  part_kinded : {g : Context} {passed : List Kind} (t : Term) (places : Places) → Inside base g passed
      → IsKindedContext g → IsKindedTerm (kinds_of base) passed t
      → (r : Result) (n : ℕ) (qs : List Asked) → Came (inferred (limited n) (length base) g t places) r qs
      → IsKindedType (kinds_of g) [] r.type
  part_kinded {g} t places i formed kt r n qs c = (regular base (found_finds n (length base) (limited n).passes t g places c) i formed kt).0

  module _ {g : Context} {passed : List Kind} (i : Inside base g passed) (formed : IsKindedContext g) where
    row_variable : (v : Var) (places : Places) → IsOfKind (kinds_of base) passed v TermKind
        → Settles (λ n. inferred (limited n) (length base) g (VariableTerm v) places)
    row_variable v places k = settles_sized places (settles_then (settles_there i formed v k) (λ t n qs c. settles_found _))

    row_literal : (l : Literal) (places : Places)
        → Settles (λ n. inferred (limited n) (length base) g (LiteralTerm l) places)
    row_literal l places = settles_sized places (settles_found _)

    row_function : (takes : Shape) (c : Set) (body : Term) (places : Places)
        → IsKindedTerm (kinds_of base) passed (FunctionTerm takes c body) → SettlesIn body
        → Settles (λ n. inferred (limited n) (length base) g (FunctionTerm takes c body) places)
    row_function takes c body places k again =
        let p = read_kinded i TypeSort (capturing takes c) (k.0, k.1) in
        let entry = entry_of (type_in g (capturing takes c)) in
        settles_sized places (settles_then (again (entry ∷ g) _ (deeper entry i) (p, formed) k.2 (first_part places)) (λ r n qs c. settles_found _))

    row_type_function : (bound : Shape) (body : Term) (places : Places)
        → IsKindedTerm (kinds_of base) passed (TypeFunctionTerm bound body) → SettlesIn body
        → Settles (λ n. inferred (limited n) (length base) g (TypeFunctionTerm bound body) places)
    row_type_function bound body places k again =
        let p = read_kinded i ShapeSort bound k.0 in
        let entry = TypeEntry (shape_in g bound) in
        settles_sized places (settles_then (again (entry ∷ g) _ (deeper entry i) (p, formed) k.1 (first_part places)) (λ r n qs c. settles_found _))

    row_box : (v : Var) (places : Places) → IsOfKind (kinds_of base) passed v TermKind
        → Settles (λ n. inferred (limited n) (length base) g (BoxTerm v) places)
    row_box v places k = settles_sized places (settles_then (settles_there i formed v k) (λ t n qs c. settles_found _))

    -- the exposed shape of a variable that is found is well formed
    exposed_there : (v : Var) (n : ℕ) {t : CapturingType} {qs : List Asked}
        → Came (variable_type g (in_context g v)) t qs → IsKinded (kinds_of g) [] (exposed g t.shape)
    exposed_there v n {t} c = exposed_kinded g t.shape formed (found_shape g (in_context g v) formed n c)

    row_application : (v w : Var) (places : Places) → IsOfKind (kinds_of base) passed v TermKind
        → IsOfKind (kinds_of base) passed w TermKind
        → Settles (λ n. inferred (limited n) (length base) g (Application v w) places)
    row_application v w places kv kw =
        settles_sized places
        (settles_then (settles_there i formed v kv)
        (λ t n qs c. settles_then (settles_function_head (spots places).first (exposed g t.shape))
        (λ h n' qs' c'. settles_then (settles_there i formed w kw)
        (λ a n'' qs'' c''. settles_then
        (settles_below (spots places).second g formed a h.takes (found_shape g (in_context g w) formed n'' c'') (head_takes g (spots places).first (exposed g t.shape) (exposed_there v n c) c'))
        (λ u m qs3 c3. settles_found _)))))

    row_type_application : (v : Var) (s : Shape) (places : Places) → IsOfKind (kinds_of base) passed v TermKind
        → IsKinded (kinds_of base) passed s
        → Settles (λ n. inferred (limited n) (length base) g (TypeApplication v s) places)
    row_type_application v s places kv ks =
        settles_sized places
        (settles_then (settles_there i formed v kv)
        (λ t n qs c. settles_then (settles_type_function_head (spots places).first (exposed g t.shape))
        (λ h n' qs' c'. settles_then
        (settles_against (spots places).second g formed (shape_in g s) h.bound (read_kinded i ShapeSort s ks) (head_bound g (spots places).first (exposed g t.shape) (exposed_there v n c) c'))
        (λ u m qs3 c3. settles_found _))))

    row_unboxing : (o : Option Set) (v : Var) (places : Places) → IsOfKind (kinds_of base) passed v TermKind
        → Settles (λ n. inferred (limited n) (length base) g (Unboxing o v) places)
    row_unboxing o v places kv =
        settles_sized places
        (settles_then (settles_there i formed v kv)
        (λ t n qs c. settles_then (settles_box_head (spots places).first (exposed g t.shape))
        (λ content n' qs' c'. settles_then (settles_opening (spots places).first g content.set o)
        (λ under n'' qs'' c''. settles_then (settles_now (capless (spots places).second under) (λ e. cc))
        (λ u m qs3 c3. settles_found _)))))

    row_let : (note : Note) (s t : Term) (places : Places) → IsKindedTerm (kinds_of base) passed (Let note s t)
        → SettlesIn s → SettlesIn t
        → Settles (λ n. inferred (limited n) (length base) g (Let note s t) places)
    row_let note s t places k again again' =
        settles_sized places
        (settles_then (again g passed i formed k.1 (first_part places))
        (λ r n qs c. let kr = part_kinded s (first_part places) i formed k.1 r n qs c in
        settles_then (settles_noted i formed (length base) (spots (first_part places)).at note r.type k.0 kr)
        (λ named n' qs' c'.
        let kn = (notes_kinded base (noted_came n' (length base) (spots (first_part places)).at g note r.type c') i k.0 kr).0 in
        settles_then (again' (entry_of named.type ∷ g) _ (deeper (entry_of named.type) i) (kn, formed) k.2 (second_part places))
        (λ r' n'' qs'' c''. settles_then (settles_or E17 (spots places).first (avoided_type Positive (length g) named.type.set r'.type))
        (λ u m qs3 c3. settles_found _)))))

    row_primitive : (o : Operator) (v w : Var) (places : Places) → IsOfKind (kinds_of base) passed v TermKind
        → IsOfKind (kinds_of base) passed w TermKind
        → Settles (λ n. inferred (limited n) (length base) g (Primitive o v w) places)
    row_primitive o v w places kv kw =
        settles_sized places
        (settles_then (settles_operand i formed (spots places).first v (BaseShape bases.Int) kv tt)
        (λ u n qs c. settles_then (settles_operand i formed (spots places).second w (BaseShape bases.Int) kw tt)
        (λ u' n' qs' c'. settles_found _)))

    row_choice : (x : Shape) (y : Set) (v : Var) (s t : Term) (places : Places)
        → IsKindedTerm (kinds_of base) passed (Conditional (Written x y) v s t) → SettlesIn s → SettlesIn t
        → Settles (λ n. inferred (limited n) (length base) g (Conditional (Written x y) v s t) places)
    row_choice x y v s t places k again again' =
        let kx = read_kinded i TypeSort (capturing x y) k.0 in
        settles_sized places
        (settles_then (settles_operand i formed (spots places).first v (BaseShape bases.Bool) k.1 tt)
        (λ u n qs c. settles_then
        (settles_part_below (spots (first_part places)).at g formed (type_in g (capturing x y)) kx.0 (again g passed i formed k.2 (first_part places)) (part_kinded s (first_part places) i formed k.2))
        (λ r n' qs' c'. settles_then
        (settles_part_below (spots (second_part places)).at g formed (type_in g (capturing x y)) kx.0 (again' g passed i formed k.3 (second_part places)) (part_kinded t (second_part places) i formed k.3))
        (λ r' n'' qs'' c''. settles_found _))))

    row_choice_own : (x : Shape) (v : Var) (s t : Term) (places : Places)
        → IsKindedTerm (kinds_of base) passed (Conditional (Own x) v s t) → SettlesIn s → SettlesIn t
        → Settles (λ n. inferred (limited n) (length base) g (Conditional (Own x) v s t) places)
    row_choice_own x v s t places k again again' =
        let kx = read_kinded i ShapeSort x k.0 in
        settles_sized places
        (settles_then (settles_operand i formed (spots places).first v (BaseShape bases.Bool) k.1 tt)
        (λ u n qs c. settles_then
        (settles_part_against (spots (first_part places)).at g formed (shape_in g x) kx (again g passed i formed k.2 (first_part places)) (part_kinded s (first_part places) i formed k.2))
        (λ r n' qs' c'. settles_then
        (settles_part_against (spots (second_part places)).at g formed (shape_in g x) kx (again' g passed i formed k.3 (second_part places)) (part_kinded t (second_part places) i formed k.3))
        (λ r' n'' qs'' c''. settles_found _))))

    row_repetition : (v w : Var) (places : Places) → IsOfKind (kinds_of base) passed v TermKind
        → IsOfKind (kinds_of base) passed w TermKind
        → Settles (λ n. inferred (limited n) (length base) g (Repetition v w) places)
    row_repetition v w places kv kw =
        let each : Shape = FunctionShape (BaseShape bases.Int) empty (BaseShape bases.Unit) empty in
        settles_sized places
        (settles_then (settles_operand i formed (spots places).first v (BaseShape bases.Int) kv tt)
        (λ u n qs c. settles_then
        (settles_operand i formed (spots places).second w each kw (tt, empty_kinded (kinds_of g) [], tt, empty_kinded (kinds_of g) (TermKind ∷ [])))
        (λ u' n' qs' c'. settles_found _)))

    row_operation : (o : Op) (v : Var) (w : Option Var) (places : Places)
        → IsKindedTerm (kinds_of base) passed (Operation o v w)
        → Settles (λ n. inferred (limited n) (length base) g (Operation o v w) places)
    row_operation o v w places k =
        settles_sized places
        (settles_then (settles_there i formed v k.0)
        (λ t n qs c. settles_then (settles_device_head (spots places).first (base_operated o) (exposed g t.shape))
        (λ u n' qs' c'. settles_then (settles_argument i formed (spots places).second (base_taken o) w k.1)
        (λ u' n'' qs'' c''. settles_found _))))

    row_boundary : (x : Shape) (t : Term) (places : Places) → IsKindedTerm (kinds_of base) passed (Boundary x t)
        → SettlesIn t
        → Settles (λ n. inferred (limited n) (length base) g (Boundary x t) places)
    row_boundary x t places k again =
        let kx = read_kinded i ShapeSort x k.0 in
        let entry = exit_entry (shape_in g x) in
        let formed' : IsKindedContext (entry ∷ g) = ((kx, single_kinded (kinds_of g) [] Cap tt), formed) in
        settles_sized places
        (settles_then
        (settles_part_below (spots (first_part places)).at (entry ∷ g) formed' (capturing (shape_in g x) empty) (IsKinded-added TermKind (kinds_of g) [] (shape_in g x) kx)
        (again (entry ∷ g) _ (deeper entry i) formed' k.1 (first_part places)) (part_kinded t (first_part places) (deeper entry i) formed' k.1))
        (λ r n qs c. settles_found _))

    row_exit : (x : Shape) (y : Set) (v w : Var) (places : Places) → IsOfKind (kinds_of base) passed v TermKind
        → IsOfKind (kinds_of base) passed w TermKind
        → Settles (λ n. inferred (limited n) (length base) g (Leave x y v w) places)
    row_exit x y v w places kv kw =
        settles_sized places
        (settles_then (settles_there i formed v kv)
        (λ t n qs c. settles_then (settles_exit_head (spots places).first (exposed g t.shape))
        (λ takes n' qs' c'. settles_then (settles_there i formed w kw)
        (λ a n'' qs'' c''. settles_then
        (settles_below (spots places).second g formed a (capturing takes empty) (found_shape g (in_context g w) formed n'' c'') (head_exit g (spots places).first (exposed g t.shape) (exposed_there v n c) c'))
        (λ u m qs3 c3. settles_found _)))))

  pub inferred_settles : (t : Term) → SettlesIn t
  inferred_settles (VariableTerm v) g passed i formed k places = row_variable i formed v places k
  inferred_settles (LiteralTerm l) g passed i formed k places = row_literal i formed l places
  inferred_settles (FunctionTerm takes c body) g passed i formed k places = row_function i formed takes c body places k (inferred_settles body)
  inferred_settles (TypeFunctionTerm bound body) g passed i formed k places = row_type_function i formed bound body places k (inferred_settles body)
  inferred_settles (BoxTerm v) g passed i formed k places = row_box i formed v places k
  inferred_settles (Application v w) g passed i formed k places = row_application i formed v w places k.0 k.1
  inferred_settles (TypeApplication v s) g passed i formed k places = row_type_application i formed v s places k.0 k.1
  inferred_settles (Unboxing o v) g passed i formed k places = row_unboxing i formed o v places k.1
  inferred_settles (Let note s t) g passed i formed k places = row_let i formed note s t places k (inferred_settles s) (inferred_settles t)
  inferred_settles (Primitive o v w) g passed i formed k places = row_primitive i formed o v w places k.0 k.1
  inferred_settles (Conditional Absent v s t) g passed i formed k places = settles_now (Refused E14 (spots places).at) (λ e. cc)
  inferred_settles (Conditional (Written x c) v s t) g passed i formed k places = row_choice i formed x c v s t places k (inferred_settles s) (inferred_settles t)
  inferred_settles (Conditional (Own x) v s t) g passed i formed k places = row_choice_own i formed x v s t places k (inferred_settles s) (inferred_settles t)
  inferred_settles (Repetition v w) g passed i formed k places = row_repetition i formed v w places k.0 k.1
  inferred_settles (Operation o v w) g passed i formed k places = row_operation i formed o v w places k
  inferred_settles (Boundary x t) g passed i formed k places = row_boundary i formed x t places k (inferred_settles t)
  inferred_settles (Leave x c v w) g passed i formed k places = row_exit i formed x c v w places k.2 k.3

pub has_outcome : (context : Context) (term : Term) (places : Places) → IsWellFormedContext context
    → is_well_formed_term (kinds_of context) [] term ≡ true
    → (outcome : Outcome Result) × Infers (length context) context term places outcome
has_outcome context term places formed right =
    let s = inferred_settles context term context [] outermost (IsKindedContext-from context formed) (IsKindedTerm-from (kinds_of context) [] term right) places in
    (s.answer, (s.steps, s.after s.steps (omega arith), s.ends))

-- definitions
module _ (devices : ℕ) (globals : Context) (formed : IsKindedContext globals) (alone : AreGlobals globals) where
  plain_settles : (definition : Definition) → IsKindedTerm (kinds_of globals) [] definition.right
      → IsWellFormedNote globals definition.note
      → Settles (λ n. plain_checked (limited n) globals definition)
  plain_settles definition kt kn =
      settles_then (inferred_settles globals definition.right globals [] outermost formed kt definition.places)
      (λ r n qs c. settles_then
      (settles_noted outermost formed (length globals) (spots definition.places).at definition.note r.type (IsKindedNote-from (kinds_of globals) [] definition.note kn)
      (part_kinded globals definition.right definition.places outermost formed kt r n qs c))
      (λ named n' qs' c'. settles_found _))

  recursive_settles : (definition : Definition) (note : Note)
      → IsKindedTerm (TermKind ∷ kinds_of globals) [] definition.right → IsWellFormedNote globals note
      → Settles (λ n. recursive_checked (limited n) devices globals definition note)
  recursive_settles definition Absent kt kn = settles_now (Refused E14 definition.name_at) (λ e. cc)
  recursive_settles definition (Own s) kt kn = settles_now (Refused E14 definition.name_at) (λ e. cc)
  recursive_settles definition (Written s c) kt kn =
      settles_then (settles_or E17 definition.name_at (signature_of devices globals (capturing s c)))
      (λ signature n qs came.
      let ks = IsKindedNote-from (kinds_of globals) [] (Written s c) kn in
      let sg = signed devices globals globals (λ q b h. h) formed formed alone (capturing s c) signature ks kn (avoided_came definition.name_at _ came).0 in
      let base : Context = entry_of signature ∷ globals in
      let kbase : IsKindedContext base = (sg.kinded, formed) in
      settles_then (inferred_settles base definition.right base [] outermost kbase kt definition.places)
      (λ r n' qs' c'. settles_then
      (settles_below (spots definition.places).at base kbase r.type signature (part_kinded base definition.right definition.places outermost kbase kt r n' qs' c').0
      (IsKinded-added TermKind (kinds_of globals) [] signature.shape sg.kinded.0))
      (λ u n'' qs'' c''. settles_found _)))

  by_kind : (b : Bool) (definition : Definition)
      → is_well_formed_term (cond b (TermKind ∷ kinds_of globals) (kinds_of globals)) [] definition.right ≡ true
      → IsWellFormedNote globals definition.note
      → Settles (λ n. cond b (recursive_checked (limited n) devices globals definition definition.note) (plain_checked (limited n) globals definition))
  by_kind true definition right kn = recursive_settles definition definition.note (IsKindedTerm-from (TermKind ∷ kinds_of globals) [] definition.right right) kn
  by_kind false definition right kn = plain_settles definition (IsKindedTerm-from (kinds_of globals) [] definition.right right) kn

pub is_checked : (devices : ℕ) (globals : Context) (definition : Definition) → Fits globals definition
    → (outcome : Outcome Checking) × IsChecked devices globals definition outcome
is_checked devices globals definition fits =
    let s = by_kind devices globals (IsKindedContext-from globals fits.formed) fits.globals_alone definition.recursive definition fits.right_formed fits.note_formed in
    (s.answer, (s.steps, s.after s.steps (omega arith), s.ends))
