-- Typing by the form of the term, where each term's type is widened exactly once. It is the same relation as typing.
use Rattle.cc_core.proofs.SubcapturingContexts.{IsKindedContext, entry_kinded}
use Rattle.cc_core.proofs.Sorts.{SetSort, ShapeSort}
use Rattle.std.proofs.Common.{◌≡◌, ℕ, List, [], ◌∷◌, length, Some, None, sym, subst}
use Rattle.cc_base.specs.declared.literal.Base.{Base}
use Rattle.cc_base.specs.declared.literal.Base.TheVariants as bases
use Rattle.cc_base.specs.declared.literal.Operator.{Operator}
use Rattle.cc_base.specs.declared.literal.Op.{Op}
use Rattle.cc_capture.specs.declared.var.Var.{Var}
use Rattle.cc_capture.specs.declared.var.Var.TheVariants.{Free}
use Rattle.cc_capture.specs.declared.var.Elem.TheVariants.{Var as Variable, Cap}
use Rattle.cc_capture.specs.Sets.{Set, empty}
use Rattle.cc_core.specs.Shapes.{Shape, BaseShape, TypeVariable, FunctionShape, TypeFunctionShape, BoxShape, ExitShape}
use Rattle.cc_base.specs.Literals.{Literal}
use Rattle.cc_core.specs.Terms.{Note, Written, Term, VariableTerm, LiteralTerm, FunctionTerm, TypeFunctionTerm, BoxTerm, Application, TypeApplication, Unboxing, Let, Primitive, Conditional, Repetition, Operation, Boundary, Leave}
use Rattle.cc_core.specs.Contexts.{TermEntry, TypeEntry, Context, lookup}
use Rattle.cc_core.specs.Traversal.{act, act_set}
use Rattle.cc_core.specs.Substitution.{single, putting, putting_shape, opened, opened_set, opened_term, overridden}
use Rattle.cc_core.specs.WellFormed.{Kind, TermKind, TypeKind, kinds_of}
use Rattle.cc_core.specs.Captured.{without_binder, variable_set, captured_variables}
use Rattle.cc_core.specs.Subcapturing.{Subcaptures, SubcapturesSet}
use Rattle.cc_core.specs.Typing.{base_of, base_given, base_operated, base_taken, base_answered, IsNoteOf, HasNoCap}
use Rattle.cc_core.proofs.CapturedKinds.{empty_kinded, without_binder_kinded, captured_variables_kinded}
use Rattle.cc_core.proofs.KindFacts.{IsKindedSet, IsKinded, IsKindedTerm}
use Rattle.cc_typing_laws.proofs.DirectSubtyping.{SubtypesDirectly}
use Rattle.cc_typing_laws.proofs.FormedContexts.{length-kinds_of, kinded_single, HasKinds-opened}
use Rattle.cc_typing_laws.proofs.FreeMaps.{same_position, same_variable, map_kinds, maps_value, maps_shape, value_put, shape_put}

-- a variable has the type: its entry's shape is below the shape, and it is below the set
pub record HasVariable (g : Context) (v : Var) (s : Shape) (c : Set) : Type 0 where
  pub position : ℕ
  pub is : v ≡ Free position
  pub shape : Shape
  pub set : Set
  pub there : lookup g position ≡ Some (TermEntry shape set)
  pub below : SubtypesDirectly g shape s
  pub captured : Subcaptures g (Variable (Free position)) c
  pub kinded : IsKinded (kinds_of g) [] s
  pub kinded_set : IsKindedSet (kinds_of g) [] c

mutual
  -- the type that the form of a term gives
  pub data TypedExactly : Context → Term → Shape → Set → Type 0 where
    exact_variable : {g : Context} {p : ℕ} {s : Shape} {c : Set} → lookup g p ≡ Some (TermEntry s c) → TypedExactly g (VariableTerm (Free p)) s (variable_set (Free p))
    exact_literal : {g : Context} {l : Literal} → TypedExactly g (LiteralTerm l) (BaseShape (base_of l)) empty
    exact_function : {g : Context} {takes gives : Shape} {c e : Set} {body : Term}
        → IsKinded (kinds_of g) (TermKind ∷ []) gives → IsKindedSet (kinds_of g) (TermKind ∷ []) e
        → Typed (TermEntry takes c ∷ g) (opened_term (length g) body) (opened (length g) gives) (opened_set (length g) e)
        → TypedExactly g (FunctionTerm takes c body) (FunctionShape takes c gives e) (captured_variables (FunctionTerm takes c body))
    exact_type_function : {g : Context} {bound gives : Shape} {e : Set} {body : Term}
        → IsKinded (kinds_of g) (TypeKind ∷ []) gives → IsKindedSet (kinds_of g) (TypeKind ∷ []) e
        → Typed (TypeEntry bound ∷ g) (opened_term (length g) body) (opened (length g) gives) (opened_set (length g) e)
        → TypedExactly g (TypeFunctionTerm bound body) (TypeFunctionShape bound gives e) (captured_variables (TypeFunctionTerm bound body))
    exact_application : {g : Context} {function argument : Var} {takes gives : Shape} {c d e : Set}
        → HasVariable g function (FunctionShape takes c gives e) d → HasVariable g argument takes c
        → TypedExactly g (Application function argument) (act (putting argument) 0 gives) (act_set (putting argument) 0 e)
    exact_type_application : {g : Context} {function : Var} {bound gives argument : Shape} {d e : Set}
        → HasVariable g function (TypeFunctionShape bound gives e) d → SubtypesDirectly g argument bound
        → TypedExactly g (TypeApplication function argument) (act (putting_shape argument) 0 gives) (act_set (putting_shape argument) 0 e)
    exact_box : {g : Context} {content : Var} {s : Shape} {c : Set} → HasVariable g content s c → HasNoCap c → TypedExactly g (BoxTerm content) (BoxShape s c) empty
    exact_unboxing : {g : Context} {box : Var} {s : Shape} {c d : Set} → HasVariable g box (BoxShape s c) d → HasNoCap c → TypedExactly g (Unboxing (Some c) box) s c
    exact_let : {g : Context} {note : Note} {right body : Term} {bound s : Shape} {c e : Set}
        → Typed g right bound c → IsNoteOf note bound c
        → Typed (TermEntry bound c ∷ g) (opened_term (length g) body) s e
        → IsKinded (kinds_of g) [] s → IsKindedSet (kinds_of g) [] e
        → TypedExactly g (Let note right body) s e
    exact_primitive : {g : Context} {operator : Operator} {left right : Var} {d d' : Set}
        → HasVariable g left (BaseShape bases.Int) d → HasVariable g right (BaseShape bases.Int) d'
        → TypedExactly g (Primitive operator left right) (BaseShape (base_given operator)) empty
    exact_conditional : {g : Context} {test : Var} {positive negative : Term} {s : Shape} {c d : Set}
        → HasVariable g test (BaseShape bases.Bool) d → Typed g positive s c → Typed g negative s c
        → TypedExactly g (Conditional (Written s c) test positive negative) s c
    exact_repetition : {g : Context} {count function : Var} {d d' : Set}
        → HasVariable g count (BaseShape bases.Int) d
        → HasVariable g function (FunctionShape (BaseShape bases.Int) empty (BaseShape bases.Unit) empty) d'
        → TypedExactly g (Repetition count function) (BaseShape bases.Unit) empty
    exact_operation : {g : Context} {operation : Op} {receiver argument : Var} {taken : Base} {d d' : Set}
        → HasVariable g receiver (BaseShape (base_operated operation)) d → base_taken operation ≡ Some taken → HasVariable g argument (BaseShape taken) d'
        → TypedExactly g (Operation operation receiver (Some argument)) (BaseShape (base_answered operation)) empty
    exact_operation_alone : {g : Context} {operation : Op} {receiver : Var} {d : Set}
        → HasVariable g receiver (BaseShape (base_operated operation)) d → base_taken operation ≡ None
        → TypedExactly g (Operation operation receiver None) (BaseShape (base_answered operation)) empty
    exact_boundary : {g : Context} {gives : Shape} {body : Term}
        → Typed (TermEntry (ExitShape gives) (single Cap) ∷ g) (opened_term (length g) body) gives empty
        → TypedExactly g (Boundary gives body) gives empty
    exact_leave : {g : Context} {exit value : Var} {gives s : Shape} {c d : Set}
        → HasVariable g exit (ExitShape s) d → HasVariable g value s empty
        → TypedExactly g (Leave gives c exit value) gives c

  -- a type above that one
  pub data Typed : Context → Term → Shape → Set → Type 0 where
    widened : {g : Context} {t : Term} {s s' : Shape} {c c' : Set}
        → IsKindedTerm (kinds_of g) [] t → TypedExactly g t s c → SubcapturesSet g c c' → SubtypesDirectly g s s'
        → IsKinded (kinds_of g) [] s' → IsKindedSet (kinds_of g) [] c'
        → Typed g t s' c'

-- what is well formed captures what is well formed
pub kinded_without_binder : (kinds passed : List Kind) (k : Kind) (c : Set) → IsKindedSet kinds (k ∷ passed) c → IsKindedSet kinds passed (without_binder c)
kinded_without_binder = without_binder_kinded

pub captured_kinded : (kinds passed : List Kind) (t : Term) → IsKindedTerm kinds passed t → IsKindedSet kinds passed (captured_variables t)
captured_kinded = captured_variables_kinded

-- putting a variable that has the type of the binder, or a shape below its bound, keeps what is well formed
module _ (g : Context) (formed : IsKindedContext g) where
  pub put_kinded : (v : Var) (s : Shape) (c : Set) → HasVariable g v s c → (x : Shape) → IsKinded (kinds_of g) (TermKind ∷ []) x → IsKinded (kinds_of g) [] (act (putting v) 0 x)
  put_kinded v s c has x h =
      subst (λ w. IsKinded (kinds_of g) [] (act (putting w) 0 x)) (sym has.is)
      (subst (IsKinded (kinds_of g) []) (value_put g has.position TermKind ShapeSort x h)
      (map_kinds (TermEntry s c ∷ g) g (overridden same_position (length g) has.position) (overridden same_variable (length g) (TypeVariable (Free has.position)))
      (maps_value g formed s c has.kinded has.kinded_set has.position has.shape has.set has.there has.below has.captured) [] ShapeSort
      (opened (length g) x) (HasKinds-opened (length g) TermKind (kinds_of g) (length-kinds_of g) ShapeSort x h)))

  pub put_kinded_set : (v : Var) (s : Shape) (c : Set) → HasVariable g v s c → (x : Set) → IsKindedSet (kinds_of g) (TermKind ∷ []) x → IsKindedSet (kinds_of g) [] (act_set (putting v) 0 x)
  put_kinded_set v s c has x h =
      subst (λ w. IsKindedSet (kinds_of g) [] (act_set (putting w) 0 x)) (sym has.is)
      (subst (IsKindedSet (kinds_of g) []) (value_put g has.position TermKind SetSort x h)
      (map_kinds (TermEntry s c ∷ g) g (overridden same_position (length g) has.position) (overridden same_variable (length g) (TypeVariable (Free has.position)))
      (maps_value g formed s c has.kinded has.kinded_set has.position has.shape has.set has.there has.below has.captured) [] SetSort
      (opened_set (length g) x) (HasKinds-opened (length g) TermKind (kinds_of g) (length-kinds_of g) SetSort x h)))

  pub shape_put_kinded : (b r : Shape) → IsKinded (kinds_of g) [] b → IsKinded (kinds_of g) [] r → SubtypesDirectly g r b → (x : Shape) → IsKinded (kinds_of g) (TypeKind ∷ []) x → IsKinded (kinds_of g) [] (act (putting_shape r) 0 x)
  shape_put_kinded b r kb kr below x h =
      subst (IsKinded (kinds_of g) []) (shape_put g r ShapeSort x h)
      (map_kinds (TypeEntry b ∷ g) g same_position (overridden same_variable (length g) r) (maps_shape g formed b kb r kr below) [] ShapeSort
      (opened (length g) x) (HasKinds-opened (length g) TypeKind (kinds_of g) (length-kinds_of g) ShapeSort x h))

  pub shape_put_kinded_set : (b r : Shape) → IsKinded (kinds_of g) [] b → IsKinded (kinds_of g) [] r → SubtypesDirectly g r b → (x : Set) → IsKindedSet (kinds_of g) (TypeKind ∷ []) x → IsKindedSet (kinds_of g) [] (act_set (putting_shape r) 0 x)
  shape_put_kinded_set b r kb kr below x h =
      subst (IsKindedSet (kinds_of g) []) (shape_put g r SetSort x h)
      (map_kinds (TypeEntry b ∷ g) g same_position (overridden same_variable (length g) r) (maps_shape g formed b kb r kr below) [] SetSort
      (opened_set (length g) x) (HasKinds-opened (length g) TypeKind (kinds_of g) (length-kinds_of g) SetSort x h))

-- the type that the form of a well-formed term gives is well formed
pub exactly_kinded : {g : Context} {t : Term} {s : Shape} {c : Set} → TypedExactly g t s c → IsKindedContext g → IsKindedTerm (kinds_of g) [] t → IsKinded (kinds_of g) [] s × IsKindedSet (kinds_of g) [] c
exactly_kinded (exact_variable {g = g} {p = p} {s = s} {c = c} there) formed k = ((entry_kinded g p (TermEntry s c) formed there).0, kinded_single (kinds_of g) [] (Variable (Free p)) k)
exactly_kinded (exact_literal {g = g}) formed k = (tt, empty_kinded (kinds_of g) [])
exactly_kinded (exact_function {g = g} {takes = takes} {c = c} {body = body} kg ke typed) formed k = ((k.0, k.1, kg, ke), captured_kinded (kinds_of g) [] (FunctionTerm takes c body) k)
exactly_kinded (exact_type_function {g = g} {bound = bound} {body = body} kg ke typed) formed k = ((k.0, kg, ke), captured_kinded (kinds_of g) [] (TypeFunctionTerm bound body) k)
exactly_kinded (exact_application {g = g} {argument = argument} {takes = takes} {gives = gives} {c = c} {e = e} function has) formed k =
    (put_kinded g formed argument takes c has gives function.kinded.2, put_kinded_set g formed argument takes c has e function.kinded.3)
exactly_kinded (exact_type_application {g = g} {bound = bound} {gives = gives} {argument = argument} {e = e} function below) formed k =
    (shape_put_kinded g formed bound argument function.kinded.0 k.1 below gives function.kinded.1, shape_put_kinded_set g formed bound argument function.kinded.0 k.1 below e function.kinded.2)
exactly_kinded (exact_box {g = g} has none) formed k = ((has.kinded, has.kinded_set), empty_kinded (kinds_of g) [])
exactly_kinded (exact_unboxing has none) formed k = has.kinded
exactly_kinded (exact_let right is body ks ke) formed k = (ks, ke)
exactly_kinded (exact_primitive {g = g} left right) formed k = (tt, empty_kinded (kinds_of g) [])
exactly_kinded (exact_conditional test positive negative) formed k = k.0
exactly_kinded (exact_repetition {g = g} count function) formed k = (tt, empty_kinded (kinds_of g) [])
exactly_kinded (exact_operation {g = g} receiver taken argument) formed k = (tt, empty_kinded (kinds_of g) [])
exactly_kinded (exact_operation_alone {g = g} receiver taken) formed k = (tt, empty_kinded (kinds_of g) [])
exactly_kinded (exact_boundary {g = g} body) formed k = (k.0, empty_kinded (kinds_of g) [])
exactly_kinded (exact_leave exit value) formed k = (k.0, k.1)
