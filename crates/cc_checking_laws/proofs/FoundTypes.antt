-- What is found for a well-formed term is well formed: its type in the context, and the completed term as the term is.
use Rattle.std.proofs.Common.{◌≡◌, List, [], ◌∷◌, length, Some, sym, subst}
use Rattle.cc_capture.specs.declared.var.Var.{Var}
use Rattle.cc_capture.specs.declared.var.Var.TheVariants.{Bound, Free}
use Rattle.cc_capture.specs.declared.var.Elem.TheVariants.{Var as Variable, Cap}
use Rattle.cc_capture.specs.Sets.{Set, union}
use Rattle.cc_core.specs.Shapes.{Shape, BaseShape, AnyShape, TypeVariable, FunctionShape, TypeFunctionShape, BoxShape, ExitShape, CapturingType, capturing}
use Rattle.cc_core.specs.Terms.{Note, Term, FunctionTerm, TypeFunctionTerm}
use Rattle.cc_core.specs.Contexts.{TermEntry, TypeEntry, Context, entry_of}
use Rattle.cc_core.specs.Substitution.{put_variable, putting, putting_shape}
use Rattle.cc_core.specs.WellFormed.{Kind, TermKind, TypeKind, kind_of, kinds_of}
use Rattle.cc_core.specs.Captured.{variable_set}
use Rattle.cc_core.proofs.CapturedKinds.{empty_kinded, union_kinded, captured_variables_kinded}
use Rattle.cc_core.proofs.KindFacts.{IsOfKind, IsKindedSet, IsKinded, IsKindedType, IsKindedNote, IsKindedTerm, IsKindedSet-test, IsKindedType-from, IsKindedType-test}
use Rattle.cc_core.proofs.KindRespecting.{MovesKinds-putting, KeepsKinds-moving, KeepsKinds-putting_shape, single_kinded}
use Rattle.cc_core.proofs.Sorts.{SetSort, ShapeSort, TypeSort, HasKinds-act}
use Rattle.cc_core.proofs.SubcapturingContexts.{IsKindedContext, IsKinded-added, entry_kinded, kind_of_entry}
use Rattle.cc_checking.specs.Exposing.{followed, exposed}
use Rattle.cc_checking.specs.Avoidance.{Positive, avoided_type}
use Rattle.cc_checking.specs.Outcomes.{Asked}
use Rattle.cc_checking.specs.Inference.{Result, in_context, shape_in, type_in, Named}
use Rattle.cc_typing_laws.proofs.ExposingShapes.{others_stay, followed_kinded}
use Rattle.cc_typing_laws.proofs.AvoidingPlaces.{scope_left}
use Rattle.cc_typing_laws.proofs.FormedContexts.{HasKinds-closed, length-kinds_of}
use Rattle.cc_checking_laws.proofs.Findings.{Has, Notes, notes-absent, notes-written, notes-own, Finds, finds-variable, finds-literal, finds-function, finds-type_function, finds-box, finds-application, finds-type_application, finds-unboxing, finds-unboxing_own, finds-let, finds-primitive, finds-choice, finds-choice_own, finds-repetition, finds-operation, finds-operation_alone, finds-boundary, finds-exit}
use Rattle.cc_checking_laws.proofs.ReadingKinds.{Inside, deeper, read_kinded, written_kinded}

-- exposing keeps what is well formed
pub exposed_kinded : (g : Context) (s : Shape) → IsKindedContext g → IsKinded (kinds_of g) [] s → IsKinded (kinds_of g) [] (exposed g s)
exposed_kinded [] s f k = k
exposed_kinded (b ∷ g) (TypeVariable (Free p)) f k =
    IsKinded-added (kind_of b) (kinds_of g) [] (exposed g (followed b (length g) (TypeVariable (Free p))))
    (exposed_kinded g (followed b (length g) (TypeVariable (Free p))) f.1 (followed_kinded b g p f.0 k))
exposed_kinded (b ∷ g) (TypeVariable (Bound i)) f k = cc
exposed_kinded (b ∷ g) (BaseShape x) f k = subst (IsKinded (kinds_of (b ∷ g)) []) (sym (others_stay (b ∷ g) (BaseShape x) (λ v e. cc))) k
exposed_kinded (b ∷ g) AnyShape f k = subst (IsKinded (kinds_of (b ∷ g)) []) (sym (others_stay (b ∷ g) AnyShape (λ v e. cc))) k
exposed_kinded (b ∷ g) (FunctionShape t c u e) f k = subst (IsKinded (kinds_of (b ∷ g)) []) (sym (others_stay (b ∷ g) (FunctionShape t c u e) (λ v e. cc))) k
exposed_kinded (b ∷ g) (TypeFunctionShape t u e) f k = subst (IsKinded (kinds_of (b ∷ g)) []) (sym (others_stay (b ∷ g) (TypeFunctionShape t u e) (λ v e. cc))) k
exposed_kinded (b ∷ g) (BoxShape t c) f k = subst (IsKinded (kinds_of (b ∷ g)) []) (sym (others_stay (b ∷ g) (BoxShape t c) (λ v e. cc))) k
exposed_kinded (b ∷ g) (ExitShape t) f k = subst (IsKinded (kinds_of (b ∷ g)) []) (sym (others_stay (b ∷ g) (ExitShape t) (λ v e. cc))) k

-- a variable that has an entry: it is of the kind of terms, and its shape is well formed
pub has_kind : {g : Context} {v : Var} {s : Shape} {d : Set} → Has g v s d → IsOfKind (kinds_of g) [] v TermKind
has_kind {g} {v} {s} {d} h =
    subst (λ x. IsOfKind (kinds_of g) [] x TermKind) (sym h.is) (kind_of_entry g h.position (TermEntry s d) h.there)

pub has_kinded : {g : Context} {v : Var} {s : Shape} {d : Set} → IsKindedContext g → Has g v s d → IsKinded (kinds_of g) [] s × IsKindedSet (kinds_of g) [] d
has_kinded {g} {v} {s} {d} f h = entry_kinded g h.position (TermEntry s d) f h.there

pub has_exposed : {g : Context} {v : Var} {s x : Shape} {d : Set} → IsKindedContext g → Has g v s d → exposed g s ≡ x → IsKinded (kinds_of g) [] x
has_exposed {g} {v} {s} {x} {d} f h e = subst (IsKinded (kinds_of g) []) e (exposed_kinded g s f (has_kinded f h).0)

pub variable_set_kinded : {g : Context} {v : Var} {s : Shape} {d : Set} → Has g v s d → IsKindedSet (kinds_of g) [] (variable_set v)
variable_set_kinded {g} {v} h = single_kinded (kinds_of g) [] (Variable v) (has_kind h)

-- avoiding the newest variable
pub left_kinded : (g : Context) (t u v : CapturingType) → IsKindedSet (kinds_of g) [] t.set → IsKindedType (kinds_of (entry_of t ∷ g)) [] u
    → avoided_type Positive (length g) t.set u ≡ Some v → IsKindedType (kinds_of g) [] v
left_kinded g t u v c k e =
    IsKindedType-from (kinds_of g) [] v
    (scope_left g Positive t.shape t.set u v (IsKindedSet-test (kinds_of g) [] t.set c) (IsKindedType-test (kinds_of (entry_of t ∷ g)) [] u k) e)

module _ (base : Context) where
  pub notes_kinded : {g : Context} {passed : List Kind} {n : Note} {t : CapturingType} {m : Named} {qs : List Asked} → Notes (length base) g n t m qs
      → Inside base g passed → IsKindedNote (kinds_of base) passed n → IsKindedType (kinds_of g) [] t
      → IsKindedType (kinds_of g) [] m.type × IsKindedNote (kinds_of base) passed m.note
  notes_kinded notes-absent i k t = (t, tt)
  notes_kinded (notes-written {s = s} {c = c} b) i k t = (read_kinded i TypeSort (capturing s c) k, k)
  notes_kinded (notes-own {t = t} {s = s} b) i k tk = ((read_kinded i ShapeSort s k, tk.1), (k, written_kinded i SetSort t.set tk.1))

  pub regular : {g : Context} {passed : List Kind} {t : Term} {r : Result} {qs : List Asked} → Finds (length base) g t r qs
      → Inside base g passed → IsKindedContext g → IsKindedTerm (kinds_of base) passed t
      → IsKindedType (kinds_of g) [] r.type × IsKindedTerm (kinds_of base) passed r.completed
  regular (finds-variable h) i f k = (((has_kinded f h).0, variable_set_kinded h), k)
  regular (finds-literal {g = g}) i f k = ((tt, empty_kinded (kinds_of g) []), tt)
  regular {passed = passed} (finds-function {g = g} {takes = takes} {c = c} {body = body} {r = r} b) i f k =
      let p = read_kinded i TypeSort (capturing takes c) (k.0, k.1) in
      let x = regular b (deeper (entry_of (type_in g (capturing takes c))) i) (p, f) k.2 in
      let whole : IsKindedTerm (kinds_of base) passed (FunctionTerm takes c r.completed) = (k.0, k.1, x.1) in
      let closed = HasKinds-closed (length g) TermKind (kinds_of g) (length-kinds_of g) TypeSort r.type x.0 in
      (((p.0, p.1, closed.0, closed.1), read_kinded i SetSort _ (captured_variables_kinded (kinds_of base) passed (FunctionTerm takes c r.completed) whole)), whole)
  regular {passed = passed} (finds-type_function {g = g} {bound = bound} {body = body} {r = r} b) i f k =
      let p = read_kinded i ShapeSort bound k.0 in
      let x = regular b (deeper (TypeEntry (shape_in g bound)) i) (p, f) k.1 in
      let whole : IsKindedTerm (kinds_of base) passed (TypeFunctionTerm bound r.completed) = (k.0, x.1) in
      let closed = HasKinds-closed (length g) TypeKind (kinds_of g) (length-kinds_of g) TypeSort r.type x.0 in
      (((p, closed.0, closed.1), read_kinded i SetSort _ (captured_variables_kinded (kinds_of base) passed (TypeFunctionTerm bound r.completed) whole)), whole)
  regular (finds-box {g = g} h) i f k = ((((has_kinded f h).0, variable_set_kinded h), empty_kinded (kinds_of g) []), k)
  regular (finds-application {g = g} {w = w} {takes = takes} {gives = gives} {c = c} {e = e} h x h' b) i f k =
      let s = has_exposed f h x in (
        HasKinds-act TypeSort (putting (in_context g w)) (kinds_of g) (TermKind ∷ []) (kinds_of g) []
            (KeepsKinds-moving (put_variable (in_context g w)) (kinds_of g) (TermKind ∷ []) (kinds_of g) [] (MovesKinds-putting (kinds_of g) TermKind (in_context g w) (has_kind h')))
            [] (capturing gives e) (s.2, s.3),
        k,
      )
  regular (finds-type_application {g = g} {x = y} {bound = bound} {gives = gives} {e = e} h x b) i f k =
      let s = has_exposed f h x in (
        HasKinds-act TypeSort (putting_shape (shape_in g y)) (kinds_of g) (TypeKind ∷ []) (kinds_of g) []
            (KeepsKinds-putting_shape (kinds_of g) (shape_in g y) (read_kinded i ShapeSort y k.1)) [] (capturing gives e) (s.1, s.2),
        k,
      )
  regular (finds-unboxing {g = g} {set = set} h x) i f k = let s = has_exposed f h x in ((s.0, read_kinded i SetSort set k.0), k)
  regular (finds-unboxing_own {g = g} {c = c} h x) i f k = let s = has_exposed f h x in ((s.0, s.1), (written_kinded i SetSort c s.1, k.1))
  regular (finds-let {g = g} {r = r} {r' = r'} {named = named} {type = type} a n b e) i f k =
      let x = regular a i f k.1 in
      let y = notes_kinded n i k.0 x.0 in
      let z = regular b (deeper (entry_of named.type) i) (y.0, f) k.2 in
      (left_kinded g named.type r'.type type y.0.1 z.0 e, (y.1, x.1, z.1))
  regular (finds-primitive {g = g} a b) i f k = ((tt, empty_kinded (kinds_of g) []), k)
  regular (finds-choice {g = g} {x = x} {c = c} o a p b q) i f k =
      (read_kinded i TypeSort (capturing x c) k.0, (k.0, k.1, (regular a i f k.2).1, (regular b i f k.3).1))
  regular (finds-choice_own {g = g} {x = x} {r = r} {r' = r'} o a p b q) i f k =
      let y = regular a i f k.2 in
      let z = regular b i f k.3 in
      let both = union_kinded (kinds_of g) [] r.type.set r'.type.set y.0.1 z.0.1 in
      ((read_kinded i ShapeSort x k.0, both), ((k.0, written_kinded i SetSort (union r.type.set r'.type.set) both), k.1, y.1, z.1))
  regular (finds-repetition {g = g} a b) i f k = ((tt, empty_kinded (kinds_of g) []), k)
  regular (finds-operation {g = g} h x e o) i f k = ((tt, empty_kinded (kinds_of g) []), k)
  regular (finds-operation_alone {g = g} h x e) i f k = ((tt, empty_kinded (kinds_of g) []), k)
  regular (finds-boundary {g = g} {x = x} a p) i f k =
      let s = read_kinded i ShapeSort x k.0 in
      let y = regular a (deeper _ i) ((s, single_kinded (kinds_of g) [] Cap tt), f) k.1 in
      ((s, empty_kinded (kinds_of g) []), (k.0, y.1))
  regular (finds-exit {g = g} {x = x} {c = c} h e h' b) i f k = (read_kinded i TypeSort (capturing x c) (k.0, k.1), k)
