-- The completed and filled term has the filled type, for each form.
use Rattle.std.proofs.Common.{◌≡◌, ℕ, ◌<◌, ◌≤◌, List, [], ◌∷◌, ◌++◌, length, Some, refl, sym, ap, ◌∙◌, inl, inr}
use Rattle.cc_base.specs.declared.literal.Base.TheVariants as bases
use Rattle.cc_capture.specs.declared.var.Elem.TheVariants.{Cap}
use Rattle.cc_capture.specs.Sets.{empty, union}
use Rattle.cc_capture.proofs.Membership.{Member-union}
use Rattle.cc_core.specs.Shapes.{Shape, BaseShape, FunctionShape, capturing}
use Rattle.cc_core.specs.Terms.{Term}
use Rattle.cc_core.specs.Contexts.{TypeEntry, Context, lookup, entry_of}
use Rattle.cc_core.specs.Traversal.{act_note}
use Rattle.cc_core.specs.Substitution.{filling_in, filled, filled_set, filled_term}
use Rattle.cc_core.specs.Reading.{reading, read_term}
use Rattle.cc_core.specs.WellFormed.{Kind, TermKind, kinds_of}
use Rattle.cc_core.specs.Typing.{HasTyping, t-lit, t-prim, t-repeat, t-op, t-op-alone, t-sub}
use Rattle.cc_core.proofs.CapturedKinds.{empty_kinded, union_kinded}
use Rattle.cc_core.proofs.KindFacts.{IsKindedTerm}
use Rattle.cc_core.proofs.KindRespecting.{single_kinded}
use Rattle.cc_core.proofs.Sorts.{SetSort, ShapeSort, TypeSort}
use Rattle.cc_core.proofs.SubcapturingContexts.{IsKindedContext, IsKinded-added, IsKindedSet-added}
use Rattle.cc_core.proofs.SubcapturingLemmas.{subcaptures_subset}
use Rattle.cc_checking.specs.Outcomes.{Asked}
use Rattle.cc_checking.specs.Fillings.{Filling, filled_context, IsOverGlobals}
use Rattle.cc_checking.specs.Inference.{Result, in_context, set_in, shape_in, type_in, exit_entry}
use Rattle.cc_checking_laws.proofs.Findings.{below_all, Finds, finds-variable, finds-literal, finds-function, finds-type_function, finds-box, finds-application, finds-type_application, finds-unboxing, finds-unboxing_own, finds-let, finds-primitive, finds-choice, finds-choice_own, finds-repetition, finds-operation, finds-operation_alone, finds-boundary, finds-exit}
use Rattle.cc_checking_laws.proofs.ReadingKinds.{Inside, deeper, read_kinded}
use Rattle.cc_checking_laws.proofs.FoundTypes.{has_exposed, notes_kinded, left_kinded, regular}
use Rattle.cc_checking_laws.proofs.LeastFillings.{Member-filled, Member-from_filled}
use Rattle.cc_checking_laws.proofs.FilledSubtyping.{Serves, serves_parts, shapes_below}
use Rattle.cc_checking_laws.proofs.FilledTyping.{typing_as, fill_variable, fill_empty, read_fill, value, head, of_shape, fill_formed, compared, read_written, noted_typed, row_function, row_type_function, row_application, row_type_application, row_box, row_unboxing, row_let, row_choice, row_boundary, row_exit}

module _ (base : Context) (root : ℕ) (within : root ≤ length base) (f : Filling) (over : IsOverGlobals root f)
    (terms : (p : ℕ) → p < root → lookup (kinds_of base) p ≡ Some TermKind) where
  pub filled_typed : {g : Context} {passed : List Kind} {t : Term} {r : Result} {qs : List Asked} → Finds (length base) g t r qs
      → Inside base g passed → IsKindedContext g → IsKindedTerm (kinds_of base) passed t → Serves f qs
      → HasTyping (filled_context f g) (read_term (length g) (filled_term f r.completed)) (filled f r.type.shape) (filled_set f r.type.set)
  filled_typed (finds-variable {g = g} {v = v} {s = s} h) i k kt serves =
      typing_as refl refl (sym (fill_variable base root within f over terms (in_context g v))) (value base root within f over terms i k h)
  filled_typed (finds-literal {g = g}) i k kt serves = typing_as refl refl (sym (fill_empty base root within f over terms)) t-lit
  filled_typed (finds-function {g = g} {takes = takes} {c = c} {r = r} {qs = qs} b) i k kt serves =
      let p = read_kinded i TypeSort (capturing takes c) (kt.0, kt.1) in
      row_function base root within f over terms i k takes c r p
      (filled_typed b (deeper (entry_of (type_in g (capturing takes c))) i) (p, k) kt.2 (serves_parts f qs [] serves).0)
  filled_typed (finds-type_function {g = g} {bound = bound} {r = r} {qs = qs} b) i k kt serves =
      let p = read_kinded i ShapeSort bound kt.0 in
      row_type_function base root within f over terms i k bound r p
      (filled_typed b (deeper (TypeEntry (shape_in g bound)) i) (p, k) kt.1 (serves_parts f qs [] serves).0)
  filled_typed (finds-box h) i k kt serves = row_box base root within f over terms i k h
  filled_typed (finds-application {takes = takes} {gives = gives} {c = c} {e = e} {ds = ds} h x h' b) i k kt serves =
      row_application base root within f over terms i k takes gives c e ds h x h' b (serves_parts f (below_all ds) [] serves).0
  filled_typed (finds-type_application {x = y} {bound = bound} {gives = gives} {e = e} {ds = ds} h x b) i k kt serves =
      row_type_application base root within f over terms i k y bound gives e ds h x b (serves_parts f (below_all ds) [] serves).0 (read_kinded i ShapeSort y kt.1)
  filled_typed (finds-unboxing {g = g} {content = content} {c = c} {set = set} h x) i k kt serves =
      row_unboxing base root within f over terms i k content c (set_in g set) _ h x serves.0 serves.1.0 (read_kinded i SetSort set kt.0) (read_fill base root within f over terms SetSort (length g) set)
  filled_typed (finds-unboxing_own {g = g} {content = content} {c = c} h x) i k kt serves =
      row_unboxing base root within f over terms i k content c c _ h x (λ y m. subcaptures_subset (filled_context f g) (filled_set f c) (filled_set f c) (λ e l. l) y m) serves.0 (has_exposed k h x).1
      (read_written base root within f over terms i k c (has_exposed k h x).1)
  filled_typed (finds-let {g = g} {right = s} {r = r} {r' = r'} {named = named} {type = type} {qs = qs} {ps = ps} {qs' = qs'} a nt b e) i k kt serves =
      let p = serves_parts f qs (ps ++ (qs' ++ [])) serves in
      let p' = serves_parts f ps (qs' ++ []) p.1 in
      let p2 = serves_parts f qs' [] p'.1 in
      let x = regular base a i k kt.1 in
      let y = notes_kinded base nt i kt.0 x.0 in
      let z = regular base b (deeper (entry_of named.type) i) (y.0, k) kt.2 in
      let left = left_kinded g named.type r'.type type y.0.1 z.0 e in
      let right = noted_typed base root within f over terms i k nt kt.0 x.0 p'.0 (read_term (length g) (filled_term f r.completed)) (filled_typed a i k kt.1 p.0) in
      row_let base root within f over terms i k (act_note (reading (length g)) 0 (act_note (filling_in f) 0 named.note)) (read_term (length g) (filled_term f r.completed)) r'.completed named.type r'.type type y.0 z.0 e right.0 right.1
      (fill_formed base root within f over terms (deeper (entry_of named.type) i) (y.0, k) type (IsKinded-added TermKind (kinds_of g) [] type.shape left.0, IsKindedSet-added TermKind (kinds_of g) [] type.set left.1))
      (filled_typed b (deeper (entry_of named.type) i) (y.0, k) kt.2 p2.0)
  filled_typed (finds-primitive {g = g} {o = o} {v = v} {w = w} {ds = ds} {es = es} a b) i k kt serves =
      let p = serves_parts f (below_all ds) (below_all es ++ []) serves in
      let q = serves_parts f (below_all es) [] p.1 in
      typing_as refl refl (sym (fill_empty base root within f over terms))
      (t-prim (of_shape base root within f over terms i k v (BaseShape bases.Int) ds a p.0 tt) (of_shape base root within f over terms i k w (BaseShape bases.Int) es b q.0 tt))
  filled_typed (finds-choice {g = g} {x = x} {c = c} {v = v} {r = r} {r' = r'} {ds = ds} {es = es} {es' = es'} {qs = qs} {qs' = qs'} o a p b q) i k kt serves =
      let s = serves_parts f (below_all ds) _ serves in
      let s1 = serves_parts f (qs ++ (below_all es ++ [])) _ s.1 in
      let s2 = serves_parts f qs (below_all es ++ []) s1.0 in
      let s3 = serves_parts f (qs' ++ (below_all es' ++ [])) [] s1.1 in
      let s4 = serves_parts f qs' (below_all es' ++ []) s3.0 in
      let kx = read_kinded i TypeSort (capturing x c) kt.0 in
      row_choice base root within f over terms i k v _ _ _ _ (type_in g (capturing x c)) ds o s.0
      (read_fill base root within f over terms ShapeSort (length g) x) (read_fill base root within f over terms SetSort (length g) c)
      (compared base root within f over terms i k (read_term (length g) (filled_term f r.completed)) r.type (type_in g (capturing x c)) es (filled_typed a i k kt.2 s2.0) p (serves_parts f (below_all es) [] s2.1).0 kx)
      (compared base root within f over terms i k (read_term (length g) (filled_term f r'.completed)) r'.type (type_in g (capturing x c)) es' (filled_typed b i k kt.3 s4.0) q (serves_parts f (below_all es') [] s4.1).0 kx)
  filled_typed (finds-choice_own {g = g} {x = x} {v = v} {r = r} {r' = r'} {ds = ds} {es = es} {es' = es'} {qs = qs} {qs' = qs'} o a p b q) i k kt serves =
      let s = serves_parts f (below_all ds) _ serves in
      let s1 = serves_parts f (qs ++ (below_all es ++ [])) _ s.1 in
      let s2 = serves_parts f qs (below_all es ++ []) s1.0 in
      let s3 = serves_parts f (qs' ++ (below_all es' ++ [])) [] s1.1 in
      let s4 = serves_parts f qs' (below_all es' ++ []) s3.0 in
      let kx = read_kinded i ShapeSort x kt.0 in
      let y = regular base a i k kt.2 in
      let z = regular base b i k kt.3 in
      let both = union r.type.set r'.type.set in
      let kboth = union_kinded (kinds_of g) [] r.type.set r'.type.set y.0.1 z.0.1 in
      let wf = fill_formed base root within f over terms i k (capturing (shape_in g x) both) (kx, kboth) in
      row_choice base root within f over terms i k v _ _ _ _ (capturing (shape_in g x) both) ds o s.0
      (read_fill base root within f over terms ShapeSort (length g) x) (read_written base root within f over terms i k both kboth)
      (t-sub (filled_typed a i k kt.2 s2.0)
      (subcaptures_subset (filled_context f g) (filled_set f r.type.set) (filled_set f both)
      (λ e m. let m' = Member-from_filled f e r.type.set m in Member-filled f m'.0 e both ((Member-union m'.0 r.type.set r'.type.set).1 (inl m'.1)) m'.2))
      (shapes_below root f over g r.type.shape (shape_in g x) es p (serves_parts f (below_all es) [] s2.1).0) wf)
      (t-sub (filled_typed b i k kt.3 s4.0)
      (subcaptures_subset (filled_context f g) (filled_set f r'.type.set) (filled_set f both)
      (λ e m. let m' = Member-from_filled f e r'.type.set m in Member-filled f m'.0 e both ((Member-union m'.0 r.type.set r'.type.set).1 (inr m'.1)) m'.2))
      (shapes_below root f over g r'.type.shape (shape_in g x) es' q (serves_parts f (below_all es') [] s4.1).0) wf)
  filled_typed (finds-repetition {g = g} {v = v} {w = w} {ds = ds} {es = es} a b) i k kt serves =
      let p = serves_parts f (below_all ds) (below_all es ++ []) serves in
      let q = serves_parts f (below_all es) [] p.1 in
      let none = fill_empty base root within f over terms in
      let each : Shape = FunctionShape (BaseShape bases.Int) empty (BaseShape bases.Unit) empty in
      typing_as refl refl (sym none)
      (t-repeat (of_shape base root within f over terms i k v (BaseShape bases.Int) ds a p.0 tt)
      (typing_as refl (ap (λ c. FunctionShape (BaseShape bases.Int) c (BaseShape bases.Unit) (filled_set f empty)) none ∙ ap (λ c. FunctionShape (BaseShape bases.Int) empty (BaseShape bases.Unit) c) none) refl
      (of_shape base root within f over terms i k w each es b q.0 (tt, empty_kinded (kinds_of g) [], tt, empty_kinded (kinds_of g) (TermKind ∷ [])))))
  filled_typed (finds-operation {g = g} {o = o} {w = w} {base = taken} {ds = ds} h x e a) i k kt serves =
      typing_as refl refl (sym (fill_empty base root within f over terms))
      (t-op (head base root within f over terms i k h _ x) e (of_shape base root within f over terms i k w (BaseShape taken) ds a (serves_parts f (below_all ds) [] serves).0 tt))
  filled_typed (finds-operation_alone {g = g} {o = o} h x e) i k kt serves =
      typing_as refl refl (sym (fill_empty base root within f over terms)) (t-op-alone (head base root within f over terms i k h _ x) e)
  filled_typed (finds-boundary {g = g} {x = x} {r = r} {qs = qs} {ds = ds} a p) i k kt serves =
      let s = serves_parts f (qs ++ (below_all ds ++ [])) [] serves in
      let s1 = serves_parts f qs (below_all ds ++ []) s.0 in
      let kx = read_kinded i ShapeSort x kt.0 in
      let ke = single_kinded (kinds_of g) [] Cap tt in
      let inner = deeper (exit_entry (shape_in g x)) i in
      row_boundary base root within f over terms i k x r ds kx
      (fill_formed base root within f over terms inner ((kx, ke), k) (capturing (shape_in g x) empty) (IsKinded-added TermKind (kinds_of g) [] (shape_in g x) kx, empty_kinded (TermKind ∷ kinds_of g) []))
      (filled_typed a inner ((kx, ke), k) kt.1 s1.0) p (serves_parts f (below_all ds) [] s1.1).0
  filled_typed (finds-exit {g = g} {x = x} {c = c} {takes = takes} {ds = ds} h e h' b) i k kt serves =
      row_exit base root within f over terms i k x takes c ds h e h' b (serves_parts f (below_all ds) [] serves).0 (read_kinded i TypeSort (capturing x c) (kt.0, kt.1))
