-- The completed and filled term is inferred again in the filled context, with the filled type, and all that is asked holds.
use Rattle.std.proofs.Common.{◌≡◌, ℕ, ◌<◌, ◌≤◌, List, [], ◌∷◌, ◌++◌, length, Some, inl, inr}
use Rattle.cc_base.specs.declared.literal.Base.TheVariants as bases
use Rattle.cc_capture.specs.declared.var.Elem.TheVariants.{Cap}
use Rattle.cc_capture.specs.Sets.{empty, union}
use Rattle.cc_capture.proofs.Membership.{Member-union}
use Rattle.cc_core.specs.Shapes.{BaseShape, FunctionShape, capturing}
use Rattle.cc_core.specs.Terms.{Term}
use Rattle.cc_core.specs.Contexts.{TypeEntry, Context, lookup, entry_of}
use Rattle.cc_core.specs.Substitution.{filled_set, filled_type}
use Rattle.cc_core.specs.WellFormed.{Kind, TermKind, kinds_of}
use Rattle.cc_core.proofs.CapturedKinds.{union_kinded}
use Rattle.cc_core.proofs.KindFacts.{IsKindedTerm}
use Rattle.cc_core.proofs.KindRespecting.{single_kinded}
use Rattle.cc_core.proofs.Sorts.{SetSort, ShapeSort, TypeSort}
use Rattle.cc_core.proofs.SubcapturingContexts.{IsKindedContext}
use Rattle.cc_core.proofs.SubcapturingLemmas.{subcaptures_subset, subcaptures_reflexive}
use Rattle.cc_checking.specs.Outcomes.{Asked}
use Rattle.cc_checking.specs.Fillings.{Filling, filled_context, IsOverGlobals}
use Rattle.cc_checking.specs.Inference.{Result, set_in, shape_in, type_in, written_in, exit_entry}
use Rattle.cc_checking_laws.proofs.Findings.{below_all, Finds, finds-variable, finds-literal, finds-function, finds-type_function, finds-box, finds-application, finds-type_application, finds-unboxing, finds-unboxing_own, finds-let, finds-primitive, finds-choice, finds-choice_own, finds-repetition, finds-operation, finds-operation_alone, finds-boundary, finds-exit}
use Rattle.cc_checking_laws.proofs.ReadingKinds.{Inside, deeper, read_kinded}
use Rattle.cc_checking_laws.proofs.FoundTypes.{has_exposed, notes_kinded, regular}
use Rattle.cc_checking_laws.proofs.LeastFillings.{Member-filled, Member-from_filled}
use Rattle.cc_checking_laws.proofs.FilledSubtyping.{Serves, serves_parts, shapes_below}
use Rattle.cc_checking_laws.proofs.FilledComparisons.{types_compare, filled_types_compare}
use Rattle.cc_checking_laws.proofs.FilledRows.{Refound, in_filled, written_filled, operand_filled, again_variable, again_literal, again_function, again_type_function, again_box, again_application, again_type_application, again_unboxing, again_notes, again_let, again_primitive, again_choice, again_repetition, again_operation, again_operation_alone, again_boundary, again_exit}

module _ (base : Context) (root : ℕ) (within : root ≤ length base) (f : Filling) (over : IsOverGlobals root f)
    (terms : (p : ℕ) → p < root → lookup (kinds_of base) p ≡ Some TermKind) where
  pub fills : {g : Context} {passed : List Kind} {t : Term} {r : Result} {qs : List Asked} → Finds (length base) g t r qs
      → Inside base g passed → IsKindedContext g → IsKindedTerm (kinds_of base) passed t → Serves f qs
      → Refound (length base) f g r
  fills (finds-variable {v = v} h) i k kt serves = again_variable base root within f over terms i k v h
  fills (finds-literal {l = l}) i k kt serves = again_literal base root within f over terms i k l
  fills (finds-function {g = g} {takes = takes} {c = c} {r = r} {qs = qs} b) i k kt serves =
      again_function base root within f over terms i k takes c r
      (fills b (deeper (entry_of (type_in g (capturing takes c))) i) (read_kinded i TypeSort (capturing takes c) (kt.0, kt.1), k) kt.2 (serves_parts f qs [] serves).0)
  fills (finds-type_function {g = g} {bound = bound} {r = r} {qs = qs} b) i k kt serves =
      again_type_function base root within f over terms i k bound r
      (fills b (deeper (TypeEntry (shape_in g bound)) i) (read_kinded i ShapeSort bound kt.0, k) kt.1 (serves_parts f qs [] serves).0)
  fills (finds-box {v = v} h) i k kt serves = again_box base root within f over terms i k v h
  fills (finds-application {v = v} {w = w} {takes = takes} {gives = gives} {c = c} {e = e} {ds = ds} h x h' b) i k kt serves =
      again_application base root within f over terms i k v w takes gives c e ds h x h' b (serves_parts f (below_all ds) [] serves).0
  fills (finds-type_application {v = v} {x = y} {bound = bound} {gives = gives} {e = e} {ds = ds} h x b) i k kt serves =
      again_type_application base root within f over terms i k v y bound gives e ds h x b (serves_parts f (below_all ds) [] serves).0
  fills (finds-unboxing {g = g} {v = v} {content = content} {c = c} {set = set} h x) i k kt serves =
      again_unboxing base root within f over terms i k v content c (set_in g set) set h x (in_filled base root within f over terms i k SetSort set) serves.0 serves.1.0
  fills (finds-unboxing_own {g = g} {v = v} {content = content} {c = c} h x) i k kt serves =
      again_unboxing base root within f over terms i k v content c c (written_in (length base) g c) h x (written_filled base root within f over terms i k c (has_exposed k h x).1)
      (λ y m. subcaptures_reflexive (filled_context f g) (filled_set f c) y m) serves.0
  fills (finds-let {r = r} {r' = r'} {named = named} {type = type} {qs = qs} {ps = ps} {qs' = qs'} a nt b e) i k kt serves =
      let p = serves_parts f qs (ps ++ (qs' ++ [])) serves in
      let p' = serves_parts f ps (qs' ++ []) p.1 in
      let p2 = serves_parts f qs' [] p'.1 in
      let x = regular base a i k kt.1 in
      let y = notes_kinded base nt i kt.0 x.0 in
      again_let base root within f over terms i k r r' named type (fills a i k kt.1 p.0) (again_notes base root within f over terms i k nt x.0 p'.0)
      (fills b (deeper (entry_of named.type) i) (y.0, k) kt.2 p2.0) e
  fills (finds-primitive {o = o} {v = v} {w = w} {ds = ds} {es = es} a b) i k kt serves =
      let p = serves_parts f (below_all ds) (below_all es ++ []) serves in
      let q = serves_parts f (below_all es) [] p.1 in
      again_primitive base root within f over terms i k o v w
      (operand_filled base root within f over terms i k v (BaseShape bases.Int) ds a p.0) (operand_filled base root within f over terms i k w (BaseShape bases.Int) es b q.0)
  fills (finds-choice {g = g} {x = x} {c = c} {v = v} {r = r} {r' = r'} {ds = ds} {es = es} {es' = es'} {qs = qs} {qs' = qs'} o a p b q) i k kt serves =
      let s = serves_parts f (below_all ds) _ serves in
      let s1 = serves_parts f (qs ++ (below_all es ++ [])) _ s.1 in
      let s2 = serves_parts f qs (below_all es ++ []) s1.0 in
      let s3 = serves_parts f (qs' ++ (below_all es' ++ [])) [] s1.1 in
      let s4 = serves_parts f qs' (below_all es' ++ []) s3.0 in
      again_choice base root within f over terms i k x c v r r' (type_in g (capturing x c)) (in_filled base root within f over terms i k TypeSort (capturing x c))
      (operand_filled base root within f over terms i k v (BaseShape bases.Bool) ds o s.0)
      (fills a i k kt.2 s2.0) (filled_types_compare root f over g r.type (type_in g (capturing x c)) es p (serves_parts f (below_all es) [] s2.1).0)
      (fills b i k kt.3 s4.0) (filled_types_compare root f over g r'.type (type_in g (capturing x c)) es' q (serves_parts f (below_all es') [] s4.1).0)
  fills (finds-choice_own {g = g} {x = x} {v = v} {r = r} {r' = r'} {ds = ds} {es = es} {es' = es'} {qs = qs} {qs' = qs'} o a p b q) i k kt serves =
      let s = serves_parts f (below_all ds) _ serves in
      let s1 = serves_parts f (qs ++ (below_all es ++ [])) _ s.1 in
      let s2 = serves_parts f qs (below_all es ++ []) s1.0 in
      let s3 = serves_parts f (qs' ++ (below_all es' ++ [])) [] s1.1 in
      let s4 = serves_parts f qs' (below_all es' ++ []) s3.0 in
      let y = regular base a i k kt.2 in
      let z = regular base b i k kt.3 in
      let both = union r.type.set r'.type.set in
      let kboth = union_kinded (kinds_of g) [] r.type.set r'.type.set y.0.1 z.0.1 in
      let type = capturing (shape_in g x) both in
      again_choice base root within f over terms i k x (written_in (length base) g both) v r r' type
      (λ j. capturing (in_filled base root within f over terms i k ShapeSort x j) (written_filled base root within f over terms i k both kboth j))
      (operand_filled base root within f over terms i k v (BaseShape bases.Bool) ds o s.0)
      (fills a i k kt.2 s2.0)
      (types_compare (filled_context f g) (filled_type f r.type) (filled_type f type) (
        subcaptures_subset (filled_context f g) (filled_set f r.type.set) (filled_set f both)
            (λ e m. let m' = Member-from_filled f e r.type.set m in Member-filled f m'.0 e both ((Member-union m'.0 r.type.set r'.type.set).1 (inl m'.1)) m'.2),
        shapes_below root f over g r.type.shape (shape_in g x) es p (serves_parts f (below_all es) [] s2.1).0,
      ))
      (fills b i k kt.3 s4.0)
      (types_compare (filled_context f g) (filled_type f r'.type) (filled_type f type) (
        subcaptures_subset (filled_context f g) (filled_set f r'.type.set) (filled_set f both)
            (λ e m. let m' = Member-from_filled f e r'.type.set m in Member-filled f m'.0 e both ((Member-union m'.0 r.type.set r'.type.set).1 (inr m'.1)) m'.2),
        shapes_below root f over g r'.type.shape (shape_in g x) es' q (serves_parts f (below_all es') [] s4.1).0,
      ))
  fills (finds-repetition {v = v} {w = w} {ds = ds} {es = es} a b) i k kt serves =
      let p = serves_parts f (below_all ds) (below_all es ++ []) serves in
      let q = serves_parts f (below_all es) [] p.1 in
      again_repetition base root within f over terms i k v w
      (operand_filled base root within f over terms i k v (BaseShape bases.Int) ds a p.0)
      (operand_filled base root within f over terms i k w (FunctionShape (BaseShape bases.Int) empty (BaseShape bases.Unit) empty) es b q.0)
  fills (finds-operation {o = o} {v = v} {w = w} {base = taken} {ds = ds} h x e a) i k kt serves =
      again_operation base root within f over terms i k o v w taken h x e (operand_filled base root within f over terms i k w (BaseShape taken) ds a (serves_parts f (below_all ds) [] serves).0)
  fills (finds-operation_alone {o = o} {v = v} h x e) i k kt serves = again_operation_alone base root within f over terms i k o v h x e
  fills (finds-boundary {g = g} {x = x} {r = r} {qs = qs} {ds = ds} a p) i k kt serves =
      let s = serves_parts f (qs ++ (below_all ds ++ [])) [] serves in
      let s1 = serves_parts f qs (below_all ds ++ []) s.0 in
      again_boundary base root within f over terms i k x r
      (fills a (deeper (exit_entry (shape_in g x)) i) ((read_kinded i ShapeSort x kt.0, single_kinded (kinds_of g) [] Cap tt), k) kt.1 s1.0)
      (filled_types_compare root f over (exit_entry (shape_in g x) ∷ g) r.type (capturing (shape_in g x) empty) ds p (serves_parts f (below_all ds) [] s1.1).0)
  fills (finds-exit {x = x} {c = c} {v = v} {w = w} {takes = takes} {ds = ds} h e h' b) i k kt serves =
      again_exit base root within f over terms i k x c v w takes ds h e h' b (serves_parts f (below_all ds) [] serves).0
