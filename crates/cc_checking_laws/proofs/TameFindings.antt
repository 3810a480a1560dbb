-- What inference finds is tame, and what it asks is fit for a filling.
use Rattle.std.proofs.Common.{◌≡◌, ℕ, zero, suc, Bool, true, false, cond, List, [], ◌∷◌, ◌++◌, length, Some, None, refl, sym, ap, ◌∙◌, subst, inl, inr}
use Rattle.std.specs.Prelude.{nat_eq}
use Rattle.std.specs.Option.{option_map}
use Rattle.cc_base.specs.declared.literal.Base.TheVariants as bases
use Rattle.cc_capture.specs.declared.var.Var.{Var}
use Rattle.cc_capture.specs.declared.var.Var.TheVariants.{Bound, Free}
use Rattle.cc_capture.specs.declared.var.Elem.{Elem}
use Rattle.cc_capture.specs.declared.var.Elem.TheVariants.{Var as Variable, Cap, Hole}
use Rattle.cc_capture.specs.Sets.{Set, Member, empty, remove, union}
use Rattle.cc_capture.proofs.Membership.{Member-flat_image, Member-union, Member-empty, Member-remove, same_members}
use Rattle.cc_core.specs.Shapes.{Shape, BaseShape, AnyShape, TypeVariable, FunctionShape, TypeFunctionShape, BoxShape, ExitShape, CapturingType, capturing}
use Rattle.cc_core.specs.Terms.{Note, Term, VariableTerm, LiteralTerm, FunctionTerm, TypeFunctionTerm, BoxTerm, Application, TypeApplication, Unboxing, Let, Primitive, Conditional, Repetition, Operation, Boundary, Leave}
use Rattle.cc_core.specs.Contexts.{Bind, TermEntry, TypeEntry, Context, entry_of}
use Rattle.cc_core.specs.Substitution.{single, moving, put_variable, closed_variable, putting_shape}
use Rattle.cc_core.specs.Reading.{read_variable, written_variable}
use Rattle.cc_core.specs.Occurrences.{IsNoHole, HasNoHole, HasNoHoleInSet, Meets, without_holes}
use Rattle.cc_core.specs.WellFormed.{Kind, TermKind, kinds_of}
use Rattle.cc_core.specs.Captured.{captured_variables, variable_set, without_binder, outside, is_unused_value}
use Rattle.cc_core.proofs.CapturedKinds.{empty_kinded}
use Rattle.cc_core.proofs.KindFacts.{IsKinded, IsKindedType, IsKindedNote, IsKindedTerm}
use Rattle.cc_core.specs.Traversal.{act, act_set}
use Rattle.cc_core.proofs.KindRespecting.{single_kinded}
use Rattle.cc_core.proofs.Moving.{Member-single}
use Rattle.cc_core.proofs.Sorts.{ShapeSort, TypeSort}
use Rattle.cc_core.proofs.SubcapturingContexts.{IsKindedContext, IsKinded-added}
use Rattle.cc_checking.specs.Comparison.{Demand, demanded, TypesHaveDemands}
use Rattle.cc_checking.specs.Exposing.{followed, exposed}
use Rattle.cc_checking.specs.Avoidance.{Positive, Negative, avoided, avoided_set, is_free_in}
use Rattle.cc_checking.specs.Outcomes.{Asked, IsBelow, IsCapless}
use Rattle.cc_checking.specs.Inference.{Result, in_context, set_in, shape_in, type_in, written_in, Named, exit_entry}
use Rattle.cc_typing_laws.proofs.Avoiding.{both_some, map_some, unless_some, avoided_type_parts}
use Rattle.cc_core.specs.Holes.{HasHoleAloneOrNone}
use Rattle.cc_core.specs.Holes.{NoteHasNoHole, HolesAreOfParameters}
use Rattle.cc_checking_laws.proofs.Findings.{Has, below_all, Operand, Notes, notes-absent, notes-written, notes-own, Finds, finds-variable, finds-literal, finds-function, finds-type_function, finds-box, finds-application, finds-type_application, finds-unboxing, finds-unboxing_own, finds-let, finds-primitive, finds-choice, finds-choice_own, finds-repetition, finds-operation, finds-operation_alone, finds-boundary, finds-exit}
use Rattle.cc_checking_laws.proofs.ReadingKinds.{Inside, outermost, deeper, read_kinded}
use Rattle.cc_checking_laws.proofs.FoundTypes.{has_exposed, has_kinded, variable_set_kinded, notes_kinded, regular}
use Rattle.cc_checking_laws.proofs.Signatures.{avoided_set_closed, avoided_closed}
use Rattle.cc_checking_laws.proofs.Tameness.{Closed, Tame, closed_tame, closed_from, LeavesHoles, LeavesHoles-moving, LeavesHoles-putting_shape, act_set_closed, act_set_alone, act_closed, act_tame, TameEntry, TameContext, tame_entry, FitsIn, AllFitIn, fit_below, comparison_fits, types_fit}

-- sets without holes
pub no_hole_variable : (v : Var) → HasNoHoleInSet (variable_set v)
no_hole_variable v x m = subst IsNoHole (sym (Member-single x (Variable v) m)) tt

no_hole_empty : HasNoHoleInSet empty
no_hole_empty x m = absurd (Member-empty x m)

pub no_hole_union : (a b : Set) → HasNoHoleInSet a → HasNoHoleInSet b → HasNoHoleInSet (union a b)
no_hole_union a b p q x m = elim ((Member-union x a b).0 m) as (λ _. IsNoHole x) [ inl l ↦ p x l | inr r ↦ q x r ]

pub no_hole_outside : (c : Set) → HasNoHoleInSet c → HasNoHoleInSet (without_binder c)
no_hole_outside c k x m = let from = (Member-flat_image outside x c).0 m in by_element from.0 (k from.0 from.1) from.2
  where
    by_element : (e : Elem) → IsNoHole e → Member x (outside e) → IsNoHole x
    by_element (Variable (Bound zero)) n l = absurd (Member-empty x l)
    by_element (Variable (Bound (suc i))) n l = subst IsNoHole (sym (Member-single x (Variable (Bound i)) l)) tt
    by_element (Variable (Free p)) n l = subst IsNoHole (sym (Member-single x (Variable (Free p)) l)) tt
    by_element Cap n l = subst IsNoHole (sym (Member-single x Cap l)) tt
    by_element (Hole h) n l = absurd n

-- no hole is captured
captured_closed : (t : Term) → HolesAreOfParameters t → HasNoHoleInSet (captured_variables t)
captured_closed (VariableTerm v) k = no_hole_variable v
captured_closed (LiteralTerm l) k = no_hole_empty
captured_closed (FunctionTerm s c t) k = no_hole_outside (captured_variables t) (captured_closed t k.2)
captured_closed (TypeFunctionTerm s t) k = no_hole_outside (captured_variables t) (captured_closed t k.1)
captured_closed (BoxTerm v) k = no_hole_empty
captured_closed (Application v w) k = no_hole_union (variable_set v) (variable_set w) (no_hole_variable v) (no_hole_variable w)
captured_closed (TypeApplication v s) k = no_hole_variable v
captured_closed (Unboxing (Some c) v) k = no_hole_union c (variable_set v) k (no_hole_variable v)
captured_closed (Unboxing None v) k = no_hole_union empty (variable_set v) no_hole_empty (no_hole_variable v)
captured_closed (Let n s t) k = by_test (is_unused_value s (captured_variables t)) (no_hole_outside (captured_variables t) (captured_closed t k.2)) (captured_closed s k.1)
  where
    by_test : (b : Bool) → HasNoHoleInSet (without_binder (captured_variables t)) → HasNoHoleInSet (captured_variables s)
        → HasNoHoleInSet (cond b (without_binder (captured_variables t)) (union (captured_variables s) (without_binder (captured_variables t))))
    by_test true p q = p
    by_test false p q = no_hole_union (captured_variables s) (without_binder (captured_variables t)) q p
captured_closed (Primitive o v w) k = no_hole_union (variable_set v) (variable_set w) (no_hole_variable v) (no_hole_variable w)
captured_closed (Conditional n v s t) k =
    no_hole_union (variable_set v) (union (captured_variables s) (captured_variables t)) (no_hole_variable v)
    (no_hole_union (captured_variables s) (captured_variables t) (captured_closed s k.1) (captured_closed t k.2))
captured_closed (Repetition v w) k = no_hole_union (variable_set v) (variable_set w) (no_hole_variable v) (no_hole_variable w)
captured_closed (Operation o v (Some w)) k = no_hole_union (variable_set v) (variable_set w) (no_hole_variable v) (no_hole_variable w)
captured_closed (Operation o v None) k = no_hole_union (variable_set v) empty (no_hole_variable v) no_hole_empty
captured_closed (Boundary s t) k = no_hole_outside (captured_variables t) (captured_closed t k.1)
captured_closed (Leave s c v w) k = no_hole_union (variable_set v) (variable_set w) (no_hole_variable v) (no_hole_variable w)

-- exposing keeps shapes tame
followed_tame : (b : Bind) (n : ℕ) (s : Shape) → TameEntry b → Tame s → Tame (followed b n s)
followed_tame (TermEntry x c) n s t k = k
followed_tame (TypeEntry b) n (TypeVariable (Free q)) t k = by_test (nat_eq q n)
  where
    by_test : (x : Bool) → Tame (cond x b (TypeVariable (Free q)))
    by_test true = closed_tame b t
    by_test false = tt
followed_tame (TypeEntry b) n (TypeVariable (Bound i)) t k = k
followed_tame (TypeEntry b) n (BaseShape x) t k = k
followed_tame (TypeEntry b) n AnyShape t k = k
followed_tame (TypeEntry b) n (FunctionShape x c u e) t k = k
followed_tame (TypeEntry b) n (TypeFunctionShape x u e) t k = k
followed_tame (TypeEntry b) n (BoxShape x c) t k = k
followed_tame (TypeEntry b) n (ExitShape x) t k = k

exposed_tame : (g : Context) (s : Shape) → TameContext g → Tame s → Tame (exposed g s)
exposed_tame [] s t k = k
exposed_tame (b ∷ g) s t k = exposed_tame g (followed b (length g) s) t.1 (followed_tame b (length g) s t.0 k)

has_tame : {g : Context} {v : Var} {s : Shape} {d : Set} → TameContext g → Has g v s d → Tame s
has_tame {g} {v} {s} {d} t h = (tame_entry g h.position (TermEntry s d) t h.there).0

head_tame : {g : Context} {v : Var} {s : Shape} {d : Set} (x : Shape) → TameContext g → Has g v s d → exposed g s ≡ x → Tame x
head_tame {g} {v} {s} x t h e = subst Tame e (exposed_tame g s t (has_tame t h))

-- avoiding keeps types tame
pub closed_to : (d : ℕ) (s : Shape) → Closed s → Meets without_holes d s
closed_to d (BaseShape b) k = tt
closed_to d AnyShape k = tt
closed_to d (TypeVariable v) k = tt
closed_to d (FunctionShape t c u e) k = (closed_to d t k.0, k.1, closed_to (suc d) u k.2, k.3)
closed_to d (TypeFunctionShape b u e) k = (closed_to d b k.0, closed_to (suc d) u k.1, k.2)
closed_to d (BoxShape t c) k = (closed_to d t k.0, k.1)
closed_to d (ExitShape t) k = closed_to d t k

removed_alone : (p : ℕ) (d c : Set) → HasNoHoleInSet d → HasHoleAloneOrNone c → HasHoleAloneOrNone (avoided_set Negative p d c)
removed_alone p d c kd (inl k) = inl (avoided_set_closed Negative p d c kd k)
removed_alone p d c kd (inr (h, is)) =
    inr (
      h,
      ap (remove (Variable (Free p))) is
          ∙ same_members (remove (Variable (Free p)) (single (Hole h))) (single (Hole h))
          (λ e m. ((Member-remove e (Variable (Free p)) (single (Hole h))).0 m).1)
          (λ e m. (Member-remove e (Variable (Free p)) (single (Hole h))).1 ((λ same. let clash : Hole h ≡ Variable (Free p) = sym (Member-single e (Hole h) m) ∙ same in cc), m)),
    )

avoided_tame : (p : ℕ) (d : Set) → HasNoHoleInSet d → (s r : Shape) → Tame s → avoided Positive p d s ≡ Some r → Tame r
avoided_tame p d kd (BaseShape b) r k e = let is : BaseShape b ≡ r = cc in subst Tame is k
avoided_tame p d kd AnyShape r k e = let is : AnyShape ≡ r = cc in subst Tame is k
avoided_tame p d kd (TypeVariable v) r k e = let is : TypeVariable v ≡ r = cc in subst Tame is k
avoided_tame p d kd (FunctionShape t c u x) r k e =
    let parts = both_some (avoided Negative p d t) (avoided Positive p d u) (λ t' u'. FunctionShape t' (avoided_set Negative p d c) u' (avoided_set Positive p d x)) r e in
    subst Tame (sym parts.4) (
      closed_from 0 parts.0 (avoided_closed Negative p d kd 0 t parts.0 (closed_to 0 t k.0) parts.2),
      removed_alone p d c kd k.1,
      avoided_tame p d kd u parts.1 k.2 parts.3,
      avoided_set_closed Positive p d x kd k.3,
    )
avoided_tame p d kd (TypeFunctionShape b u x) r k e =
    let unfree = unless_some (is_free_in p b) (option_map (λ u'. TypeFunctionShape b u' (avoided_set Positive p d x)) (avoided Positive p d u)) r e in
    let parts = map_some (avoided Positive p d u) (λ u'. TypeFunctionShape b u' (avoided_set Positive p d x)) r unfree.1 in
    subst Tame (sym parts.2) (k.0, avoided_tame p d kd u parts.0 k.1 parts.1, avoided_set_closed Positive p d x kd k.2)
avoided_tame p d kd (BoxShape t c) r k e =
    let parts = map_some (avoided Positive p d t) (λ t'. BoxShape t' (avoided_set Positive p d c)) r e in
    subst Tame (sym parts.2) (avoided_tame p d kd t parts.0 k.0 parts.1, avoided_set_closed Positive p d c kd k.1)
avoided_tame p d kd (ExitShape u) r k e =
    let unfree = unless_some (is_free_in p u) (Some (ExitShape u)) r e in
    let is : ExitShape u ≡ r = cc in subst Tame is k

-- what is asked is fit for the base
abbrev pub AskedFits : Context → Asked → Type 0
AskedFits base (IsBelow d) = FitsIn base d
AskedFits base (IsCapless c) = Unit {0}

abbrev pub AllAskedFit : Context → List Asked → Type 0
AllAskedFit base [] = Unit {0}
AllAskedFit base (q ∷ qs) = AskedFits base q × AllAskedFit base qs

pub asked_both : (base : Context) (a b : List Asked) → AllAskedFit base a → AllAskedFit base b → AllAskedFit base (a ++ b)
asked_both base [] b p q = q
asked_both base (x ∷ a) b p q = (p.0, asked_both base a b p.1 q)

pub fit_inside : {base g : Context} {passed : List Kind} → Inside base g passed → (d : Demand) → FitsIn g d → FitsIn base d
fit_inside outermost d f = f
fit_inside (deeper {g = g} b i) d f = fit_inside i d (fit_below g b d f)

pub demands_asked : {base g : Context} {passed : List Kind} → Inside base g passed → (ds : List Demand) → AllFitIn g ds → AllAskedFit base (below_all ds ++ [])
demands_asked i [] f = tt
demands_asked i (d ∷ ds) f = (fit_inside i d f.0, demands_asked i ds f.1)

pub record TameFound (base : Context) (r : Result) (qs : List Asked) : Type 0 where
  pub shape : Tame r.type.shape
  pub set : HasNoHoleInSet r.type.set
  pub completed : HolesAreOfParameters r.completed
  pub fits : AllAskedFit base qs

-- reading, writing and closing leave holes where they are
holes_read : (n : ℕ) → LeavesHoles (moving (read_variable n))
holes_read n = LeavesHoles-moving (read_variable n)

read_closed : (g : Context) (s : Shape) → HasNoHole s → Closed (shape_in g s)
read_closed g s k = act_closed (moving (read_variable (length g))) (holes_read (length g)) 0 s (closed_from 0 s k)

pub read_set_closed : (g : Context) (c : Set) → HasNoHoleInSet c → HasNoHoleInSet (set_in g c)
read_set_closed g c k = act_set_closed (moving (read_variable (length g))) (holes_read (length g)) 0 c k

read_set_alone : (g : Context) (c : Set) → HasHoleAloneOrNone c → HasHoleAloneOrNone (set_in g c)
read_set_alone g c k = act_set_alone (moving (read_variable (length g))) (holes_read (length g)) 0 c k

written_closed : (root : ℕ) (g : Context) (c : Set) → HasNoHoleInSet c → HasNoHoleInSet (written_in root g c)
written_closed root g c k = act_set_closed (moving (written_variable root (length g))) (LeavesHoles-moving (written_variable root (length g))) 0 c k

closed_type_tame : (n : ℕ) (s : Shape) → Tame s → Tame (act (moving (closed_variable n)) 0 s)
closed_type_tame n s k = act_tame (moving (closed_variable n)) (LeavesHoles-moving (closed_variable n)) 0 s k

closed_set_none : (n : ℕ) (c : Set) → HasNoHoleInSet c → HasNoHoleInSet (act_set (moving (closed_variable n)) 0 c)
closed_set_none n c k = act_set_closed (moving (closed_variable n)) (LeavesHoles-moving (closed_variable n)) 0 c k

module _ (base : Context) where
  pub notes_tame : {g : Context} {passed : List Kind} {n : Note} {t : CapturingType} {m : Named} {ps : List Asked} → Notes (length base) g n t m ps → Inside base g passed → IsKindedContext g → TameContext g
      → IsKindedType (kinds_of g) [] t → IsKindedNote (kinds_of base) passed n → NoteHasNoHole n → Tame t.shape → HasNoHoleInSet t.set
      → (Tame m.type.shape × HasNoHoleInSet m.type.set) × (NoteHasNoHole m.note × AllAskedFit base ps)
  notes_tame notes-absent i k tg kt kn h ts tc = ((ts, tc), (tt, tt))
  notes_tame {g} (notes-written {t = t} {s = s} {c = c} {ds = ds} b) i k tg kt kn h ts tc = (
    (closed_tame (shape_in g s) (read_closed g s h.0), read_set_closed g c h.1),
    (h, demands_asked i ds (types_fit b.0 g t (type_in g (capturing s c)) ds b.1 k tg kt (read_kinded i TypeSort (capturing s c) kn) ts (read_closed g s h.0) (inl (read_set_closed g c h.1)))),
  )
  notes_tame {g} (notes-own {t = t} {s = s} {ds = ds} b) i k tg kt kn h ts tc = (
    (closed_tame (shape_in g s) (read_closed g s h), tc),
    ((h, written_closed (length base) g t.set tc), demands_asked i ds (comparison_fits b.0 g t.shape (shape_in g s) ds b.1 k tg kt.0 (read_kinded i ShapeSort s kn) ts (read_closed g s h))),
  )

  operand_fits : {g : Context} {passed : List Kind} → Inside base g passed → IsKindedContext g → TameContext g → (v : Var) (s : Shape) (ds : List Demand) → Operand g v s ds → IsKinded (kinds_of g) [] s → Closed s
      → AllFitIn g ds
  operand_fits {g} i k tg v s ds o ks cs = comparison_fits o.demands.0 g o.shape s ds o.demands.1 k tg (has_kinded k o.has).0 ks (has_tame tg o.has) cs

  given_fits : {g : Context} {passed : List Kind} {v : Var} {s : Shape} {d : Set} → Inside base g passed → IsKindedContext g → TameContext g → Has g v s d → (t : CapturingType) (ds : List Demand) → TypesHaveDemands g (capturing s (variable_set v)) t ds
      → IsKindedType (kinds_of g) [] t → Closed t.shape → HasHoleAloneOrNone t.set → AllFitIn g ds
  given_fits {g} {v = v} {s = s} i k tg h t ds b kt ct ca = types_fit b.0 g (capturing s (variable_set v)) t ds b.1 k tg ((has_kinded k h).0, variable_set_kinded h) kt (has_tame tg h) ct ca

  two_asked : {g : Context} {passed : List Kind} → Inside base g passed → (ds es : List Demand) → AllFitIn g ds → AllFitIn g es → AllAskedFit base (below_all ds ++ (below_all es ++ []))
  two_asked i [] es p q = demands_asked i es q
  two_asked i (d ∷ ds) es p q = (fit_inside i d p.0, two_asked i ds es p.1 q)

  one_then : {g : Context} {passed : List Kind} → Inside base g passed → (ds : List Demand) (qs : List Asked) → AllFitIn g ds → AllAskedFit base qs → AllAskedFit base (below_all ds ++ qs)
  one_then i [] qs p q = q
  one_then i (d ∷ ds) qs p q = (fit_inside i d p.0, one_then i ds qs p.1 q)

  pub tame : {g : Context} {passed : List Kind} {t : Term} {r : Result} {qs : List Asked} → Finds (length base) g t r qs → Inside base g passed → IsKindedContext g → IsKindedTerm (kinds_of base) passed t
      → TameContext g → HolesAreOfParameters t → TameFound base r qs
  tame (finds-variable {g = g} {v = v} h) i k kt tg ht = record { shape = has_tame tg h; set = no_hole_variable (in_context g v); completed = tt; fits = tt }
  tame finds-literal i k kt tg ht = record { shape = tt; set = no_hole_empty; completed = tt; fits = tt }
  tame (finds-function {g = g} {takes = takes} {c = c} {r = r} {qs = qs} b) i k kt tg ht =
      let p = read_kinded i TypeSort (capturing takes c) (kt.0, kt.1) in
      let x = tame b (deeper (entry_of (type_in g (capturing takes c))) i) (p, k) kt.2 ((closed_tame (shape_in g takes) (read_closed g takes ht.0), read_set_alone g c ht.1), tg) ht.2 in
      record {
        shape = (read_closed g takes ht.0, read_set_alone g c ht.1, closed_type_tame (length g) r.type.shape x.shape, closed_set_none (length g) r.type.set x.set);
        set = read_set_closed g (captured_variables (FunctionTerm takes c r.completed)) (captured_closed (FunctionTerm takes c r.completed) (ht.0, ht.1, x.completed));
        completed = (ht.0, ht.1, x.completed);
        fits = asked_both base qs [] x.fits tt;
      }
  tame (finds-type_function {g = g} {bound = bound} {r = r} {qs = qs} b) i k kt tg ht =
      let p = read_kinded i ShapeSort bound kt.0 in
      let x = tame b (deeper (TypeEntry (shape_in g bound)) i) (p, k) kt.1 (read_closed g bound ht.0, tg) ht.1 in
      record {
        shape = (read_closed g bound ht.0, closed_type_tame (length g) r.type.shape x.shape, closed_set_none (length g) r.type.set x.set);
        set = read_set_closed g (captured_variables (TypeFunctionTerm bound r.completed)) (captured_closed (TypeFunctionTerm bound r.completed) (ht.0, x.completed));
        completed = (ht.0, x.completed);
        fits = asked_both base qs [] x.fits tt;
      }
  tame (finds-box {g = g} {v = v} h) i k kt tg ht = record { shape = (has_tame tg h, no_hole_variable (in_context g v)); set = no_hole_empty; completed = tt; fits = tt }
  tame (finds-application {g = g} {w = w} {takes = takes} {gives = gives} {c = c} {e = e} {ds = ds} h x h' b) i k kt tg ht =
      let s = head_tame (FunctionShape takes c gives e) tg h x in
      let ks = has_exposed k h x in
      record {
        shape = act_tame (moving (put_variable (in_context g w))) (LeavesHoles-moving (put_variable (in_context g w))) 0 gives s.2;
        set = act_set_closed (moving (put_variable (in_context g w))) (LeavesHoles-moving (put_variable (in_context g w))) 0 e s.3;
        completed = tt;
        fits = demands_asked i ds (given_fits i k tg h' (capturing takes c) ds b (ks.0, ks.1) s.0 s.1);
      }
  tame (finds-type_application {g = g} {x = y} {bound = bound} {gives = gives} {e = e} {ds = ds} h x b) i k kt tg ht =
      let s = head_tame (TypeFunctionShape bound gives e) tg h x in
      let ks = has_exposed k h x in
      let cy = read_closed g y ht in
      record {
        shape = act_tame (putting_shape (shape_in g y)) (LeavesHoles-putting_shape (shape_in g y) cy) 0 gives s.1;
        set = act_set_closed (putting_shape (shape_in g y)) (LeavesHoles-putting_shape (shape_in g y) cy) 0 e s.2;
        completed = ht;
        fits = demands_asked i ds (comparison_fits b.0 g (shape_in g y) bound ds b.1 k tg (read_kinded i ShapeSort y kt.1) ks.0 (closed_tame (shape_in g y) cy) s.0);
      }
  tame (finds-unboxing {g = g} {content = content} {c = c} {set = set} h x) i k kt tg ht =
      let s = head_tame (BoxShape content c) tg h x in
      let ks = has_exposed k h x in
      record {
        shape = s.0;
        set = read_set_closed g set ht;
        completed = ht;
        fits = (fit_inside i (demanded g c (set_in g set)) (record { later = []; is = refl; formed = k; left = ks.1; right = inl (read_set_closed g set ht) }), (tt, tt));
      }
  tame (finds-unboxing_own {g = g} {content = content} {c = c} h x) i k kt tg ht =
      let s = head_tame (BoxShape content c) tg h x in
      record { shape = s.0; set = s.1; completed = written_closed (length base) g c s.1; fits = (tt, tt) }
  tame (finds-let {g = g} {r = r} {r' = r'} {named = named} {type = type} {qs = qs} {ps = ps} {qs' = qs'} a nt b e) i k kt tg ht =
      let x = tame a i k kt.1 tg ht.1 in
      let kx = (regular base a i k kt.1).0 in
      let y = notes_tame nt i k tg kx kt.0 ht.0 x.shape x.set in
      let ky = (notes_kinded base nt i kt.0 kx).0 in
      let z = tame b (deeper (entry_of named.type) i) (ky, k) kt.2 ((y.0.0, inl y.0.1), tg) ht.2 in
      let parts = avoided_type_parts Positive (length g) named.type.set r'.type type e in
      record {
        shape = avoided_tame (length g) named.type.set y.0.1 r'.type.shape type.shape z.shape parts.0;
        set = subst HasNoHoleInSet parts.1 (avoided_set_closed Positive (length g) named.type.set r'.type.set y.0.1 z.set);
        completed = (y.1.0, x.completed, z.completed);
        fits = asked_both base qs (ps ++ (qs' ++ [])) x.fits (asked_both base ps (qs' ++ []) y.1.1 (asked_both base qs' [] z.fits tt));
      }
  tame (finds-primitive {v = v} {w = w} {ds = ds} {es = es} a b) i k kt tg ht =
      record { shape = tt; set = no_hole_empty; completed = tt; fits = two_asked i ds es (operand_fits i k tg v (BaseShape bases.Int) ds a tt tt) (operand_fits i k tg w (BaseShape bases.Int) es b tt tt) }
  tame (finds-choice {g = g} {x = x} {c = c} {v = v} {r = r} {r' = r'} {ds = ds} {es = es} {es' = es'} {qs = qs} {qs' = qs'} o a p b q) i k kt tg ht =
      let y = tame a i k kt.2 tg ht.1 in
      let z = tame b i k kt.3 tg ht.2 in
      let ky = (regular base a i k kt.2).0 in
      let kz = (regular base b i k kt.3).0 in
      let kx = read_kinded i TypeSort (capturing x c) kt.0 in
      let type : CapturingType = type_in g (capturing x c) in
      record {
        shape = closed_tame (shape_in g x) (read_closed g x ht.0.0);
        set = read_set_closed g c ht.0.1;
        completed = (ht.0, y.completed, z.completed);
        fits =
            one_then i ds _ (operand_fits i k tg v (BaseShape bases.Bool) ds o tt tt)
            (asked_both base (qs ++ (below_all es ++ [])) _ (asked_both base qs (below_all es ++ []) y.fits (demands_asked i es (types_fit p.0 g r.type type es p.1 k tg ky kx y.shape (read_closed g x ht.0.0) (inl (read_set_closed g c ht.0.1)))))
            (asked_both base (qs' ++ (below_all es' ++ [])) [] (asked_both base qs' (below_all es' ++ []) z.fits (demands_asked i es' (types_fit q.0 g r'.type type es' q.1 k tg kz kx z.shape (read_closed g x ht.0.0) (inl (read_set_closed g c ht.0.1))))) tt));
      }
  tame (finds-choice_own {g = g} {x = x} {v = v} {r = r} {r' = r'} {ds = ds} {es = es} {es' = es'} {qs = qs} {qs' = qs'} o a p b q) i k kt tg ht =
      let y = tame a i k kt.2 tg ht.1 in
      let z = tame b i k kt.3 tg ht.2 in
      let ky = (regular base a i k kt.2).0 in
      let kz = (regular base b i k kt.3).0 in
      let kx = read_kinded i ShapeSort x kt.0 in
      let both = no_hole_union r.type.set r'.type.set y.set z.set in
      record {
        shape = closed_tame (shape_in g x) (read_closed g x ht.0);
        set = both;
        completed = ((ht.0, written_closed (length base) g (union r.type.set r'.type.set) both), y.completed, z.completed);
        fits =
            one_then i ds _ (operand_fits i k tg v (BaseShape bases.Bool) ds o tt tt)
            (asked_both base (qs ++ (below_all es ++ [])) _ (asked_both base qs (below_all es ++ []) y.fits (demands_asked i es (comparison_fits p.0 g r.type.shape (shape_in g x) es p.1 k tg ky.0 kx y.shape (read_closed g x ht.0))))
            (asked_both base (qs' ++ (below_all es' ++ [])) [] (asked_both base qs' (below_all es' ++ []) z.fits (demands_asked i es' (comparison_fits q.0 g r'.type.shape (shape_in g x) es' q.1 k tg kz.0 kx z.shape (read_closed g x ht.0)))) tt));
      }
  tame (finds-repetition {g = g} {v = v} {w = w} {ds = ds} {es = es} a b) i k kt tg ht =
      record {
        shape = tt;
        set = no_hole_empty;
        completed = tt;
        fits = two_asked i ds es (operand_fits i k tg v (BaseShape bases.Int) ds a tt tt)
            (operand_fits i k tg w (FunctionShape (BaseShape bases.Int) empty (BaseShape bases.Unit) empty) es b (tt, empty_kinded (kinds_of g) [], tt, empty_kinded (kinds_of g) (TermKind ∷ [])) (tt, no_hole_empty, tt, no_hole_empty));
      }
  tame (finds-operation {w = w} {base = taken} {ds = ds} h x e a) i k kt tg ht =
      record { shape = tt; set = no_hole_empty; completed = tt; fits = demands_asked i ds (operand_fits i k tg w (BaseShape taken) ds a tt tt) }
  tame (finds-operation_alone h x e) i k kt tg ht = record { shape = tt; set = no_hole_empty; completed = tt; fits = tt }
  tame (finds-boundary {g = g} {x = x} {r = r} {qs = qs} {ds = ds} a p) i k kt tg ht =
      let kx = read_kinded i ShapeSort x kt.0 in
      let ke = single_kinded (kinds_of g) [] Cap tt in
      let inner = deeper (exit_entry (shape_in g x)) i in
      let cx = read_closed g x ht.0 in
      let cap : HasNoHoleInSet (single Cap) = λ y m. subst IsNoHole (sym (Member-single y Cap m)) tt in
      let y = tame a inner ((kx, ke), k) kt.1 ((cx, inl cap), tg) ht.1 in
      let ky = (regular base a inner ((kx, ke), k) kt.1).0 in
      record {
        shape = closed_tame (shape_in g x) cx;
        set = no_hole_empty;
        completed = (ht.0, y.completed);
        fits = asked_both base (qs ++ (below_all ds ++ [])) []
            (asked_both base qs (below_all ds ++ []) y.fits
            (demands_asked inner ds (types_fit p.0 (exit_entry (shape_in g x) ∷ g) r.type (capturing (shape_in g x) empty) ds p.1 ((kx, ke), k) ((cx, inl cap), tg) ky
            (IsKinded-added TermKind (kinds_of g) [] (shape_in g x) kx, empty_kinded (TermKind ∷ kinds_of g) []) y.shape cx (inl no_hole_empty)))) tt;
      }
  tame (finds-exit {g = g} {x = x} {c = c} {takes = takes} {ds = ds} h e h' b) i k kt tg ht =
      let s = head_tame (ExitShape takes) tg h e in
      let ks = has_exposed k h e in
      record {
        shape = closed_tame (shape_in g x) (read_closed g x ht.0);
        set = read_set_closed g c ht.1;
        completed = ht;
        fits = demands_asked i ds (given_fits i k tg h' (capturing takes empty) ds b (ks, empty_kinded (kinds_of g) []) s (inl no_hole_empty));
      }
