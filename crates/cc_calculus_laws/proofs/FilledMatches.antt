-- Where the filled sides are below each other, the comparison matches, and the filling serves what it demands.
use Rattle.std.proofs.Common.{◌≡◌, ◌⊎◌, ℕ, zero, suc, true, false, cond, List, [], ◌∷◌, ◌++◌, length, Option, Some, None, refl, sym, ap, ◌∙◌, subst, inl, inr, arith}
use Rattle.std.specs.Option.{option_map}
use Rattle.std.proofs.lemmas.Bool.{both_ways}
use Rattle.cc_base.specs.declared.literal.Base.{Base}
use Rattle.cc_capture.specs.declared.var.Var.{Var}
use Rattle.cc_capture.specs.declared.var.Var.TheVariants.{Bound, Free}
use Rattle.cc_capture.specs.Sets.{Set}
use Rattle.cc_core.specs.Shapes.{Shape, BaseShape, AnyShape, TypeVariable, FunctionShape, TypeFunctionShape, BoxShape, ExitShape, CapturingType, capturing}
use Rattle.cc_core.specs.Contexts.{Bind, TermEntry, TypeEntry, Context, lookup}
use Rattle.cc_core.specs.Traversal.{act, act_set}
use Rattle.cc_core.specs.Substitution.{filling_in, filled, filled_set, filled_type, opened, opened_set, opened_type, put_variable, moving}
use Rattle.cc_core.specs.Subcapturing.{SubcapturesSet}
use Rattle.cc_core.specs.Subtyping.{Subtypes, SubtypesType}
use Rattle.cc_core.specs.Equality.{same_shape}
use Rattle.cc_core.specs.WellFormed.{kinds_of}
use Rattle.cc_core.proofs.KindFacts.{IsKinded, IsKindedType, IsKinded-test}
use Rattle.cc_core.proofs.Lookups.{lookup-map}
use Rattle.cc_core.proofs.Shifting.{shift}
use Rattle.cc_core.proofs.Sorts.{SetSort, ShapeSort}
use Rattle.cc_core.proofs.SubcapturingContexts.{IsKindedContext}
use Rattle.cc_core.proofs.SubcapturingLemmas.{subcaptures_reflexive}
use Rattle.cc_checking.proofs.ShapeEquality.{same_shape-itself}
use Rattle.cc_checking.specs.Comparison.{Demand, demanded, Comparison, Unfinished, Mismatch, Matches, and_then, Comparing, types_compared, bound_in, bound_compared, type_function_compared, is_any, by_form, comparison, HasDemands, TypesHaveDemands}
use Rattle.cc_checking.specs.Fillings.{Filling, filled_entry, filled_context, IsOverGlobals}
use Rattle.cc_checking.specs.Weights.{enough_steps}
use Rattle.cc_typing_laws.proofs.DirectSubtyping.{SubtypesDirectly, alike, under_any, through_bound, functions, type_functions, boxes, direct_from}
use Rattle.cc_typing_laws.proofs.Endings.{comparison_enough}
use Rattle.cc_typing_laws.proofs.FormedContexts.{IsKindedContext-test}
use Rattle.cc_checking_laws.proofs.Findings.{below_all}
use Rattle.cc_checking_laws.proofs.LeastFillings.{filled-still, lookup-filled}
use Rattle.cc_checking_laws.proofs.FilledSyntax.{length-filled, filled-moved, opening_leaves}
use Rattle.cc_checking_laws.proofs.FilledSubtyping.{Serves, type_entry_filled}
use Rattle.cc_checking_laws.proofs.Tameness.{Closed, Tame, closed_tame, LeavesHoles-moving, act_tame, TameContext, tame_entry}
use Rattle.cc_checking_laws.proofs.TameFindings.{closed_to}

-- the forms of shapes, numbered
abbrev form : Shape → ℕ
form (BaseShape b) = 0
form AnyShape = 1
form (TypeVariable v) = 2
form (FunctionShape t c u e) = 3
form (TypeFunctionShape b u e) = 4
form (BoxShape t c) = 5
form (ExitShape t) = 6

-- what is below another is of its form, or that is Any, or it is a type variable
forms_agree : {g : Context} {l r : Shape} → SubtypesDirectly g l r → (form r ≡ 1) ⊎ ((form l ≡ 2) ⊎ (form l ≡ form r))
forms_agree alike = inr (inr refl)
forms_agree under_any = inl refl
forms_agree (through_bound there rest) = inr (inl refl)
forms_agree (functions a b c d) = inr (inr refl)
forms_agree (type_functions a b) = inr (inr refl)
forms_agree (boxes a b) = inr (inr refl)

apart : {g : Context} {l r : Shape} → SubtypesDirectly g l r → (form r ≡ 1 → ⊥) → (form l ≡ 2 → ⊥) → (form l ≡ form r → ⊥) → ⊥
apart below a b c = elim (forms_agree below) as (λ _. ⊥) [ inl x ↦ a x | inr y ↦ elim y as (λ _. ⊥) [ inl z ↦ b z | inr w ↦ c w ] ]

-- what is below what, by forms
bases_same : {g : Context} {b b' : Base} → SubtypesDirectly g (BaseShape b) (BaseShape b') → b ≡ b'
bases_same alike = refl

exits_same : {g : Context} {u u' : Shape} → SubtypesDirectly g (ExitShape u) (ExitShape u') → u ≡ u'
exits_same alike = refl

pub functions_below : {g : Context} {t t' u u' : Shape} {c c' e e' : Set} → SubtypesDirectly g (FunctionShape t c u e) (FunctionShape t' c' u' e')
    → SubcapturesSet g c' c × SubtypesDirectly g t' t × SubcapturesSet (TermEntry t' c' ∷ g) (opened_set (length g) e) (opened_set (length g) e')
    × SubtypesDirectly (TermEntry t' c' ∷ g) (opened (length g) u) (opened (length g) u')
functions_below {g = g} {t = t} {c = c} {e = e} alike = (subcaptures_reflexive g c, alike, subcaptures_reflexive (TermEntry t c ∷ g) (opened_set (length g) e), alike)
functions_below (functions a b d h) = (a, b, d, h)

type_functions_below : {g : Context} {b b' u u' : Shape} {e e' : Set} → SubtypesDirectly g (TypeFunctionShape b u e) (TypeFunctionShape b' u' e')
    → (b ≡ b') × SubcapturesSet (TypeEntry b ∷ g) (opened_set (length g) e) (opened_set (length g) e')
    × SubtypesDirectly (TypeEntry b ∷ g) (opened (length g) u) (opened (length g) u')
type_functions_below {g = g} {b = b} {e = e} alike = (refl, subcaptures_reflexive (TypeEntry b ∷ g) (opened_set (length g) e), alike)
type_functions_below (type_functions d h) = (refl, d, h)

boxes_below : {g : Context} {t t' : Shape} {c c' : Set} → SubtypesDirectly g (BoxShape t c) (BoxShape t' c') → SubcapturesSet g c c' × SubtypesDirectly g t t'
boxes_below {g = g} {c = c} alike = (subcaptures_reflexive g c, alike)
boxes_below (boxes a b) = (a, b)

-- what is above a type variable's bound
abbrev AboveBound : Context → Var → Shape → Type 0
AboveBound g v r = (p : ℕ) × (b : Shape) × (v ≡ Free p) × (lookup g p ≡ Some (TypeEntry b)) × SubtypesDirectly g b r

variable_below : {g : Context} {v : Var} {r : Shape} → SubtypesDirectly g (TypeVariable v) r → (r ≡ AnyShape) ⊎ ((r ≡ TypeVariable v) ⊎ AboveBound g v r)
variable_below alike = inr (inl refl)
variable_below under_any = inl refl
variable_below (through_bound {position = p} {bound = b} there rest) = inr (inr (p, b, refl, there, rest))

differ : (l r : Shape) → same_shape l r ≡ false → l ≡ r → ⊥
differ l r d e = both_ways _ d (ap (same_shape l) (sym e) ∙ same_shape-itself l)

bounds_same : (b b' : Shape) → Some (TypeEntry b) ≡ Some (TypeEntry b') → b ≡ b'
bounds_same b b' e = cc

module _ (root : ℕ) (f : Filling) (over : IsOverGlobals root f) where
  -- what stood under a binder, opened and filled
  opened-filled : (n : ℕ) (s : Shape) → filled f (opened n s) ≡ opened n (act (filling_in f) 1 s)
  opened-filled n s = filled-moved root f over (put_variable (Free n)) (opening_leaves root f over (Free n)) ShapeSort 0 s ∙ ap (opened n) (sym (shift (filling_in f) 0 s))

  opened_set-filled : (n : ℕ) (c : Set) → filled_set f (opened_set n c) ≡ opened_set n (act_set (filling_in f) 1 c)
  opened_set-filled n c = filled-moved root f over (put_variable (Free n)) (opening_leaves root f over (Free n)) SetSort 0 c

  gives_back : (g : Context) (b : Bind) (s s' : Shape)
      → SubtypesDirectly (filled_entry f b ∷ filled_context f g) (opened (length (filled_context f g)) (act (filling_in f) 1 s)) (opened (length (filled_context f g)) (act (filling_in f) 1 s'))
      → SubtypesDirectly (filled_context f (b ∷ g)) (filled f (opened (length g) s)) (filled f (opened (length g) s'))
  gives_back g b s s' below =
      subst (λ x. SubtypesDirectly (filled_context f (b ∷ g)) x (filled f (opened (length g) s'))) (sym (opened-filled (length g) s))
      (subst (λ x. SubtypesDirectly (filled_context f (b ∷ g)) (opened (length g) (act (filling_in f) 1 s)) x) (sym (opened-filled (length g) s'))
      (subst (λ n. SubtypesDirectly (filled_context f (b ∷ g)) (opened n (act (filling_in f) 1 s)) (opened n (act (filling_in f) 1 s'))) (length-filled f g) below))

  gives_set_back : (g : Context) (b : Bind) (c c' : Set)
      → SubcapturesSet (filled_entry f b ∷ filled_context f g) (opened_set (length (filled_context f g)) (act_set (filling_in f) 1 c)) (opened_set (length (filled_context f g)) (act_set (filling_in f) 1 c'))
      → SubcapturesSet (filled_context f (b ∷ g)) (filled_set f (opened_set (length g) c)) (filled_set f (opened_set (length g) c'))
  gives_set_back g b c c' below =
      subst (λ x. SubcapturesSet (filled_context f (b ∷ g)) x (filled_set f (opened_set (length g) c'))) (sym (opened_set-filled (length g) c))
      (subst (λ x. SubcapturesSet (filled_context f (b ∷ g)) (opened_set (length g) (act_set (filling_in f) 1 c)) x) (sym (opened_set-filled (length g) c'))
      (subst (λ n. SubcapturesSet (filled_context f (b ∷ g)) (opened_set n (act_set (filling_in f) 1 c)) (opened_set n (act_set (filling_in f) 1 c'))) (length-filled f g) below))

  -- the comparison does not end without a match, and the filling serves what it demands
  abbrev Fine : Comparison → Type 0
  Fine Unfinished = Unit {0}
  Fine Mismatch = ⊥
  Fine (Matches ds) = Serves f (below_all ds)

  served_both : (a b : List Demand) → Serves f (below_all a) → Serves f (below_all b) → Serves f (below_all (a ++ b))
  served_both [] b p q = q
  served_both (d ∷ a) b p q = (p.0, served_both a b p.1 q)

  fine_both : (a b : Comparison) → Fine a → Fine b → Fine (and_then a b)
  fine_both Unfinished b p q = tt
  fine_both Mismatch b p q = absurd p
  fine_both (Matches ds) Unfinished p q = tt
  fine_both (Matches ds) Mismatch p q = absurd q
  fine_both (Matches ds) (Matches es) p q = served_both ds es p q

  abbrev IsFine : Comparing → Type 0
  IsFine compare = (g : Context) (l r : Shape) → TameContext g → Tame l → Tame r → SubtypesDirectly (filled_context f g) (filled f l) (filled f r) → Fine (compare g l r)

  fine_types : (compare : Comparing) → IsFine compare → (g : Context) (l r : CapturingType) → TameContext g → Tame l.shape → Tame r.shape
      → SubcapturesSet (filled_context f g) (filled_set f l.set) (filled_set f r.set) → SubtypesDirectly (filled_context f g) (filled f l.shape) (filled f r.shape)
      → Fine (types_compared compare g l r)
  fine_types compare fine g l r tg tl tr sets shapes = fine_both (Matches (demanded g l.set r.set ∷ [])) (compare g l.shape r.shape) (sets, tt) (fine g l.shape r.shape tg tl tr shapes)

  fine_bound : (compare : Comparing) → IsFine compare → (g : Context) (p : ℕ) (found : Option Bind) (r : Shape) → lookup g p ≡ found → TameContext g → Tame r
      → (b : Shape) → lookup (filled_context f g) p ≡ Some (TypeEntry b) → SubtypesDirectly (filled_context f g) b (filled f r) → Fine (bound_compared compare g (bound_in found) r)
  fine_bound compare fine g p (Some (TypeEntry b)) r there tg tr b' there' below =
      let same : b' ≡ filled f b = bounds_same b' (filled f b) (sym there' ∙ type_entry_filled root f over g p b there) in
      fine g b r tg (closed_tame b (tame_entry g p (TypeEntry b) tg there)) tr (subst (λ x. SubtypesDirectly (filled_context f g) x (filled f r)) same below)
  fine_bound compare fine g p (Some (TermEntry s c)) r there tg tr b' there' below =
      let clash : Some (TermEntry (filled f s) (filled_set f c)) ≡ Some (TypeEntry b') = sym (lookup-filled f g p s c there) ∙ there' in cc
  fine_bound compare fine g p None r there tg tr b' there' below =
      let clash : None ≡ Some (TypeEntry b') = sym (lookup-map (filled_entry f) g p ∙ ap (option_map (filled_entry f)) there) ∙ there' in cc

  tame_under : (n : ℕ) (s : Shape) → Tame s → Tame (opened n s)
  tame_under n s k = act_tame (moving (put_variable (Free n))) (LeavesHoles-moving (put_variable (Free n))) 0 s k

  any_form : (r : Shape) → is_any r ≡ false → form (filled f r) ≡ 1 → ⊥
  any_form AnyShape k e = cc
  any_form (BaseShape b) k e = omega arith
  any_form (TypeVariable v) k e = omega arith
  any_form (FunctionShape t c u d) k e = omega arith
  any_form (TypeFunctionShape b u d) k e = omega arith
  any_form (BoxShape t c) k e = omega arith
  any_form (ExitShape u) k e = omega arith

  filled_variable : (r : Shape) (v : Var) → filled f r ≡ TypeVariable v → r ≡ TypeVariable v
  filled_variable (TypeVariable w) v e = e
  filled_variable AnyShape v e = cc
  filled_variable (BaseShape b) v e = cc
  filled_variable (FunctionShape t c u d) v e = cc
  filled_variable (TypeFunctionShape b u d) v e = cc
  filled_variable (BoxShape t c) v e = cc
  filled_variable (ExitShape u) v e = cc

  closed_same : (u u' : Shape) → Closed u → Closed u' → filled f u ≡ filled f u' → u ≡ u'
  closed_same u u' k k' e = sym (filled-still ShapeSort f 0 u (closed_to 0 u k)) ∙ e ∙ filled-still ShapeSort f 0 u' (closed_to 0 u' k')

  fine_variable : (compare : Comparing) → IsFine compare → (g : Context) (v : Var) (r : Shape) → same_shape (TypeVariable v) r ≡ false → is_any r ≡ false → TameContext g → Tame r
      → (filled f r ≡ AnyShape) ⊎ ((filled f r ≡ TypeVariable v) ⊎ AboveBound (filled_context f g) v (filled f r)) → Fine (by_form compare g (TypeVariable v) r)
  unfolding by_form
  fine_variable compare fine g v r d a tg tr (inl e) = absurd (any_form r a (ap form e))
  fine_variable compare fine g v r d a tg tr (inr (inl e)) = absurd (differ (TypeVariable v) r d (sym (filled_variable r v e)))
  fine_variable compare fine g (Bound i) r d a tg tr (inr (inr (p, b, e, there, below))) = cc
  fine_variable compare fine g (Free q) r d a tg tr (inr (inr (p, b, e, there, below))) =
      let same : p ≡ q = cc in
      fine_bound compare fine g q (lookup g q) r refl tg tr b (subst (λ x. lookup (filled_context f g) x ≡ Some (TypeEntry b)) same there) below

  fine_type_function : (compare : Comparing) → IsFine compare → (g : Context) (b u : Shape) (d : Set) (b' u' : Shape) (d' : Set) → TameContext g → Tame (TypeFunctionShape b u d) → Tame (TypeFunctionShape b' u' d')
      → SubtypesDirectly (filled_context f g) (filled f (TypeFunctionShape b u d)) (filled f (TypeFunctionShape b' u' d'))
      → Fine (type_function_compared compare g b (capturing u d) (TypeFunctionShape b' u' d'))
  fine_type_function compare fine g b u d b' u' d' tg tl tr below =
      let parts = type_functions_below below in
      let same : b ≡ b' = closed_same b b' tl.0 tr.0 parts.0 in
      let results : Comparison = types_compared compare (TypeEntry b ∷ g) (opened_type (length g) (capturing u d)) (opened_type (length g) (capturing u' d')) in
      let fine_results : Fine results =
      fine_types compare fine (TypeEntry b ∷ g) (opened_type (length g) (capturing u d)) (opened_type (length g) (capturing u' d')) (tl.0, tg) (tame_under (length g) u tl.1) (tame_under (length g) u' tr.1)
      (gives_set_back g (TypeEntry b) d d' parts.1) (gives_back g (TypeEntry b) u u' parts.2) in
      subst (λ t. Fine (cond t results Mismatch)) (sym (ap (same_shape b) (sym same) ∙ same_shape-itself b)) fine_results

  fine_form : (compare : Comparing) → IsFine compare → (g : Context) (l r : Shape) → same_shape l r ≡ false → is_any r ≡ false → TameContext g → Tame l → Tame r
      → SubtypesDirectly (filled_context f g) (filled f l) (filled f r) → Fine (by_form compare g l r)
  unfolding by_form
  fine_form compare fine g (BaseShape b) (BaseShape b') d a tg tl tr below = absurd (differ (BaseShape b) (BaseShape b') d (ap (λ x. BaseShape x) (bases_same below)))
  fine_form compare fine g (BaseShape b) r d a tg tl tr below = absurd (apart below (any_form r a) (λ e. omega arith) (λ e. omega arith))
  fine_form compare fine g AnyShape r d a tg tl tr below = absurd (apart below (any_form r a) (λ e. omega arith) (λ e. any_form r a (sym e)))
  fine_form compare fine g (TypeVariable v) r d a tg tl tr below = fine_variable compare fine g v r d a tg tr (variable_below below)
  fine_form compare fine g (FunctionShape t c u x) (FunctionShape t' c' u' x') d a tg tl tr below =
      let parts = functions_below below in
      fine_both (types_compared compare g (capturing t' c') (capturing t c))
      (types_compared compare (TermEntry t' c' ∷ g) (opened_type (length g) (capturing u x)) (opened_type (length g) (capturing u' x')))
      (fine_types compare fine g (capturing t' c') (capturing t c) tg (closed_tame t' tr.0) (closed_tame t tl.0) parts.0 parts.1)
      (fine_types compare fine (TermEntry t' c' ∷ g) (opened_type (length g) (capturing u x)) (opened_type (length g) (capturing u' x')) ((closed_tame t' tr.0, tr.1), tg)
      (tame_under (length g) u tl.2) (tame_under (length g) u' tr.2) (gives_set_back g (TermEntry t' c') x x' parts.2) (gives_back g (TermEntry t' c') u u' parts.3))
  fine_form compare fine g (FunctionShape t c u x) r d a tg tl tr below = absurd (apart below (any_form r a) (λ e. omega arith) (λ e. omega arith))
  fine_form compare fine g (TypeFunctionShape b u x) (TypeFunctionShape b' u' x') d a tg tl tr below = fine_type_function compare fine g b u x b' u' x' tg tl tr below
  fine_form compare fine g (TypeFunctionShape b u x) r d a tg tl tr below = absurd (apart below (any_form r a) (λ e. omega arith) (λ e. omega arith))
  fine_form compare fine g (BoxShape t c) (BoxShape t' c') d a tg tl tr below =
      let parts = boxes_below below in fine_types compare fine g (capturing t c) (capturing t' c') tg tl.0 tr.0 parts.0 parts.1
  fine_form compare fine g (BoxShape t c) r d a tg tl tr below = absurd (apart below (any_form r a) (λ e. omega arith) (λ e. omega arith))
  fine_form compare fine g (ExitShape u) (ExitShape u') d a tg tl tr below =
      absurd (differ (ExitShape u) (ExitShape u') d (ap (λ x. ExitShape x) (closed_same u u' tl tr (exits_same below))))
  fine_form compare fine g (ExitShape u) r d a tg tl tr below = absurd (apart below (any_form r a) (λ e. omega arith) (λ e. omega arith))

  fine_comparison : (n : ℕ) → IsFine (comparison n)
  unfolding comparison
  fine_comparison zero g l r tg tl tr below = tt
  fine_comparison (suc n) g l r tg tl tr below =
      let later : Comparison = by_form (comparison n) g l r in
      elim (same_shape l r) as (λ t. same_shape l r ≡ t → Fine (cond t (Matches []) (cond (is_any r) (Matches []) later))) [
        | true ↦ λ _. tt
        | false ↦ λ d.
            elim (is_any r) as (λ t. is_any r ≡ t → Fine (cond t (Matches []) later)) [
              | true ↦ λ _. tt
              | false ↦ λ a. fine_form (comparison n) (fine_comparison n) g l r d a tg tl tr below
            ] refl
      ] refl

  -- so a comparison with enough steps matches
  pub shapes_match : (g : Context) (l r : Shape) → IsKindedContext g → TameContext g → IsKinded (kinds_of g) [] l → IsKinded (kinds_of g) [] r → Tame l → Tame r
      → Subtypes (filled_context f g) (filled f l) (filled f r) → (ds : List Demand) × HasDemands g l r ds × Serves f (below_all ds)
  shapes_match g l r k tg kl kr tl tr below =
      let n = enough_steps g l r in
      by_end (comparison n g l r) refl (comparison_enough g l r (IsKindedContext-test g k) (IsKinded-test (kinds_of g) [] l kl) (IsKinded-test (kinds_of g) [] r kr))
      (fine_comparison n g l r tg tl tr (direct_from below))
    where
      by_end : (c : Comparison) → comparison (enough_steps g l r) g l r ≡ c → (comparison (enough_steps g l r) g l r ≡ Unfinished → ⊥) → Fine c
          → (ds : List Demand) × HasDemands g l r ds × Serves f (below_all ds)
      by_end Unfinished is ends h = absurd (ends is)
      by_end Mismatch is ends h = absurd h
      by_end (Matches ds) is ends h = (ds, (enough_steps g l r, is), h)

  -- the same of types
  pub types_match : (g : Context) (l r : CapturingType) → IsKindedContext g → TameContext g → IsKindedType (kinds_of g) [] l → IsKindedType (kinds_of g) [] r → Tame l.shape → Tame r.shape
      → SubtypesType (filled_context f g) (filled_type f l) (filled_type f r) → (ds : List Demand) × TypesHaveDemands g l r ds × Serves f (below_all ds)
  types_match g l r k tg kl kr tl tr below =
      let m = shapes_match g l.shape r.shape k tg kl.0 kr.0 tl tr below.1 in
      (demanded g l.set r.set ∷ m.0, (m.1.0, ap (and_then (Matches (demanded g l.set r.set ∷ []))) m.1.1), (below.0, m.2))
