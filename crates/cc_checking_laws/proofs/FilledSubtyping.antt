-- Filling keeps subcapturing and subtyping, and where it serves what a comparison demands, the filled sides are below each other.
use Rattle.std.proofs.Common.{◌≡◌, ℕ, zero, suc, true, false, cond, List, [], ◌∷◌, ◌++◌, length, Option, Some, None, refl, sym, ap, ◌∙◌, subst}
use Rattle.std.specs.Option.{option_map}
use Rattle.cc_capture.specs.declared.var.Var.TheVariants.{Bound, Free}
use Rattle.cc_capture.specs.declared.var.Elem.{Elem}
use Rattle.cc_capture.specs.declared.var.Elem.TheVariants.{Var as Variable}
use Rattle.cc_capture.specs.Sets.{Set}
use Rattle.cc_core.specs.Shapes.{Shape, BaseShape, AnyShape, TypeVariable, FunctionShape, TypeFunctionShape, BoxShape, ExitShape, CapturingType, capturing}
use Rattle.cc_core.specs.Contexts.{Bind, TermEntry, TypeEntry, Context, lookup}
use Rattle.cc_core.specs.Traversal.{act, act_set}
use Rattle.cc_core.specs.Substitution.{filled_element, filling_in, filled, filled_set, filled_type, opened, opened_set, opened_type, put_variable}
use Rattle.cc_core.specs.Subcapturing.{Subcaptures, SubcapturesSet, element, variable}
use Rattle.cc_core.specs.Subtyping.{Subtypes, SubtypesType, reflexive, transitive, type_variable, top, function, type_function, box}
use Rattle.cc_core.specs.Equality.{same_shape}
use Rattle.cc_core.proofs.Lookups.{lookup-map}
use Rattle.cc_core.proofs.Moving.{Member-single}
use Rattle.cc_core.proofs.Shifting.{shift}
use Rattle.cc_core.proofs.Sorts.{SetSort, ShapeSort}
use Rattle.cc_checking.proofs.ShapeEquality.{same_shape-true}
use Rattle.cc_checking.specs.Comparison.{Demand, Comparison, Mismatch, Matches, Comparing, types_compared, bound_in, bound_compared, function_compared, type_function_compared, box_compared, is_any, by_form, comparison, HasDemands, TypesHaveDemands}
use Rattle.cc_checking.specs.Outcomes.{Asked, IsBelow, Placed}
use Rattle.cc_checking.specs.Fillings.{Filling, filled_entry, filled_context, IsServed, AllServed, IsOverGlobals}
use Rattle.cc_typing_laws.proofs.ComparisonLemmas.{then_parts}
use Rattle.cc_checking_laws.proofs.Findings.{below_all}
use Rattle.cc_checking_laws.proofs.FoundFindings.{asked_of}
use Rattle.cc_checking_laws.proofs.LeastFillings.{Member-filled, Member-from_filled, lookup-filled}
use Rattle.cc_checking_laws.proofs.FilledSyntax.{length-filled, filled-moved, opening_leaves}

-- the filling serves all that is asked
abbrev pub Serves : Filling → List Asked → Type 0
Serves f [] = Unit {0}
Serves f (q ∷ qs) = IsServed f q × Serves f qs

pub serves_parts : (f : Filling) (a b : List Asked) → Serves f (a ++ b) → Serves f a × Serves f b
serves_parts f [] b s = (tt, s)
serves_parts f (q ∷ a) b s = let p = serves_parts f a b s.1 in ((s.0, p.0), p.1)

pub serves_asked : (f : Filling) (list : List Placed) → AllServed f list → Serves f (asked_of list)
serves_asked f [] s = tt
serves_asked f (p ∷ list) s = (s.0, serves_asked f list s.1)

below_all-append : (a b : List Demand) → below_all (a ++ b) ≡ below_all a ++ below_all b
below_all-append [] b = refl
below_all-append (d ∷ a) b = ap (λ l. IsBelow d ∷ l) (below_all-append a b)

serves_demands : (f : Filling) (a b : List Demand) → Serves f (below_all (a ++ b)) → Serves f (below_all a) × Serves f (below_all b)
serves_demands f a b s = serves_parts f (below_all a) (below_all b) (subst (Serves f) (below_all-append a b) s)

module _ (root : ℕ) (f : Filling) (over : IsOverGlobals root f) where
  subcaptures_filled : {g : Context} {e : Elem} {c : Set} → Subcaptures g e c → SubcapturesSet (filled_context f g) (filled_element f e) (filled_set f c)
  subcaptures_filled (element {e = e} {set = c} m) y l = element (Member-filled f e y c m l)
  subcaptures_filled {g} (variable {position = p} {shape = s} {declared = d} {set = c} there each) y l =
      subst (λ x. Subcaptures (filled_context f g) x (filled_set f c)) (sym (Member-single y (Variable (Free p)) l))
      (variable (lookup-filled f g p s d there) (λ z m. let m' = Member-from_filled f z d m in subcaptures_filled (each m'.0 m'.1) z m'.2))

  pub subcaptures_set_filled : (g : Context) (c d : Set) → SubcapturesSet g c d → SubcapturesSet (filled_context f g) (filled_set f c) (filled_set f d)
  subcaptures_set_filled g c d below y m = let m' = Member-from_filled f y c m in subcaptures_filled (below m'.0 m'.1) y m'.2

  pub type_entry_filled : (g : Context) (p : ℕ) (b : Shape) → lookup g p ≡ Some (TypeEntry b) → lookup (filled_context f g) p ≡ Some (TypeEntry (filled f b))
  type_entry_filled g p b e = lookup-map (filled_entry f) g p ∙ ap (option_map (filled_entry f)) e

  -- what stood under a binder, opened and filled
  opened-filled : (n : ℕ) (s : Shape) → filled f (opened n s) ≡ opened n (act (filling_in f) 1 s)
  opened-filled n s = filled-moved root f over (put_variable (Free n)) (opening_leaves root f over (Free n)) ShapeSort 0 s ∙ ap (opened n) (sym (shift (filling_in f) 0 s))

  opened_set-filled : (n : ℕ) (c : Set) → filled_set f (opened_set n c) ≡ opened_set n (act_set (filling_in f) 1 c)
  opened_set-filled n c = filled-moved root f over (put_variable (Free n)) (opening_leaves root f over (Free n)) SetSort 0 c

  -- what is given, compared under a binder
  gives_filled : (g : Context) (b : Bind) (s s' : Shape) → Subtypes (filled_context f (b ∷ g)) (filled f (opened (length g) s)) (filled f (opened (length g) s'))
      → Subtypes (filled_entry f b ∷ filled_context f g) (opened (length (filled_context f g)) (act (filling_in f) 1 s)) (opened (length (filled_context f g)) (act (filling_in f) 1 s'))
  gives_filled g b s s' below =
      subst (λ n. Subtypes (filled_entry f b ∷ filled_context f g) (opened n (act (filling_in f) 1 s)) (opened n (act (filling_in f) 1 s'))) (sym (length-filled f g))
      (subst (λ x. Subtypes (filled_entry f b ∷ filled_context f g) x (opened (length g) (act (filling_in f) 1 s'))) (opened-filled (length g) s)
      (subst (λ x. Subtypes (filled_entry f b ∷ filled_context f g) (filled f (opened (length g) s)) x) (opened-filled (length g) s') below))

  gives_set_filled : (g : Context) (b : Bind) (c c' : Set) → SubcapturesSet (filled_context f (b ∷ g)) (filled_set f (opened_set (length g) c)) (filled_set f (opened_set (length g) c'))
      → SubcapturesSet (filled_entry f b ∷ filled_context f g) (opened_set (length (filled_context f g)) (act_set (filling_in f) 1 c)) (opened_set (length (filled_context f g)) (act_set (filling_in f) 1 c'))
  gives_set_filled g b c c' below =
      subst (λ n. SubcapturesSet (filled_entry f b ∷ filled_context f g) (opened_set n (act_set (filling_in f) 1 c)) (opened_set n (act_set (filling_in f) 1 c'))) (sym (length-filled f g))
      (subst (λ x. SubcapturesSet (filled_entry f b ∷ filled_context f g) x (opened_set (length g) (act_set (filling_in f) 1 c'))) (opened_set-filled (length g) c)
      (subst (λ x. SubcapturesSet (filled_entry f b ∷ filled_context f g) (filled_set f (opened_set (length g) c)) x) (opened_set-filled (length g) c') below))

  -- filling keeps subtyping
  pub subtypes_filled : {g : Context} {s s' : Shape} → Subtypes g s s' → Subtypes (filled_context f g) (filled f s) (filled f s')
  subtypes_filled reflexive = reflexive
  subtypes_filled (transitive a b) = transitive (subtypes_filled a) (subtypes_filled b)
  subtypes_filled (type_variable {context = g} {position = p} {bound = b} there) = type_variable (type_entry_filled g p b there)
  subtypes_filled top = top
  subtypes_filled (function {context = g} {takes' = t'} {gives = u} {gives' = u'} {c = c} {c' = c'} {e = e} {e' = e'} a b d h) =
      function (subcaptures_set_filled g c' c a) (subtypes_filled b)
      (gives_set_filled g (TermEntry t' c') e e' (subcaptures_set_filled (TermEntry t' c' ∷ g) (opened_set (length g) e) (opened_set (length g) e') d))
      (gives_filled g (TermEntry t' c') u u' (subtypes_filled h))
  subtypes_filled (type_function {context = g} {bound = b} {gives = u} {gives' = u'} {e = e} {e' = e'} d h) =
      type_function
      (gives_set_filled g (TypeEntry b) e e' (subcaptures_set_filled (TypeEntry b ∷ g) (opened_set (length g) e) (opened_set (length g) e') d))
      (gives_filled g (TypeEntry b) u u' (subtypes_filled h))
  subtypes_filled (box {context = g} {c = c} {c' = c'} a b) = box (subcaptures_set_filled g c c' a) (subtypes_filled b)

  -- where the filling serves what a comparison demands, the filled sides are below each other
  abbrev IsRight : Comparing → Type 0
  IsRight compare = (g : Context) (l r : Shape) (ds : List Demand) → compare g l r ≡ Matches ds → Serves f (below_all ds) → Subtypes (filled_context f g) (filled f l) (filled f r)

  right_types : (compare : Comparing) → IsRight compare → (g : Context) (l r : CapturingType) (ds : List Demand) → types_compared compare g l r ≡ Matches ds → Serves f (below_all ds)
      → SubtypesType (filled_context f g) (filled_type f l) (filled_type f r)
  right_types compare right g l r ds e s =
      let first : List Demand = record { context = g; left = l.set; right = r.set } ∷ [] in
      let parts = then_parts (Matches first) (compare g l.shape r.shape) ds e in
      let is : Matches first ≡ Matches parts.0 = parts.2 in
      let is' : first ≡ parts.0 = cc in
      let all : Serves f (below_all (first ++ parts.1)) = subst (λ one. Serves f (below_all (one ++ parts.1))) (sym is') (subst (λ x. Serves f (below_all x)) parts.4 s) in
      (all.0, right g l.shape r.shape parts.1 parts.3 all.1)

  right_bound : (compare : Comparing) → IsRight compare → (g : Context) (p : ℕ) (found : Option Bind) (r : Shape) (ds : List Demand) → lookup g p ≡ found
      → bound_compared compare g (bound_in found) r ≡ Matches ds → Serves f (below_all ds) → Subtypes (filled_context f g) (filled f (TypeVariable (Free p))) (filled f r)
  right_bound compare right g p (Some (TypeEntry b)) r ds there e s = transitive (type_variable (type_entry_filled g p b there)) (right g b r ds e s)
  right_bound compare right g p (Some (TermEntry x c)) r ds there e s = cc
  right_bound compare right g p None r ds there e s = cc

  right_function : (compare : Comparing) → IsRight compare → (g : Context) (t : Shape) (c : Set) (u : Shape) (d : Set) (r : Shape) (ds : List Demand)
      → function_compared compare g (capturing t c) (capturing u d) r ≡ Matches ds → Serves f (below_all ds) → Subtypes (filled_context f g) (filled f (FunctionShape t c u d)) (filled f r)
  right_function compare right g t c u d (FunctionShape t' c' u' d') ds e s =
      let under : Context = TermEntry t' c' ∷ g in
      let parts = then_parts (types_compared compare g (capturing t' c') (capturing t c))
      (types_compared compare under (opened_type (length g) (capturing u d)) (opened_type (length g) (capturing u' d'))) ds e in
      let all = serves_demands f parts.0 parts.1 (subst (λ x. Serves f (below_all x)) parts.4 s) in
      let one = right_types compare right g (capturing t' c') (capturing t c) parts.0 parts.2 all.0 in
      let two = right_types compare right under (opened_type (length g) (capturing u d)) (opened_type (length g) (capturing u' d')) parts.1 parts.3 all.1 in
      function one.0 one.1 (gives_set_filled g (TermEntry t' c') d d' two.0) (gives_filled g (TermEntry t' c') u u' two.1)
  right_function compare right g t c u d _ ds e s = cc

  right_type_function : (compare : Comparing) → IsRight compare → (g : Context) (b u : Shape) (d : Set) (r : Shape) (ds : List Demand)
      → type_function_compared compare g b (capturing u d) r ≡ Matches ds → Serves f (below_all ds) → Subtypes (filled_context f g) (filled f (TypeFunctionShape b u d)) (filled f r)
  right_type_function compare right g b u d (TypeFunctionShape b' u' d') ds e s =
      let results : Comparison = types_compared compare (TypeEntry b ∷ g) (opened_type (length g) (capturing u d)) (opened_type (length g) (capturing u' d')) in
      elim (same_shape b b') as (λ t. same_shape b b' ≡ t → cond t results Mismatch ≡ Matches ds → Subtypes (filled_context f g) (filled f (TypeFunctionShape b u d)) (filled f (TypeFunctionShape b' u' d'))) [
        | true ↦ λ same found.
            let two = right_types compare right (TypeEntry b ∷ g) (opened_type (length g) (capturing u d)) (opened_type (length g) (capturing u' d')) ds found s in
            subst (λ x. Subtypes (filled_context f g) (filled f (TypeFunctionShape b u d)) (filled f (TypeFunctionShape x u' d'))) (same_shape-true b b' same)
            (type_function (gives_set_filled g (TypeEntry b) d d' two.0) (gives_filled g (TypeEntry b) u u' two.1))
        | false ↦ λ _ found. cc
      ] refl e
  right_type_function compare right g b u d _ ds e s = cc

  right_box : (compare : Comparing) → IsRight compare → (g : Context) (t : Shape) (c : Set) (r : Shape) (ds : List Demand)
      → box_compared compare g (capturing t c) r ≡ Matches ds → Serves f (below_all ds) → Subtypes (filled_context f g) (filled f (BoxShape t c)) (filled f r)
  right_box compare right g t c (BoxShape t' c') ds e s = let both = right_types compare right g (capturing t c) (capturing t' c') ds e s in box both.0 both.1
  right_box compare right g t c _ ds e s = cc

  right_form : (compare : Comparing) → IsRight compare → IsRight (by_form compare)
  unfolding by_form
  right_form compare right g (BaseShape b) r ds e s = cc
  right_form compare right g AnyShape r ds e s = cc
  right_form compare right g (TypeVariable (Free p)) r ds e s = right_bound compare right g p (lookup g p) r ds refl e s
  right_form compare right g (TypeVariable (Bound i)) r ds e s = cc
  right_form compare right g (FunctionShape t c u d) r ds e s = right_function compare right g t c u d r ds e s
  right_form compare right g (TypeFunctionShape b u d) r ds e s = right_type_function compare right g b u d r ds e s
  right_form compare right g (BoxShape t c) r ds e s = right_box compare right g t c r ds e s
  right_form compare right g (ExitShape u) r ds e s = cc

  any_shape : (s : Shape) → is_any s ≡ true → s ≡ AnyShape
  any_shape AnyShape e = refl
  any_shape _ e = cc

  pub right_comparison : (n : ℕ) → IsRight (comparison n)
  unfolding comparison
  right_comparison zero g l r ds e s = cc
  right_comparison (suc n) g l r ds e s =
      let later : Comparison = by_form (comparison n) g l r in
      elim (same_shape l r) as (λ t. same_shape l r ≡ t → cond t (Matches []) (cond (is_any r) (Matches []) later) ≡ Matches ds → Subtypes (filled_context f g) (filled f l) (filled f r)) [
        | true ↦ λ same _. subst (λ x. Subtypes (filled_context f g) (filled f l) (filled f x)) (same_shape-true l r same) reflexive
        | false ↦ λ _ found.
            elim (is_any r) as (λ t. is_any r ≡ t → cond t (Matches []) later ≡ Matches ds → Subtypes (filled_context f g) (filled f l) (filled f r)) [
              | true ↦ λ any _. subst (λ x. Subtypes (filled_context f g) (filled f l) (filled f x)) (sym (any_shape r any)) top
              | false ↦ λ _ found'. right_form (comparison n) (right_comparison n) g l r ds found' s
            ] refl found
      ] refl e

  pub shapes_below : (g : Context) (l r : Shape) (ds : List Demand) → HasDemands g l r ds → Serves f (below_all ds) → Subtypes (filled_context f g) (filled f l) (filled f r)
  shapes_below g l r ds (n, e) s = right_comparison n g l r ds e s

  pub types_below : (g : Context) (l r : CapturingType) (ds : List Demand) → TypesHaveDemands g l r ds → Serves f (below_all ds) → SubtypesType (filled_context f g) (filled_type f l) (filled_type f r)
  types_below g l r ds (n, e) s = right_types (comparison n) (right_comparison n) g l r ds e s
