-- Where two shapes match by their forms, with no hole on a right side, nothing of their comparison is kept behind something
-- lost.
use Rattle.std.proofs.Common.{◌≡◌, ℕ, zero, suc, ◌-◌, Bool, true, false, ◌&&◌, not, cond, List, [], ◌∷◌}
use Rattle.std.proofs.Common.{length, refl, sym, ap, ◌∙◌, subst, arith}
use Rattle.std.specs.List.{list_all}
use Rattle.std.proofs.lemmas.Bool.{and_from, and_parts, or_right}
use Rattle.cc_base.specs.declared.place.Place.{Place}
use Rattle.cc_capture.specs.declared.var.Elem.{Elem}
use Rattle.cc_capture.specs.declared.var.Elem.TheVariants.{Var as Variable, Cap, Hole}
use Rattle.cc_capture.specs.Sets.{Set}
use Rattle.cc_capture.proofs.Membership.{Member-flat_image}
use Rattle.cc_core.specs.Equality.{same_shape}
use Rattle.cc_core.specs.Contexts.{Context, entry_of}
use Rattle.cc_core.specs.Occurrences.{IsNoHole}
use Rattle.cc_core.specs.Reading.{reading, read_variable, read_set, read_shape, read_type}
use Rattle.cc_core.specs.Shapes.{Shape, FunctionShape, BoxShape, CapturingType}
use Rattle.cc_core.specs.Substitution.{single, moved_element, opened_type}
use Rattle.cc_core.specs.Traversal.{act_type}
use Rattle.cc_core.specs.WellFormed.{kinds_of, is_well_formed_shape, is_well_formed_set, IsWellFormedShape, IsWellFormedType}
use Rattle.cc_core.proofs.Comparisons.{same_shape-decides}
use Rattle.cc_core.proofs.Moving.{Member-single}
use Rattle.cc_core.proofs.OccurrenceTests.{hole-decides}
use Rattle.cc_core.proofs.ReadingAndWriting.{opened_type-read, read-still}
use Rattle.cc_core.proofs.Sorts.{ShapeSort}
use Rattle.cc_core.proofs.WellFormedness.{well_formed-bound_within}
use Rattle.cc_checking.specs.Comparison.{Demand, demanded, Comparison, Unfinished, Mismatch, Matches, and_then, is_any, by_form}
use Rattle.cc_checking.specs.Comparison.{comparison, type_comparison}
use Rattle.cc_checking.specs.Outcomes.{Placed}
use Rattle.cc_type.specs.FormsAlone.{forces_nothing}
use Rattle.cc_known.specs.ComparedPairs.{IsKept}
use Rattle.cc_known.specs.Keeping.{has_hole, has_lost}
use Rattle.cc_known.specs.EndsAgain.{comes_again}
use Rattle.cc_known.specs.KeptWalks.{goes, form_compared}
use Rattle.cc_known.proofs.ComparedAgain.{all_both}
use Rattle.cc_known.proofs.KeptWalks.{read-any}
use Rattle.cc_known.proofs.RememberedPairs.{untrue, all_go}

-- a set without a hole has none as it is read
moved_no_hole : (n : ℕ) (e : Elem) → IsNoHole e → IsNoHole (moved_element (read_variable n 0) e)
moved_no_hole n (Variable v) h = tt
moved_no_hole n Cap h = tt
moved_no_hole n (Hole number) h = h

has_hole-read : (n : ℕ) (c : Set) → has_hole c ≡ false → has_hole (read_set n c) ≡ false
has_hole-read n c h =
    (hole-decides.in_set 0 (read_set n c)).1
    (λ e m.
    let from = (Member-flat_image (λ x. single (moved_element (read_variable n 0) x)) e c).0 m in
    subst IsNoHole (sym (Member-single e (moved_element (read_variable n 0) from.0) from.2))
    (moved_no_hole n from.0 ((hole-decides.in_set 0 c).0 h from.0 from.1)))

-- what a demand is asked for, and what comes of two comparisons in a row
abbrev holeless : Demand → Bool
holeless d = not (has_hole d.right)

both_pass : (a b : Comparison) → forces_nothing a ≡ true → forces_nothing b ≡ true → forces_nothing (and_then a b) ≡ true
both_pass Unfinished b h k = h
both_pass Mismatch b h k = h
both_pass (Matches ds) Unfinished h k = k
both_pass (Matches ds) Mismatch h k = k
both_pass (Matches ds) (Matches es) h k =
    all_both holeless ds es ∙ and_from (list_all holeless ds) (list_all holeless es) h k

unless_pass : (s : Bool) (c : Comparison) → forces_nothing c ≡ true → forces_nothing (cond s (Matches []) c) ≡ true
unless_pass true c h = refl
unless_pass false c h = h

-- types
pub types_pass : (steps : ℕ) (g : Context) (t u : CapturingType) → has_hole u.set ≡ false
    → forces_nothing (comparison steps g (read_shape (length g) t.shape) (read_shape (length g) u.shape)) ≡ true
    → forces_nothing (type_comparison steps g (read_type (length g) t) (read_type (length g) u)) ≡ true
types_pass steps g t u none k =
    let n = length g in
    both_pass (Matches (demanded g (read_set n t.set) (read_set n u.set) ∷ []))
    (comparison steps g (read_shape n t.shape) (read_shape n u.shape)) (ap (λ b. not b && true) (has_hole-read n u.set none)) k

-- forms
pub functions_pass : (steps : ℕ) (g : Context) (t u t' u' : CapturingType)
    → ((h : Context) → forces_nothing (type_comparison steps h (read_type (length h) t') (read_type (length h) t)) ≡ true)
    → ((h : Context) → forces_nothing (type_comparison steps h (read_type (length h) u) (read_type (length h) u')) ≡ true)
    → forces_nothing (form_compared steps g (FunctionShape t.shape t.set u.shape u.set) (FunctionShape t'.shape t'.set u'.shape u'.set))
    ≡ true
unfolding by_form
functions_pass steps g t u t' u' first rest =
    let n = length g in
    let b = entry_of (read_type n t') in
    unless_pass
    (same_shape (read_shape n (FunctionShape t.shape t.set u.shape u.set)) (read_shape n (FunctionShape t'.shape t'.set u'.shape u'.set)))
    (by_form (comparison steps) g (read_shape n (FunctionShape t.shape t.set u.shape u.set))
    (read_shape n (FunctionShape t'.shape t'.set u'.shape u'.set)))
    (both_pass (type_comparison steps g (read_type n t') (read_type n t))
    (type_comparison steps (b ∷ g) (opened_type n (act_type (reading n) 1 u)) (opened_type n (act_type (reading n) 1 u')))
    (first g)
    (subst (λ c. forces_nothing c ≡ true)
    (λ i. type_comparison steps (b ∷ g) (sym (opened_type-read n u) i) (sym (opened_type-read n u') i)) (rest (b ∷ g))))

pub boxes_pass : (steps : ℕ) (g : Context) (t t' : CapturingType)
    → forces_nothing (type_comparison steps g (read_type (length g) t) (read_type (length g) t')) ≡ true
    → forces_nothing (form_compared steps g (BoxShape t.shape t.set) (BoxShape t'.shape t'.set)) ≡ true
unfolding by_form
boxes_pass steps g t t' k =
    let n = length g in
    unless_pass (same_shape (read_shape n (BoxShape t.shape t.set)) (read_shape n (BoxShape t'.shape t'.set)))
    (by_form (comparison steps) g (read_shape n (BoxShape t.shape t.set)) (read_shape n (BoxShape t'.shape t'.set))) k

pub same_pass : (steps : ℕ) (g : Context) (l r : Shape) → same_shape l r ≡ true
    → forces_nothing (form_compared steps g l r) ≡ true
same_pass steps g l r same =
    let n = length g in
    ap (λ b. forces_nothing (cond b (Matches []) (by_form (comparison steps) g (read_shape n l) (read_shape n r))))
    ((same_shape-decides (read_shape n l) (read_shape n r)).1 (ap (read_shape n) ((same_shape-decides l r).0 same)))

-- one level more
pub any_pass : (steps : ℕ) (g : Context) (l r : Shape) → (steps ≡ 0 → ⊥) → is_any r ≡ true
    → forces_nothing (comparison steps g (read_shape (length g) l) (read_shape (length g) r)) ≡ true
unfolding comparison
any_pass zero g l r positive any = absurd (positive refl)
any_pass (suc steps) g l r positive any =
    let n = length g in
    unless_pass (same_shape (read_shape n l) (read_shape n r))
    (cond (is_any (read_shape n r)) (Matches []) (by_form (comparison steps) g (read_shape n l) (read_shape n r)))
    (ap (λ b. forces_nothing (cond b (Matches []) (by_form (comparison steps) g (read_shape n l) (read_shape n r))))
    (read-any n r ∙ any))

pub step_passes : (steps : ℕ) (g : Context) (l r : Shape) → (steps ≡ 0 → ⊥)
    → forces_nothing (form_compared (steps - 1) g l r) ≡ true
    → forces_nothing (comparison steps g (read_shape (length g) l) (read_shape (length g) r)) ≡ true
unfolding comparison
step_passes zero g l r positive k = absurd (positive refl)
step_passes (suc steps) g l r positive k =
    let n = length g in
    let less : suc steps - 1 ≡ steps = omega arith in
    either (same_shape (read_shape n l) (read_shape n r)) (is_any (read_shape n r))
    (by_form (comparison steps) g (read_shape n l) (read_shape n r))
    (subst (λ m. forces_nothing (form_compared m g l r) ≡ true) less k)
  where
    either : (s a : Bool) (c : Comparison) → forces_nothing (cond s (Matches []) c) ≡ true
        → forces_nothing (cond s (Matches []) (cond a (Matches []) c)) ≡ true
    either true a c h = refl
    either false true c h = refl
    either false false c h = h

-- at the root nothing is read otherwise than it stands
pub root_passes : (steps : ℕ) (g : Context) (l r : Shape) → IsWellFormedShape g l → IsWellFormedShape g r
    → forces_nothing (comparison steps g (read_shape (length g) l) (read_shape (length g) r)) ≡ true
    → forces_nothing (comparison steps g l r) ≡ true
root_passes steps g l r hl hr k =
    let p = read-still (length g) 0 l (well_formed-bound_within ShapeSort g l hl) in
    let q = read-still (length g) 0 r (well_formed-bound_within ShapeSort g r hr) in
    subst (λ c. forces_nothing c ≡ true) (λ i. comparison steps g (p i) (q i)) k

pub formed_shape : (g : Context) (t : CapturingType) → IsWellFormedType g t → IsWellFormedShape g t.shape
formed_shape g t h =
    (and_parts (is_well_formed_shape (kinds_of g) [] t.shape) (is_well_formed_set (kinds_of g) [] t.set) h).0

-- behind something lost
go_behind : (log : List Placed) (ds : List Demand) → list_all holeless ds ≡ true → list_all (goes zero log true) ds ≡ true
go_behind log [] h = refl
go_behind log (d ∷ ds) h =
    let both = and_parts (holeless d) (list_all holeless ds) h in
    and_from (goes zero log true d) (list_all (goes zero log true) ds) (or_right (comes_again zero log d) (holeless d) both.0) (go_behind log ds both.1)

pub kept_behind : (at : Place) (c : Comparison) (log : List Placed) → has_lost log ≡ true → forces_nothing c ≡ true
    → IsKept at c true log log
kept_behind at Unfinished log l h = untrue h
kept_behind at Mismatch log l h = sym h
kept_behind at (Matches ds) log l h = (
  refl,
  sym (all_go zero true log at ds (λ e. l) (go_behind log ds h)),
  λ e. absurd (untrue e),
)
