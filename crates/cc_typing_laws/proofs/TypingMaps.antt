-- Typing goes along with maps of contexts: one lemma for weakening, renaming, narrowing, and substitution of variables and
-- of shapes.
use Rattle.cc_core.proofs.SubcapturingContexts.{IsKindedContext, IsKindedEntry, entry_kinded}
use Rattle.std.proofs.Common.{◌≡◌, ℕ, [], ◌∷◌, length, refl, sym, ap, ◌∙◌, subst}
use Rattle.cc_base.specs.declared.literal.Base.TheVariants as bases
use Rattle.cc_capture.specs.declared.var.Var.{Var}
use Rattle.cc_capture.specs.declared.var.Var.TheVariants.{Bound, Free}
use Rattle.cc_capture.specs.declared.var.Elem.{Elem}
use Rattle.cc_capture.specs.declared.var.Elem.TheVariants.{Var as Variable, Cap, Hole}
use Rattle.cc_capture.specs.Sets.{Set, Member, empty}
use Rattle.cc_capture.proofs.Membership.{Member-flat_image}
use Rattle.cc_capture.proofs.Images.{flat_image-empty}
use Rattle.cc_core.specs.Shapes.{Shape, BaseShape, TypeVariable, FunctionShape, ExitShape}
use Rattle.cc_core.specs.Terms.{Note, Absent, Written, Own, Term, FunctionTerm, TypeFunctionTerm}
use Rattle.cc_core.specs.Contexts.{TermEntry, TypeEntry, Context}
use Rattle.cc_core.specs.Traversal.{act, act_set, act_note, act_term}
use Rattle.cc_core.specs.Substitution.{single, moved_element, putting, putting_shape, opened_term, renamed_variable, freely, overridden}
use Rattle.cc_core.specs.WellFormed.{Kind, TermKind, TypeKind, kinds_of}
use Rattle.cc_core.specs.Captured.{variable_set}
use Rattle.cc_core.specs.Subcapturing.{SubcapturesSet}
use Rattle.cc_core.specs.Typing.{IsNoteOf, HasNoCap}
use Rattle.cc_core.proofs.SubcapturingLemmas.{subcaptures_reflexive, subcaptures_transitive}
use Rattle.cc_core.proofs.Moving.{flat_image-of_single, Member-single, Member-single_itself}
use Rattle.cc_core.proofs.FreeActions.{Sends, free-putting, free-putting_shape, putting_shape_set}
use Rattle.cc_core.proofs.Renaming.{IsFree-freely, Sends-freely, overridden-below}
use Rattle.cc_core.proofs.KindFacts.{IsKindedSet, IsKinded, IsKindedTerm}
use Rattle.cc_core.proofs.KindedActions.{IsKindedTerm-act}
use Rattle.cc_typing_laws.proofs.DirectSubtyping.{SubtypesDirectly, alike, direct_transitive}
use Rattle.cc_core.proofs.CapturedActions.{captured_variables-act, PassesBinders-freely}
use Rattle.cc_typing_laws.proofs.FormedContexts.{kinded_single}
use Rattle.cc_typing_laws.proofs.FreeMaps.{as_is, Maps, maps_kinds, map_kinded, map_kinds, map_level, map_element, map_subcaptures, agree_kinded, maps_under, opened_map, map_subtypes}
use Rattle.cc_typing_laws.proofs.InternalTyping.{HasVariable, TypedExactly, exact_variable, exact_literal, exact_function, exact_type_function, exact_application, exact_type_application, exact_box, exact_unboxing, exact_let, exact_primitive, exact_conditional, exact_repetition, exact_operation, exact_operation_alone, exact_boundary, exact_leave, Typed, widened, exactly_kinded}
use Rattle.cc_core.proofs.Sorts.{SetSort, ShapeSort, TermSort}

-- equal terms have the types of each other
pub typed_is : {g : Context} {t t' : Term} {s s' : Shape} {c c' : Set} → t ≡ t' → s ≡ s' → c ≡ c' → Typed g t s c → Typed g t' s' c'
typed_is {g = g} {t' = t'} {s = s} {s' = s'} {c = c} et es ec h = subst (Typed g t' s') ec (subst (λ x. Typed g t' x c) es (subst (λ x. Typed g x s c) et h))

pub has_is : {g : Context} {v : Var} {s s' : Shape} {c c' : Set} → s ≡ s' → c ≡ c' → HasVariable g v s c → HasVariable g v s' c'
has_is {g = g} {v = v} {s' = s'} {c = c} es ec h = subst (HasVariable g v s') ec (subst (λ x. HasVariable g v x c) es h)

exactly_is : {g : Context} {t : Term} {s s' : Shape} {c c' : Set} → s ≡ s' → c ≡ c' → TypedExactly g t s c → TypedExactly g t s' c'
exactly_is {g = g} {t = t} {s' = s'} {c = c} es ec h = subst (TypedExactly g t s') ec (subst (λ x. TypedExactly g t x c) es h)

pub typed_kinded : {g : Context} {t : Term} {s : Shape} {c : Set} → Typed g t s c → IsKinded (kinds_of g) [] s
typed_kinded (widened kt exact captures below ks kc) = ks

pub typed_kinded_set : {g : Context} {t : Term} {s : Shape} {c : Set} → Typed g t s c → IsKindedSet (kinds_of g) [] c
typed_kinded_set (widened kt exact captures below ks kc) = kc

pub typed_kinded_term : {g : Context} {t : Term} {s : Shape} {c : Set} → Typed g t s c → IsKindedTerm (kinds_of g) [] t
typed_kinded_term (widened kt exact captures below ks kc) = kt

-- a wider type
pub typed_wider : {g : Context} {t : Term} {s s' : Shape} {c c' : Set} → Typed g t s c → SubcapturesSet g c c' → SubtypesDirectly g s s' → IsKinded (kinds_of g) [] s' → IsKindedSet (kinds_of g) [] c' → Typed g t s' c'
typed_wider {g = g} {s = s} {s' = s'} {c = c} {c' = c'} (widened {s = s0} {c = c0} kt exact captures below ks kc) captures' below' ks' kc' =
    widened kt exact (subcaptures_transitive g c0 c c' captures captures') (direct_transitive g s0 s s' below below') ks' kc'

-- the type that the form gives is one
pub typed_exactly : {g : Context} {t : Term} {s : Shape} {c : Set} → IsKindedContext g → IsKindedTerm (kinds_of g) [] t → TypedExactly g t s c → Typed g t s c
typed_exactly {g = g} {c = c} formed kt exact =
    let k = exactly_kinded exact formed kt in
    widened kt exact (subcaptures_reflexive g c) alike k.0 k.1

-- the form of a term gives a type below the given one
record ExactBelow (d : Context) (t : Term) (s : Shape) (c : Set) : Type 0 where
  shape : Shape
  set : Set
  exact : TypedExactly d t shape set
  captures : SubcapturesSet d set c
  below : SubtypesDirectly d shape s

exactly_below : {d : Context} {t : Term} {s : Shape} {c : Set} → TypedExactly d t s c → ExactBelow d t s c
exactly_below {d = d} {s = s} {c = c} exact = record { shape = s; set = c; exact = exact; captures = subcaptures_reflexive d c; below = alike }

moved_is_cap : (to : ℕ → ℕ) (x : Elem) → moved_element (renamed_variable to) x ≡ Cap → x ≡ Cap
moved_is_cap to (Variable (Free p)) e = cc
moved_is_cap to (Variable (Bound i)) e = cc
moved_is_cap to Cap e = refl
moved_is_cap to (Hole n) e = cc

module _ (g d : Context) (to : ℕ → ℕ) (shapes : ℕ → Shape) (maps : Maps g d to shapes) (formed : IsKindedContext g) where
  pub map_kinded_term : (t : Term) → IsKindedTerm (kinds_of g) [] t → IsKindedTerm (kinds_of d) [] (act_term (freely to shapes) 0 t)
  map_kinded_term t k = IsKindedTerm-act (freely to shapes) (kinds_of g) [] (kinds_of d) [] (maps_kinds g d to shapes maps []) [] t k

  pub map_variable : {v : Var} {s : Shape} {c : Set} → HasVariable g v s c → HasVariable d (renamed_variable to v) (act (freely to shapes) 0 s) (act_set (freely to shapes) 0 c)
  map_variable {s = s} {c = c} has =
      let entry = maps.entries has.position has.shape has.set has.there in
      record {
        position = to has.position;
        is = ap (renamed_variable to) has.is;
        shape = entry.shape;
        set = entry.set;
        there = entry.there;
        below = entry.below d as_is (act (freely to shapes) 0 s)
            (map_subtypes has.below d to shapes maps formed (entry_kinded g has.position (TermEntry has.shape has.set) formed has.there).0 has.kinded);
        captured = map_element g d to shapes maps has.captured (Variable (Free (to has.position))) (Member-single_itself (Variable (Free (to has.position))));
        kinded = map_kinds g d to shapes maps [] ShapeSort s has.kinded;
        kinded_set = map_kinds g d to shapes maps [] SetSort c has.kinded_set;
      }

  sends_at : {v : Var} {s : Shape} {c : Set} → HasVariable g v s c → Sends (freely to shapes) v (renamed_variable to v)
  sends_at has =
      subst (λ w. Sends (freely to shapes) w (renamed_variable to w)) (sym has.is)
      (Sends-freely to shapes has.position (maps.sends has.position has.shape has.set has.there))

  map_nothing : (n : ℕ) → act_set (freely to shapes) n empty ≡ empty
  map_nothing n = flat_image-empty ((freely to shapes).element n)

  map_cap : act_set (freely to shapes) 0 (single Cap) ≡ single Cap
  map_cap = flat_image-of_single ((freely to shapes).element 0) Cap

  map_no_cap : (c : Set) → HasNoCap c → HasNoCap (act_set (freely to shapes) 0 c)
  map_no_cap c none h =
      let from = (Member-flat_image ((freely to shapes).element 0) Cap c).0 h in
      none (subst (λ x. Member x c) (moved_is_cap to from.0 (sym (Member-single Cap (moved_element (renamed_variable to) from.0) from.2))) from.1)

  map_note : (n : Note) (s : Shape) (c : Set) → IsNoteOf n s c → IsNoteOf (act_note (freely to shapes) 0 n) (act (freely to shapes) 0 s) (act_set (freely to shapes) 0 c)
  map_note Absent s c is = tt
  map_note (Written s' c') s c is = (ap (act (freely to shapes) 0) is.0, ap (act_set (freely to shapes) 0) is.1)
  map_note (Own s') s c is = is

  -- what is well formed before the binder is mapped alike under it
  pub same_under : (s : Shape) → IsKinded (kinds_of g) [] s → act (freely (overridden to (length g) (length d)) (overridden shapes (length g) (TypeVariable (Free (length d))))) 0 s ≡ act (freely to shapes) 0 s
  same_under s h =
      agree_kinded g to (overridden to (length g) (length d)) shapes (overridden shapes (length g) (TypeVariable (Free (length d))))
      (overridden-below to (length g) (length d)) (overridden-below shapes (length g) (TypeVariable (Free (length d)))) ShapeSort s h

  pub same_set_under : (c : Set) → IsKindedSet (kinds_of g) [] c → act_set (freely (overridden to (length g) (length d)) (overridden shapes (length g) (TypeVariable (Free (length d))))) 0 c ≡ act_set (freely to shapes) 0 c
  same_set_under c h =
      agree_kinded g to (overridden to (length g) (length d)) shapes (overridden shapes (length g) (TypeVariable (Free (length d))))
      (overridden-below to (length g) (length d)) (overridden-below shapes (length g) (TypeVariable (Free (length d)))) SetSort c h

  pub opened_term_map : (k : Kind) (t : Term) → IsKindedTerm (kinds_of g) (k ∷ []) t
      → act_term (freely (overridden to (length g) (length d)) (overridden shapes (length g) (TypeVariable (Free (length d))))) 0 (opened_term (length g) t) ≡ opened_term (length d) (act_term (freely to shapes) 1 t)
  opened_term_map = opened_map g d to shapes maps TermSort

mutual
  map_exactly : {g : Context} {t : Term} {s : Shape} {c : Set} → TypedExactly g t s c → (d : Context) (to : ℕ → ℕ) (shapes : ℕ → Shape) → Maps g d to shapes → IsKindedContext g
      → IsKindedTerm (kinds_of g) [] t → ExactBelow d (act_term (freely to shapes) 0 t) (act (freely to shapes) 0 s) (act_set (freely to shapes) 0 c)
  map_exactly (exact_variable {g = g} {p = p} {s = s} {c = c} there) d to shapes maps formed k =
      let entry = maps.entries p s c there in
      record {
        shape = entry.shape;
        set = variable_set (Free (to p));
        exact = exact_variable entry.there;
        captures = subst (SubcapturesSet d (variable_set (Free (to p)))) (sym (flat_image-of_single ((freely to shapes).element 0) (Variable (Free p)))) (subcaptures_reflexive d (variable_set (Free (to p))));
        below = entry.below d as_is (act (freely to shapes) 0 s) alike;
      }
  map_exactly (exact_literal {g = g}) d to shapes maps formed k = exactly_below (exactly_is refl (sym (map_nothing g d to shapes maps formed 0)) exact_literal)
  map_exactly (exact_function {g = g} {takes = takes} {gives = gives} {c = c} {e = e} {body = body} kg ke typed) d to shapes maps formed k =
      let entry : IsKindedEntry (kinds_of g) (TermEntry takes c) = (k.0, k.1) in
      let under = maps_under g d to shapes maps formed (TermEntry takes c) entry in
      let body' = map_typed typed (TermEntry (act (freely to shapes) 0 takes) (act_set (freely to shapes) 0 c) ∷ d) (overridden to (length g) (length d)) (overridden shapes (length g) (TypeVariable (Free (length d)))) under (entry, formed) in
      exactly_below
      (exactly_is refl (captured_variables-act (freely to shapes) (PassesBinders-freely to shapes) 0 (FunctionTerm takes c body))
      (exact_function (map_kinded g d to shapes maps (TermKind ∷ []) 1 gives kg) (map_kinds g d to shapes maps (TermKind ∷ []) SetSort e ke)
      (typed_is (opened_map g d to shapes maps TermSort TermKind body k.2) (opened_map g d to shapes maps ShapeSort TermKind gives kg) (opened_map g d to shapes maps SetSort TermKind e ke) body')))
  map_exactly (exact_type_function {g = g} {bound = bound} {gives = gives} {e = e} {body = body} kg ke typed) d to shapes maps formed k =
      let entry : IsKindedEntry (kinds_of g) (TypeEntry bound) = k.0 in
      let under = maps_under g d to shapes maps formed (TypeEntry bound) entry in
      let body' = map_typed typed (TypeEntry (act (freely to shapes) 0 bound) ∷ d) (overridden to (length g) (length d)) (overridden shapes (length g) (TypeVariable (Free (length d)))) under (entry, formed) in
      exactly_below
      (exactly_is refl (captured_variables-act (freely to shapes) (PassesBinders-freely to shapes) 0 (TypeFunctionTerm bound body))
      (exact_type_function (map_kinded g d to shapes maps (TypeKind ∷ []) 1 gives kg) (map_kinds g d to shapes maps (TypeKind ∷ []) SetSort e ke)
      (typed_is (opened_map g d to shapes maps TermSort TypeKind body k.1) (opened_map g d to shapes maps ShapeSort TypeKind gives kg) (opened_map g d to shapes maps SetSort TypeKind e ke) body')))
  map_exactly (exact_application {g = g} {function = v} {argument = w} {takes = takes} {gives = gives} {c = c} {e = e} function argument) d to shapes maps formed k =
      let f = IsFree-freely to shapes maps.closed in
      let sends = sends_at g d to shapes maps formed argument in
      exactly_below
      (exactly_is
      (ap (act (putting (renamed_variable to w)) 0) (map_level g d to shapes maps 1 0 gives) ∙ sym (free-putting (freely to shapes) f w (renamed_variable to w) sends ShapeSort 0 gives))
      (sym (free-putting (freely to shapes) f w (renamed_variable to w) sends SetSort 0 e))
      (exact_application (map_variable g d to shapes maps formed function) (map_variable g d to shapes maps formed argument)))
  map_exactly (exact_type_application {g = g} {function = v} {bound = bound} {gives = gives} {argument = r} {e = e} function below) d to shapes maps formed k =
      let f = IsFree-freely to shapes maps.closed in
      exactly_below
      (exactly_is
      (ap (act (putting_shape (act (freely to shapes) 0 r)) 0) (map_level g d to shapes maps 1 0 gives) ∙ sym (free-putting_shape (freely to shapes) f r ShapeSort 0 gives))
      (putting_shape_set (act (freely to shapes) 0 r) 0 (act_set (freely to shapes) 0 e) ∙ ap (act_set (freely to shapes) 0) (sym (putting_shape_set r 0 e)))
      (exact_type_application (map_variable g d to shapes maps formed function) (map_subtypes below d to shapes maps formed k.1 function.kinded.0)))
  map_exactly (exact_box {g = g} {c = c} has none) d to shapes maps formed k =
      exactly_below (exactly_is refl (sym (map_nothing g d to shapes maps formed 0)) (exact_box (map_variable g d to shapes maps formed has) (map_no_cap g d to shapes maps formed c none)))
  map_exactly (exact_unboxing {g = g} {c = c} has none) d to shapes maps formed k =
      exactly_below (exact_unboxing (map_variable g d to shapes maps formed has) (map_no_cap g d to shapes maps formed c none))
  map_exactly (exact_let {g = g} {note = note} {right = right} {body = body} {bound = bound} {s = s} {c = c} {e = e} typed is typed_body ks ke) d to shapes maps formed k =
      let entry : IsKindedEntry (kinds_of g) (TermEntry bound c) = (typed_kinded typed, typed_kinded_set typed) in
      let under = maps_under g d to shapes maps formed (TermEntry bound c) entry in
      let right' = map_typed typed d to shapes maps formed in
      let body' = map_typed typed_body (TermEntry (act (freely to shapes) 0 bound) (act_set (freely to shapes) 0 c) ∷ d) (overridden to (length g) (length d)) (overridden shapes (length g) (TypeVariable (Free (length d)))) under (entry, formed) in
      exactly_below
      (exact_let right' (map_note g d to shapes maps formed note bound c is)
      (typed_is (opened_map g d to shapes maps TermSort TermKind body k.2) (same_under g d to shapes maps formed s ks) (same_set_under g d to shapes maps formed e ke) body')
      (map_kinds g d to shapes maps [] ShapeSort s ks) (map_kinds g d to shapes maps [] SetSort e ke))
  map_exactly (exact_primitive {g = g} left right) d to shapes maps formed k =
      exactly_below (exactly_is refl (sym (map_nothing g d to shapes maps formed 0)) (exact_primitive (map_variable g d to shapes maps formed left) (map_variable g d to shapes maps formed right)))
  map_exactly (exact_conditional {g = g} test positive negative) d to shapes maps formed k =
      exactly_below (exact_conditional (map_variable g d to shapes maps formed test) (map_typed positive d to shapes maps formed) (map_typed negative d to shapes maps formed))
  map_exactly (exact_repetition {g = g} count function) d to shapes maps formed k =
      exactly_below
      (exactly_is refl (sym (map_nothing g d to shapes maps formed 0))
      (exact_repetition (map_variable g d to shapes maps formed count)
      (has_is (λ i. FunctionShape (BaseShape bases.Int) (map_nothing g d to shapes maps formed 0 i) (BaseShape bases.Unit) (map_nothing g d to shapes maps formed 1 i)) refl (map_variable g d to shapes maps formed function))))
  map_exactly (exact_operation {g = g} receiver taken argument) d to shapes maps formed k =
      exactly_below (exactly_is refl (sym (map_nothing g d to shapes maps formed 0)) (exact_operation (map_variable g d to shapes maps formed receiver) taken (map_variable g d to shapes maps formed argument)))
  map_exactly (exact_operation_alone {g = g} receiver taken) d to shapes maps formed k =
      exactly_below (exactly_is refl (sym (map_nothing g d to shapes maps formed 0)) (exact_operation_alone (map_variable g d to shapes maps formed receiver) taken))
  map_exactly (exact_boundary {g = g} {gives = gives} {body = body} typed) d to shapes maps formed k =
      let entry : IsKindedEntry (kinds_of g) (TermEntry (ExitShape gives) (single Cap)) = (k.0, kinded_single (kinds_of g) [] Cap tt) in
      let under = maps_under g d to shapes maps formed (TermEntry (ExitShape gives) (single Cap)) entry in
      let body' = map_typed typed (TermEntry (ExitShape (act (freely to shapes) 0 gives)) (act_set (freely to shapes) 0 (single Cap)) ∷ d) (overridden to (length g) (length d)) (overridden shapes (length g) (TypeVariable (Free (length d)))) under (entry, formed) in
      let body'' = typed_is (opened_map g d to shapes maps TermSort TermKind body k.1) (same_under g d to shapes maps formed gives k.0)
      (flat_image-empty ((freely (overridden to (length g) (length d)) (overridden shapes (length g) (TypeVariable (Free (length d))))).element 0)) body' in
      exactly_below
      (exactly_is refl (sym (map_nothing g d to shapes maps formed 0))
      (exact_boundary
      (subst (λ x. Typed (TermEntry (ExitShape (act (freely to shapes) 0 gives)) x ∷ d) (opened_term (length d) (act_term (freely to shapes) 1 body)) (act (freely to shapes) 0 gives) empty) (map_cap g d to shapes maps formed) body'')))
  map_exactly (exact_leave {g = g} exit value) d to shapes maps formed k =
      exactly_below (exact_leave (map_variable g d to shapes maps formed exit) (has_is refl (map_nothing g d to shapes maps formed 0) (map_variable g d to shapes maps formed value)))

  pub map_typed : {g : Context} {t : Term} {s : Shape} {c : Set} → Typed g t s c → (d : Context) (to : ℕ → ℕ) (shapes : ℕ → Shape) → Maps g d to shapes → IsKindedContext g
      → Typed d (act_term (freely to shapes) 0 t) (act (freely to shapes) 0 s) (act_set (freely to shapes) 0 c)
  map_typed (widened {g = g} {t = t} {s = s} {s' = s'} {c = c} {c' = c'} kt exact captures below ks kc) d to shapes maps formed =
      let at = map_exactly exact d to shapes maps formed kt in
      let k = exactly_kinded exact formed kt in
      widened (map_kinded_term g d to shapes maps formed t kt) at.exact
      (subcaptures_transitive d at.set (act_set (freely to shapes) 0 c) (act_set (freely to shapes) 0 c') at.captures (map_subcaptures g d to shapes maps c c' captures))
      (direct_transitive d at.shape (act (freely to shapes) 0 s) (act (freely to shapes) 0 s') at.below (map_subtypes below d to shapes maps formed k.0 ks))
      (map_kinds g d to shapes maps [] ShapeSort s' ks) (map_kinds g d to shapes maps [] SetSort c' kc)
