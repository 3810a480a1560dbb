-- The laws of typing, from those of typing by form.
use Rattle.std.proofs.Common.{◌≡◌, ℕ, true, List, [], ◌∷◌, ◌++◌, Some, inl, inr, refl, sym, ap, ◌∙◌, subst}
use Rattle.std.proofs.lemmas.Bool.{and_parts}
use Rattle.cc_capture.specs.declared.var.Var.{Var}
use Rattle.cc_capture.specs.declared.var.Var.TheVariants.{Free}
use Rattle.cc_capture.specs.declared.var.Elem.TheVariants.{Var as Variable, Cap}
use Rattle.cc_capture.specs.Sets.{Set, Member, empty}
use Rattle.cc_core.specs.Shapes.{Shape, BoxShape, CapturingType}
use Rattle.cc_core.specs.Terms.{BoxTerm}
use Rattle.cc_core.specs.Captured.{variable_set}
use Rattle.cc_core.specs.Typing.{HasNoCap}
use Rattle.cc_core.specs.Contexts.{Bind, TermEntry, TypeEntry, Context, lookup}
use Rattle.cc_core.specs.Traversal.{act, act_set}
use Rattle.cc_core.specs.Substitution.{freely}
use Rattle.cc_core.specs.WellFormed.{Kind, TermKind, TypeKind, kinds_of, is_well_formed_shape, is_well_formed_set, is_well_formed_type}
use Rattle.cc_core.specs.Subcapturing.{Subcaptures, element, variable, SubcapturesSet}
use Rattle.cc_core.proofs.Lookups.{lookup-newest}
use Rattle.cc_core.proofs.CapturedKinds.{empty_kinded}
use Rattle.cc_core.proofs.Moving.{Member-single, Member-single_itself}
use Rattle.cc_core.proofs.KindFacts.{IsKindedElement, IsKindedSet, IsKinded, IsKinded-from, IsKindedSet-from, IsKindedTerm-from}
use Rattle.cc_typing_laws.specs.TypingLaws.{TypingWeakens, TypingNarrows, VariablesSubstitute, ShapesSubstitute, ValuesCaptureTheirSets, BoxesAreOfAnyTypeOfTheirContent}
use Rattle.cc_typing_laws.proofs.DirectSubtyping.{SubtypesDirectly, alike, boxes, through_bound, direct_from}
use Rattle.cc_typing_laws.proofs.FreeMaps.{no_type_entry, Longer, as_is, more, longer-tail, lookup-kept, lookup_cases, still, still_set, still_term, same_position, same_variable, Maps, EntryBelow, subtypes-kept, subcaptures-kept}
use Rattle.cc_core.proofs.SubcapturingContexts.{IsKindedContext, IsKindedContext-from, kind_of_entry}
use Rattle.cc_core.proofs.SubcapturingLemmas.{subcaptures_reflexive, subcaptures_transitive}
use Rattle.cc_typing_laws.proofs.DirectSubtyping.{direct_transitive}
use Rattle.cc_typing_laws.proofs.FormedContexts.{kinded_single}
use Rattle.cc_typing_laws.proofs.InternalTyping.{HasVariable, exact_box, Typed, widened}
use Rattle.cc_typing_laws.proofs.TypingMaps.{typed_is, typed_kinded_term, map_typed}
use Rattle.cc_typing_laws.proofs.TypingLemmas.{typed_longer, variable_typed, body_typed, type_body_typed, answer_captures}
use Rattle.cc_typing_laws.proofs.InternalConversions.{typed_from, type_from}

longer_by : (added g : Context) → Longer g (added ++ g)
longer_by [] g = as_is
longer_by (b ∷ added) g = more b (longer_by added g)

pub typing_weakens : TypingWeakens
typing_weakens g added t type formed h =
    let typed = typed_longer (longer_by added g) (IsKindedContext-from g h.context_formed) (typed_from h) in
    type_from (IsKindedContext-from (added ++ g) formed) (typed_kinded_term typed) typed

type_parts : (kinds passed : List Kind) (type : CapturingType) → (is_well_formed_type kinds passed type ≡ true) → IsKinded kinds passed type.shape × IsKindedSet kinds passed type.set
type_parts kinds passed type h =
    let parts = and_parts (is_well_formed_shape kinds passed type.shape) (is_well_formed_set kinds passed type.set) h in
    (IsKinded-from kinds passed type.shape parts.0, IsKindedSet-from kinds passed type.set parts.1)

pub variables_substitute : VariablesSubstitute
variables_substitute g takes type body v kb kt h hv =
    let formed = IsKindedContext-from g hv.context_formed in
    let parts = type_parts (kinds_of g) (TermKind ∷ []) type kt in
    let typed = body_typed g formed takes.shape takes.set v (variable_typed (typed_from hv)) body type.shape type.set (IsKindedTerm-from (kinds_of g) (TermKind ∷ []) body kb) parts.0 parts.1 (typed_from h) in
    type_from formed (typed_kinded_term typed) typed

pub shapes_substitute : ShapesSubstitute
shapes_substitute g bound shape type body kb kt h ks below =
    let outer = IsKindedContext-from (TypeEntry bound ∷ g) h.context_formed in
    let parts = type_parts (kinds_of g) (TypeKind ∷ []) type kt in
    let typed = type_body_typed g outer.1 bound shape outer.0 (IsKinded-from (kinds_of g) [] shape ks) (direct_from below) body type.shape type.set (IsKindedTerm-from (kinds_of g) (TypeKind ∷ []) body kb) parts.0 parts.1 (typed_from h) in
    type_from outer.1 (typed_kinded_term typed) typed

-- Narrowing: the map that leaves each variable, into a context where the newest has a smaller type.
entry_shapes : {s s' : Shape} {c c' : Set} → TermEntry s c ≡ TermEntry s' c' → (s ≡ s') × (c ≡ c')
entry_shapes e = (cc, cc)

kept_at : (b b' : Bind) (g : Context) (p : ℕ) (x : Bind) → lookup g p ≡ Some x → lookup (b' ∷ g) p ≡ Some x
kept_at b b' g p x at = lookup-kept (more b' as_is) p x at

module _ (g : Context) (formed : IsKindedContext g) (s s' : Shape) (c c' : Set) (ks : IsKinded (kinds_of g) [] s) (ks' : IsKinded (kinds_of g) [] s') (captures : SubcapturesSet g c' c) (below : SubtypesDirectly g s' s) where
  maps_narrow : Maps (TermEntry s c ∷ g) (TermEntry s' c' ∷ g) same_position same_variable
  maps_narrow = record {
    closed = λ p. tt;
    kinded = λ p b there.
        elim (lookup_cases (TermEntry s c) g p (TypeEntry b) there) as (λ _. IsKinded (kinds_of (TermEntry s' c' ∷ g)) [] (same_variable p)) [
          | inl new ↦ absurd (no_type_entry new.1)
          | inr old ↦ kind_of_entry (TermEntry s' c' ∷ g) p (TypeEntry b) (kept_at (TermEntry s c) (TermEntry s' c') g p (TypeEntry b) old.1)
        ];
    sends = λ p x y there. refl;
    sets = λ p x y there e l above less.
        elim (lookup_cases (TermEntry s c) g p (TermEntry x y) there) as (λ _. Subcaptures e (Variable (Free p)) above) [
          | inl new ↦
              let at : lookup e p ≡ Some (TermEntry s' c') = lookup-kept l p (TermEntry s' c') (ap (lookup (TermEntry s' c' ∷ g)) new.0 ∙ lookup-newest (TermEntry s' c') g) in
              let less' : SubcapturesSet e c above = subst (λ z. SubcapturesSet e z above) (ap (act_set (freely same_position same_variable) 0) (entry_shapes new.1).1 ∙ still_set 0 c) less in
              variable at (subcaptures_transitive e c' c above (subcaptures-kept (longer-tail l) c' c captures) less')
          | inr old ↦
              variable (lookup-kept l p (TermEntry x y) (kept_at (TermEntry s c) (TermEntry s' c') g p (TermEntry x y) old.1)) (subst (λ z. SubcapturesSet e z above) (still_set 0 y) less)
        ];
    bounds = λ p b there e l above less.
        elim (lookup_cases (TermEntry s c) g p (TypeEntry b) there) as (λ _. SubtypesDirectly e (same_variable p) above) [
          | inl new ↦ absurd (no_type_entry new.1)
          | inr old ↦ through_bound (lookup-kept l p (TypeEntry b) (kept_at (TermEntry s c) (TermEntry s' c') g p (TypeEntry b) old.1)) (subst (λ z. SubtypesDirectly e z above) (still 0 b) less)
        ];
    entries = λ p x y there.
        elim (lookup_cases (TermEntry s c) g p (TermEntry x y) there) as (λ _. EntryBelow (TermEntry s' c' ∷ g) p (act (freely same_position same_variable) 0 x)) [
          | inl new ↦ record {
            shape = s';
            set = c';
            there = ap (lookup (TermEntry s' c' ∷ g)) new.0 ∙ lookup-newest (TermEntry s' c') g;
            below = λ e l above h.
                direct_transitive e s' s above (subtypes-kept (longer-tail l) formed s' s ks' ks below)
                (subst (λ z. SubtypesDirectly e z above) (still 0 x ∙ (entry_shapes new.1).0) h);
          }
          | inr old ↦ record {
            shape = x;
            set = y;
            there = kept_at (TermEntry s c) (TermEntry s' c') g p (TermEntry x y) old.1;
            below = λ e l above h. subst (λ z. SubtypesDirectly e z above) (still 0 x) h;
          }
        ];
  }

pub typing_narrows : TypingNarrows
typing_narrows g wide narrow type t less formed' h =
    let outer = IsKindedContext-from (TermEntry wide.shape wide.set ∷ g) h.context_formed in
    let inner = IsKindedContext-from (TermEntry narrow.shape narrow.set ∷ g) formed' in
    let typed = map_typed (typed_from h) (TermEntry narrow.shape narrow.set ∷ g) same_position same_variable
    (maps_narrow g outer.1 wide.shape narrow.shape wide.set narrow.set outer.0.0 inner.0.0 less.0 (direct_from less.1)) outer in
    let typed' = typed_is (still_term 0 t) (still 0 type.shape) (still_set 0 type.set) typed in
    type_from inner (typed_kinded_term typed') typed'

pub values_capture_their_sets : ValuesCaptureTheirSets
values_capture_their_sets g v type isv h = answer_captures (typed_from h) isv

-- a box of the content's own set, widened
boxed : {g : Context} {v : Var} {s : Shape} {c : Set} → HasVariable g v s c → Typed g (BoxTerm v) (BoxShape s c) empty
boxed {g = g} {v = v} {s = s} {c = c} has =
    let own : IsKindedElement (kinds_of g) [] (Variable v) = subst (λ w. IsKindedElement (kinds_of g) [] (Variable w)) (sym has.is) (kind_of_entry g has.position (TermEntry has.shape has.set) has.there) in
    let has_own : HasVariable g v s (variable_set v) = record {
      position = has.position;
      is = has.is;
      shape = has.shape;
      set = has.set;
      there = has.there;
      below = has.below;
      captured = element (subst (λ w. Member (Variable (Free has.position)) (variable_set w)) (sym has.is) (Member-single_itself (Variable (Free has.position))));
      kinded = has.kinded;
      kinded_set = kinded_single (kinds_of g) [] (Variable v) own;
    } in
    let captured : SubcapturesSet g (variable_set v) c =
    λ x here. subst (λ y. Subcaptures g y c) (ap (λ w. Variable w) (sym has.is) ∙ sym (Member-single x (Variable v) here)) has.captured in
    let none : HasNoCap (variable_set v) = λ here. cap_is_no_variable (Member-single Cap (Variable v) here) in
    widened own (exact_box has_own none) (subcaptures_reflexive g empty) (boxes captured alike) (has.kinded, has.kinded_set) (empty_kinded (kinds_of g) [])
  where
    cap_is_no_variable : {w : Var} → Cap ≡ Variable w → ⊥
    cap_is_no_variable e = cc

pub boxes_are_of_any_type_of_their_content : BoxesAreOfAnyTypeOfTheirContent
boxes_are_of_any_type_of_their_content g v type h =
    let formed = IsKindedContext-from g h.context_formed in
    let typed = boxed (variable_typed (typed_from h)) in
    type_from formed (typed_kinded_term typed) typed
