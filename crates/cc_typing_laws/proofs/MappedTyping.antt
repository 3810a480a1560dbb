-- Typing along maps of contexts: each map is one that sends variables of terms to themselves as type variables too, as far
-- as well-formed terms and types can tell.
use Rattle.cc_core.proofs.SubcapturingContexts.{IsKindedContext, IsKindedContext-from, entry_kinded, entry_of_type}
use Rattle.std.proofs.Common.{◌≡◌, ℕ, List, [], Option, Some, None, refl, sym, ap, subst}
use Rattle.cc_capture.specs.declared.var.Var.{Var}
use Rattle.cc_capture.specs.declared.var.Var.TheVariants.{Bound, Free}
use Rattle.cc_core.specs.Shapes.{Shape, TypeVariable, CapturingType}
use Rattle.cc_core.specs.Terms.{Term}
use Rattle.cc_core.specs.Contexts.{Bind, TermEntry, TypeEntry, Context, lookup}
use Rattle.cc_core.specs.Traversal.{act, act_type, act_term}
use Rattle.cc_core.specs.Substitution.{freely, free_shape}
use Rattle.cc_core.specs.Occurrences.{Meets, bound_within, agreement}
use Rattle.cc_core.specs.WellFormed.{Kind, TypeKind, kinds_of}
use Rattle.cc_core.specs.Typing.{HasType}
use Rattle.cc_core.proofs.SubcapturingLemmas.{subcaptures_above}
use Rattle.cc_core.proofs.Actions.{act-congruent}
use Rattle.cc_core.proofs.TermActions.{act_term-congruent}
use Rattle.cc_core.proofs.Renaming.{renaming_as_free}
use Rattle.cc_core.proofs.KindFacts.{IsOfKind, IsKinded, IsKindedTerm, IsKinded-from}
use Rattle.cc_core.proofs.KindedActions.{KindsGive, IsKinded-meets, IsKindedTerm-meets}
use Rattle.cc_typing_laws.specs.ContextMaps.{Extends, unchanged, added, mapped, IsContextMap}
use Rattle.cc_typing_laws.specs.MappedTyping.{TypingAlongMaps, TypingRenames}
use Rattle.cc_typing_laws.proofs.DirectSubtyping.{SubtypesDirectly, direct_from, direct_transitive}
use Rattle.cc_typing_laws.proofs.FreeMaps.{Longer, as_is, more, Maps}
use Rattle.cc_typing_laws.proofs.ContextMapInstances.{renaming_map}
use Rattle.cc_typing_laws.proofs.InternalTyping.{Typed}
use Rattle.cc_typing_laws.proofs.TypingMaps.{typed_is, typed_kinded, typed_kinded_term, map_typed}
use Rattle.cc_typing_laws.proofs.InternalConversions.{typed_from, type_from}

longer_extends : {d e : Context} → Longer d e → Extends d e
longer_extends as_is = unchanged
longer_extends (more b l) = added b (longer_extends l)

-- the one shape where a variable of terms stands, and the other elsewhere
abbrev at_terms : Shape → Shape → Option Bind → Shape
at_terms one other None = other
at_terms one other (Some (TermEntry s c)) = one
at_terms one other (Some (TypeEntry b)) = other

at_terms_closed : (one other : Shape) (o : Option Bind) → Meets (bound_within 0) 0 one → Meets (bound_within 0) 0 other → Meets (bound_within 0) 0 (at_terms one other o)
at_terms_closed one other None h k = k
at_terms_closed one other (Some (TermEntry s c)) h k = h
at_terms_closed one other (Some (TypeEntry b)) h k = k

module _ (g d : Context) (to : ℕ → ℕ) (shapes : ℕ → Shape) (map : IsContextMap g d to shapes) (formed : IsKindedContext g) where
  abbrev sent : ℕ → Shape
  sent p = at_terms (TypeVariable (Free (to p))) (shapes p) (lookup g p)

  sent_type : (p : ℕ) (b : Shape) → lookup g p ≡ Some (TypeEntry b) → sent p ≡ shapes p
  sent_type p b there = ap (at_terms (TypeVariable (Free (to p))) (shapes p)) there

  sent_variable : (passed : List Kind) (v : Var) → IsOfKind (kinds_of g) passed v TypeKind → free_shape sent v ≡ free_shape shapes v
  sent_variable passed (Bound i) h = refl
  sent_variable passed (Free p) h = let found = entry_of_type g p h in sent_type p found.0 found.1

  kinds_agree : KindsGive (kinds_of g) [] (agreement (freely to sent) (freely to shapes))
  kinds_agree = record {
    element = λ passed x h. refl;
    shape = λ passed v h. sent_variable _ v h;
    variable = λ passed v h. refl;
  }

  sent_shape : (s : Shape) → IsKinded (kinds_of g) [] s → act (freely to sent) 0 s ≡ act (freely to shapes) 0 s
  sent_shape s k = act-congruent (freely to sent) (freely to shapes) 0 s (IsKinded-meets (kinds_of g) [] (agreement (freely to sent) (freely to shapes)) kinds_agree [] s k)

  sent_term : (t : Term) → IsKindedTerm (kinds_of g) [] t → act_term (freely to sent) 0 t ≡ act_term (freely to shapes) 0 t
  sent_term t k = act_term-congruent (freely to sent) (freely to shapes) 0 t (IsKindedTerm-meets (kinds_of g) [] (agreement (freely to sent) (freely to shapes)) kinds_agree [] t k)

  maps_sent : Maps g d to sent
  maps_sent = record {
    closed = λ p. at_terms_closed (TypeVariable (Free (to p))) (shapes p) (lookup g p) tt (map.closed p);
    kinded = λ p b there. subst (IsKinded (kinds_of d) []) (sym (sent_type p b there)) (IsKinded-from (kinds_of d) [] (shapes p) (map.formed p b there));
    sends = λ p s c there. ap (at_terms (TypeVariable (Free (to p))) (shapes p)) there;
    sets = λ p s c there e l above less. subcaptures_above (map.sets p s c there e (longer_extends l)) above less;
    bounds = λ p b there e l above less.
        subst (λ x. SubtypesDirectly e x above) (sym (sent_type p b there))
        (direct_transitive e (shapes p) (mapped to shapes b) above (direct_from (map.bounds p b there e (longer_extends l)))
        (subst (λ x. SubtypesDirectly e x above) (sent_shape b (entry_kinded g p (TypeEntry b) formed there)) less));
    entries = λ p s c there.
        let found = map.types p s c there in
        record {
          shape = found.0;
          set = found.1;
          there = found.2;
          below = λ e l above less.
              direct_transitive e found.0 (mapped to shapes s) above (direct_from (found.3 e (longer_extends l)))
              (subst (λ x. SubtypesDirectly e x above) (sent_shape s (entry_kinded g p (TermEntry s c) formed there).0) less);
        };
  }

  mapped_typed : (t : Term) (type : CapturingType) → Typed g t type.shape type.set
      → Typed d (act_term (freely to shapes) 0 t) (act_type (freely to shapes) 0 type).shape (act_type (freely to shapes) 0 type).set
  mapped_typed t type typed = typed_is (sent_term t (typed_kinded_term typed)) (sent_shape type.shape (typed_kinded typed)) refl (map_typed typed d to sent maps_sent formed)

pub typing_along_maps : TypingAlongMaps
typing_along_maps g d to shapes map formed t type h =
    let typed = mapped_typed g d to shapes map (IsKindedContext-from g h.context_formed) t type (typed_from h) in
    type_from (IsKindedContext-from d formed) (typed_kinded_term typed) typed

pub typing_renames : TypingRenames
typing_renames g d to found formed t type h =
    subst (λ a. HasType d (act_term a 0 t) (act_type a 0 type)) (sym (renaming_as_free to))
    (typing_along_maps g d to (λ p. TypeVariable (Free (to p))) (renaming_map g d to found) formed t type h)
