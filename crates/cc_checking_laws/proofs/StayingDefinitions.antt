-- With enough steps for each comparison, the derivation of an accepted definition is the canonical one.
use Rattle.std.proofs.Common.{◌≡◌, ℕ, ◌+◌, ◌≤◌, true, false, cond, [], ◌∷◌, length, refl, sym, ap, ◌∙◌, subst}
use Rattle.std.proofs.lemmas.Bool.{cond-true}
use Rattle.cc_capture.specs.Sets.{Set}
use Rattle.cc_core.specs.Shapes.{Shape, CapturingType, capturing}
use Rattle.cc_core.specs.Terms.{Note, Absent, Written, Own, Term}
use Rattle.cc_core.specs.Contexts.{Context}
use Rattle.cc_core.specs.Equality.{same_type}
use Rattle.cc_core.specs.Derivations.{OfType, TypeBelow, Derivation, IsValidComparison, IsValidTyping, Concludes}
use Rattle.cc_core.specs.Subtyping.{SubtypesType}
use Rattle.cc_core.specs.WellFormed.{kinds_of}
use Rattle.cc_core.proofs.DerivationComparisons.{type_derivations}
use Rattle.cc_core.proofs.KindFacts.{IsKinded, IsKindedType, IsKindedType-from}
use Rattle.cc_core.proofs.SubcapturingContexts.{IsKindedContext}
use Rattle.cc_checking.specs.Inference.{type_in}
use Rattle.cc_checking.specs.CanonicalDerivations.{type_derived, shape_derived, canonical_shapes, typed, raised, raised_if, noted_derived, term_derived, definition_derived}
use Rattle.cc_checking.specs.Verdicts.{Definition, Accepted, IsAccepted, HasVerdict}
use Rattle.cc_checking_laws.specs.CheckingLaws.{Fits}
use Rattle.cc_checking_laws.specs.AcceptedDefinitions.{definition_context, accepted_derived}
use Rattle.cc_checking_laws.proofs.CheckedDefinitions.{accepted_sound}
use Rattle.cc_checking_laws.proofs.DerivedDefinitions.{canonical_derives, accepted_derives}
use Rattle.cc_checking_laws.proofs.DerivedRows.{Derives, gives}
use Rattle.cc_checking_laws.proofs.DerivedTerms.{finds_derived}
use Rattle.cc_checking_laws.proofs.FoundTypes.{regular}
use Rattle.cc_checking_laws.proofs.ReadingKinds.{outermost}
use Rattle.cc_checking_laws.specs.StayingLaws.{DerivationsOfDefinitionsStay}
use Rattle.cc_checking_laws.proofs.BecomingTerms.{Becomes, still, below_become, raised_becomes, raised_if_becomes, term_becomes}
use Rattle.cc_checking_laws.proofs.FoundAgain.{IsFound, accepted_found}

-- what a valid derivation of types says
types_below : (g : Context) (l r : CapturingType) → IsValidComparison g (type_derived canonical_shapes g l r)
    → SubtypesType g l r
types_below g l r valid = (type_derivations g l r).1 (type_derived canonical_shapes g l r, valid, refl)

module _ (g : Context) (formed : IsKindedContext g) where
  -- a type that is widened in a valid derivation
  widened : (t : Term) (f : ℕ → Derivation) (d : Derivation) (l r : CapturingType) → Becomes f d → typed d ≡ l
      → IsKindedType (kinds_of g) [] l → IsKindedType (kinds_of g) [] r
      → IsValidTyping g t (raised canonical_shapes g d r)
      → Becomes (λ m. shape_derived m g l.shape r.shape) (canonical_shapes g l.shape r.shape)
  widened t f d l r p e kl kr valid =
      let below : SubtypesType g l r = subst (λ (x : CapturingType). SubtypesType g x r) e (types_below g (typed d) r valid.6) in
      below_become g formed l.shape r.shape kl.0 kr.0 below.1

  -- what is written for the type
  noted : (note : Note) (t : Term) (f : ℕ → Derivation) (d : Derivation) (l type : CapturingType) → Becomes f d → typed d ≡ l
      → IsKindedType (kinds_of g) [] l → IsKindedType (kinds_of g) [] type
      → Derives g t (noted_derived canonical_shapes g note d) type
      → Becomes (λ m. noted_derived (shape_derived m) g note (f m)) (noted_derived canonical_shapes g note d)
  noted (Written s c) t f d l type p e kl kt shown =
      let r : CapturingType = type_in g (capturing s c) in
      let is : r ≡ type = gives shown in
      raised_becomes g formed f d l r p e (widened t f d l r p e kl (subst (IsKindedType (kinds_of g) []) (sym is) kt) shown.valid)
  noted Absent t f d l type p e kl kt shown = p
  noted (Own s) t f d l type p e kl kt shown = p

  -- and what it is widened to where that differs
  signed : (t : Term) (f : ℕ → Derivation) (d : Derivation) (l r : CapturingType) → Becomes f d → typed d ≡ l
      → IsKindedType (kinds_of g) [] l → IsKindedType (kinds_of g) [] r
      → IsValidTyping g t (raised_if canonical_shapes g d r)
      → Becomes (λ m. raised_if (shape_derived m) g (f m) r) (raised_if canonical_shapes g d r)
  signed t f d l r p e kl kr valid =
      elim (same_type (typed d) r) as (λ b. same_type (typed d) r ≡ b → IsValidTyping g t (cond b d (raised canonical_shapes g d r)) → Becomes (λ m. raised_if (shape_derived m) g (f m) r) (raised_if canonical_shapes g d r)) [
        | true ↦ λ same _. record {
          from = p.from;
          is = λ m le.
              ap (λ (z : Derivation). raised_if (shape_derived m) g z r) (p.is m le)
              ∙ cond-true (same_type (typed d) r) d (raised (shape_derived m) g d r) same
              ∙ sym (cond-true (same_type (typed d) r) d (raised canonical_shapes g d r) same);
        }
        | false ↦ λ _ v. raised_if_becomes g formed f d l r p e (widened t f d l r p e kl kr v)
      ] refl valid

pub definitions_stay : DerivationsOfDefinitionsStay
definitions_stay devices globals definition accepted fits verdict =
    let g : Context = definition_context globals definition accepted.signature in
    let t : Term = accepted.filled in
    let found = accepted_found devices globals definition accepted fits verdict in
    let shown = accepted_derives devices globals definition accepted fits verdict in
    let sound = accepted_sound devices globals definition accepted fits verdict in
    let k = found.formed in
    let kf = (regular g found.finding outermost k found.kinded).0 in
    let kt = IsKindedType-from (kinds_of g) [] accepted.type sound.types.0.type_formed in
    let ks = IsKindedType-from (kinds_of g) [] accepted.signature sound.types.1.type_formed in
    let own = gives (finds_derived canonical_shapes canonical_derives g found.finding refl outermost k found.kinded found.holds) in
    let p = term_becomes g found.finding refl outermost k found.kinded found.holds in
    let q = noted g k accepted.note t (λ m. term_derived (shape_derived m) g t) (term_derived canonical_shapes g t) found.type accepted.type p own kf kt shown.own in
    let r = signed g k t (λ m. noted_derived (shape_derived m) g accepted.note (term_derived (shape_derived m) g t)) (noted_derived canonical_shapes g accepted.note (term_derived canonical_shapes g t)) accepted.type accepted.signature q (gives shown.own) kt ks shown.seen.valid in
    (r.from, r.is)
