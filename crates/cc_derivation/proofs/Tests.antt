-- What the tests of rows say, in both directions.
use Rattle.std.proofs.Common.{◌≡◌, ◌↔◌, Bool, true, false, not, ◌&&◌, List, [], ◌∷◌, Option, Some, None, refl, ap, sym, ◌∙◌}
use Rattle.std.proofs.lemmas.Bool.{both_ways}
use Rattle.cc_base.specs.declared.literal.Base.{Base}
use Rattle.cc_capture.specs.Sets.{Set, Member, contains, same_set}
use Rattle.cc_capture.specs.declared.var.Elem.TheVariants.{Cap}
use Rattle.cc_capture.proofs.Equality.{same_set-decides}
use Rattle.cc_core.specs.Shapes.{Shape, BaseShape, CapturingType, capturing}
use Rattle.cc_core.specs.Terms.{Note, Absent, Written, Own}
use Rattle.cc_core.specs.Equality.{same_shape, same_type}
use Rattle.cc_core.specs.Typing.{IsNoteOf, HasNoCap}
use Rattle.cc_core.specs.Derivations.{Claim, SetBelow, ShapeBelow, TypeBelow, OfType}
use Rattle.cc_core.proofs.Comparisons.{same_shape-decides, same_type-decides}
use Rattle.cc_derivation.specs.Rows.{same_claim, same_claims, provided, is_base, has_no_cap, is_note_of, is_given}

pub both : (a b : Bool) → (a && b) ≡ true → (a ≡ true) × (b ≡ true)
both true true h = (refl, refl)
both true false h = cc
both false b h = cc

pub joined : (a b : Bool) → a ≡ true → b ≡ true → (a && b) ≡ true
joined a b p q = rw (p, q)

pub shapes_same : (a b : Shape) → same_shape a b ≡ true → a ≡ b
shapes_same a b h = (same_shape-decides a b).0 h

pub same_shapes : (a b : Shape) → a ≡ b → same_shape a b ≡ true
same_shapes a b e = (same_shape-decides a b).1 e

pub types_same : (a b : CapturingType) → same_type a b ≡ true → a ≡ b
types_same a b h = (same_type-decides a b).0 h

pub same_types : (a b : CapturingType) → a ≡ b → same_type a b ≡ true
same_types a b e = (same_type-decides a b).1 e

pub sets_same : (a b : Set) → same_set a b ≡ true → a ≡ b
sets_same a b h = (same_set-decides a b).0 h

pub same_sets : (a b : Set) → a ≡ b → same_set a b ≡ true
same_sets a b e = (same_set-decides a b).1 e

-- claims

pub claims_same : (a b : Claim) → same_claim a b ≡ true → a ≡ b
claims_same (SetBelow a b) (SetBelow a' b') h =
    let t = both (same_set a a') (same_set b b') h in
    let p = sets_same a a' t.0 in
    let q = sets_same b b' t.1 in
    λ i. SetBelow (p i) (q i)
claims_same (ShapeBelow a b) (ShapeBelow a' b') h =
    let t = both (same_shape a a') (same_shape b b') h in
    let p = shapes_same a a' t.0 in
    let q = shapes_same b b' t.1 in
    λ i. ShapeBelow (p i) (q i)
claims_same (TypeBelow a b) (TypeBelow a' b') h =
    let t = both (same_type a a') (same_type b b') h in
    let p = types_same a a' t.0 in
    let q = types_same b b' t.1 in
    λ i. TypeBelow (p i) (q i)
claims_same (OfType a) (OfType a') h = ap OfType (types_same a a' h)
claims_same _ _ h = cc

same_claim-itself : (a : Claim) → same_claim a a ≡ true
same_claim-itself (SetBelow a b) = joined _ _ (same_sets a a refl) (same_sets b b refl)
same_claim-itself (ShapeBelow a b) = joined _ _ (same_shapes a a refl) (same_shapes b b refl)
same_claim-itself (TypeBelow a b) = joined _ _ (same_types a a refl) (same_types b b refl)
same_claim-itself (OfType a) = same_types a a refl

pub claim_same : (a b : Claim) → a ≡ b → same_claim a b ≡ true
claim_same a b e = ap (same_claim a) (sym e) ∙ same_claim-itself a

pub one_same : (p a : Claim) → same_claims (p ∷ []) (a ∷ []) ≡ true → p ≡ a
one_same p a h = claims_same p a (both (same_claim p a) true h).0

pub one_wanted : (p a : Claim) → p ≡ a → same_claims (p ∷ []) (a ∷ []) ≡ true
one_wanted p a e = joined (same_claim p a) true (claim_same p a e) refl

pub two_same : (p q a b : Claim) → same_claims (p ∷ q ∷ []) (a ∷ b ∷ []) ≡ true → (p ≡ a) × (q ≡ b)
two_same p q a b h =
    let t = both (same_claim p a) (same_claim q b && true) h in
    (claims_same p a t.0, claims_same q b (both (same_claim q b) true t.1).0)

pub two_wanted : (p q a b : Claim) → p ≡ a → q ≡ b → same_claims (p ∷ q ∷ []) (a ∷ b ∷ []) ≡ true
two_wanted p q a b e f =
    joined (same_claim p a) (same_claim q b && true) (claim_same p a e) (joined (same_claim q b) true (claim_same q b f) refl)

-- what a rule gives

pub provided_true : (test : Bool) (value type : CapturingType) → is_given type (provided test value) ≡ true → (test ≡ true) × (type ≡ value)
provided_true true value type h = (refl, sym (types_same value type h))
provided_true false value type h = cc

pub provided_gives : (test : Bool) (value : CapturingType) → test ≡ true → is_given value (provided test value) ≡ true
provided_gives test value e = rw e (same_types value value refl)

pub some_true : (value type : CapturingType) → is_given type (Some value) ≡ true → type ≡ value
some_true value type h = sym (types_same value type h)

pub some_gives : (value : CapturingType) → is_given value (Some value) ≡ true
some_gives value = same_types value value refl

-- side conditions

pub no_cap : (set : Set) → has_no_cap set ≡ true → HasNoCap set
no_cap set h here = lacks (contains Cap set) h here
  where
    lacks : (b : Bool) → not b ≡ true → b ≡ true → ⊥
    lacks true h here = cc
    lacks false h here = cc

pub cap_tested : (set : Set) → HasNoCap set → has_no_cap set ≡ true
cap_tested set none = tested (contains Cap set) none
  where
    tested : (b : Bool) → (b ≡ true → ⊥) → not b ≡ true
    tested true none = absurd (none refl)
    tested false none = refl

pub note_true : (note : Note) (type : CapturingType) → is_note_of note type ≡ true → IsNoteOf note type.shape type.set
note_true Absent type h = tt
note_true (Written shape set) type h =
    let t = both (same_shape shape type.shape) (same_set set type.set) h in
    (shapes_same shape type.shape t.0, sets_same set type.set t.1)
note_true (Own shape) type h = cc

pub note_tested : (note : Note) (type : CapturingType) → IsNoteOf note type.shape type.set → is_note_of note type ≡ true
note_tested Absent type h = refl
note_tested (Written shape set) type h =
    joined (same_shape shape type.shape) (same_set set type.set) (same_shapes shape type.shape h.0) (same_sets set type.set h.1)
note_tested (Own shape) type h = absurd h
