-- The contexts at the places of a derivation: their oldest entries have names, and the others are local binders.
use Rattle.std.proofs.Common.{◌≡◌, ℕ, zero, suc, ◌+◌, ◌≤◌, List, [], ◌∷◌, length, Some, inl, inr, refl, arith}
use Rattle.std.specs.List.{AllByRecursion}
use Rattle.cc_core.specs.Contexts.{Bind, TermEntry, TypeEntry, Context, lookup}
use Rattle.cc_core.specs.WellFormed.{Kind, TypeKind, kind_of, kinds_of}
use Rattle.cc_core.specs.Derivations.{Claim, SetBelow, ShapeBelow, TypeBelow, OfType}
use Rattle.cc_core.proofs.KindFacts.{IsKinded, IsKindedSet, IsKindedType}
use Rattle.cc_core.proofs.Lookups.{length_map, lookup-cases}
use Rattle.cc_core.proofs.SubcapturingContexts.{IsKindedEntry, IsKindedContext}
use Rattle.cc_certificate_laws.specs.CertificateLaws.{IsClosedClaim, HasNoHoleInClaim, IsTermEntry}
use Rattle.cc_certificate_laws.proofs.ClosedSyntax.{AreNames, set_closed, shape_closed, type_closed}

-- The context has names for its oldest entries, so many, and so many entries more; it is well formed.
pub record IsPlace (names locals : ℕ) (g : Context) : Type 0 where
  pub size : length g ≡ names + locals
  pub old : AreNames names (kinds_of g)
  pub formed : IsKindedContext g

names_kept : (names : ℕ) (kinds : List Kind) (k : Kind) → names ≤ length kinds → AreNames names kinds → AreNames names (k ∷ kinds)
names_kept names kinds k few old p found =
    elim (lookup-cases k kinds p TypeKind found) as (λ _. names ≤ p) [
      | inl here ↦ omega (arith, here.0, few)
      | inr there ↦ old p there
    ]

pub deeper_place : {names locals : ℕ} {g : Context} (entry : Bind) → IsPlace names locals g → IsKindedEntry (kinds_of g) entry
    → IsPlace names (suc locals) (entry ∷ g)
deeper_place {names} {locals} {g} entry place formed = record {
  size = (let s : suc (length g) ≡ names + suc locals = omega (arith, place.size) in s);
  old = names_kept names (kinds_of g) (kind_of entry) (omega (arith, length_map kind_of g, place.size)) place.old;
  formed = (formed, place.formed);
}

pub none_of_types : (g : Context) → AllByRecursion IsTermEntry g → (p : ℕ) → lookup (kinds_of g) p ≡ Some TypeKind → ⊥
none_of_types [] all p found = cc
none_of_types (TypeEntry bound ∷ older) all p found = all.0
none_of_types (TermEntry shape set ∷ older) all p found =
    elim (lookup-cases _ (kinds_of older) p TypeKind found) as (λ _. ⊥) [
      | inl here ↦ let no = here.1 in cc
      | inr there ↦ none_of_types older all.1 p there
    ]

-- at the root all entries have names
pub root_place : (g : Context) → AllByRecursion IsTermEntry g → IsKindedContext g → IsPlace (length g) 0 g
root_place g all formed = record {
  size = (let s : length g ≡ length g + 0 = omega arith in s);
  old = λ p found. absurd (none_of_types g all p found);
  formed = formed;
}

-- both sides of the claim, or its type, are well formed in the context
abbrev pub KindedClaim : Context → Claim → Type 0
KindedClaim g (SetBelow left right) = IsKindedSet (kinds_of g) [] left × IsKindedSet (kinds_of g) [] right
KindedClaim g (ShapeBelow left right) = IsKinded (kinds_of g) [] left × IsKinded (kinds_of g) [] right
KindedClaim g (TypeBelow left right) = IsKindedType (kinds_of g) [] left × IsKindedType (kinds_of g) [] right
KindedClaim g (OfType type) = IsKindedType (kinds_of g) [] type

-- what is well formed and has no hole is closed there
pub claim_closed : {names locals : ℕ} {g : Context} → IsPlace names locals g → (claim : Claim) → KindedClaim g claim
    → HasNoHoleInClaim claim → IsClosedClaim names locals claim
claim_closed {names} {locals} {g} place (SetBelow left right) is holes =
    let size : length (kinds_of g) ≡ names + locals = omega (arith, length_map kind_of g, place.size) in (
      set_closed names locals (kinds_of g) size place.old [] 0 zero left refl is.0 holes.0,
      set_closed names locals (kinds_of g) size place.old [] 0 zero right refl is.1 holes.1,
    )
claim_closed {names} {locals} {g} place (ShapeBelow left right) is holes =
    let size : length (kinds_of g) ≡ names + locals = omega (arith, length_map kind_of g, place.size) in (
      shape_closed names locals (kinds_of g) size place.old [] 0 zero left refl is.0 holes.0,
      shape_closed names locals (kinds_of g) size place.old [] 0 zero right refl is.1 holes.1,
    )
claim_closed {names} {locals} {g} place (TypeBelow left right) is holes =
    let size : length (kinds_of g) ≡ names + locals = omega (arith, length_map kind_of g, place.size) in (
      type_closed names locals (kinds_of g) size place.old left is.0 holes.0,
      type_closed names locals (kinds_of g) size place.old right is.1 holes.1,
    )
claim_closed {names} {locals} {g} place (OfType type) is holes =
    let size : length (kinds_of g) ≡ names + locals = omega (arith, length_map kind_of g, place.size) in
    type_closed names locals (kinds_of g) size place.old type is holes
