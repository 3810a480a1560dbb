-- The entries of a well-formed context are well formed in it, and name earlier positions alone.
use Rattle.std.proofs.Common.{◌≡◌, ℕ, zero, [], ◌∷◌, Some, true, inl, inr, sym, subst}
use Rattle.std.proofs.lemmas.Bool.{and_parts}
use Rattle.cc_capture.specs.Sets.{Set}
use Rattle.cc_core.specs.Shapes.{Shape, capturing}
use Rattle.cc_core.specs.Contexts.{TermEntry, TypeEntry, Context, lookup}
use Rattle.cc_core.specs.WellFormed.{kinds_of, is_well_formed_entry, is_well_formed_context, IsWellFormedShape, IsWellFormedType, IsWellFormedContext}
use Rattle.cc_core.specs.Occurrences.{Meets, MeetsInType, positions_below}
use Rattle.cc_core.proofs.Lookups.{lookup-cases}
use Rattle.cc_core.proofs.WellFormedness.{more-well_formed, well_formed-positions_below}
use Rattle.cc_core.proofs.Sorts.{ShapeSort, TypeSort}

pub entry-well_formed : (g : Context) (p : ℕ) (s : Shape) (c : Set) → IsWellFormedContext g
    → lookup g p ≡ Some (TermEntry s c) → IsWellFormedType g (capturing s c)
entry-well_formed [] p s c formed found = cc
entry-well_formed (b ∷ g) p s c formed found =
    let both = and_parts (is_well_formed_entry (kinds_of g) b) (is_well_formed_context g) formed in
    elim (lookup-cases b g p (TermEntry s c) found) as (λ _. IsWellFormedType (b ∷ g) (capturing s c)) [
      | inl here ↦ more-well_formed TypeSort (b ∷ []) g (capturing s c) (subst (λ e. is_well_formed_entry (kinds_of g) e ≡ true) here.1 both.0)
      | inr older ↦ more-well_formed TypeSort (b ∷ []) g (capturing s c) (entry-well_formed g p s c both.1 older)
    ]

pub bound-well_formed : (g : Context) (p : ℕ) (s : Shape) → IsWellFormedContext g → lookup g p ≡ Some (TypeEntry s)
    → IsWellFormedShape g s
bound-well_formed [] p s formed found = cc
bound-well_formed (b ∷ g) p s formed found =
    let both = and_parts (is_well_formed_entry (kinds_of g) b) (is_well_formed_context g) formed in
    elim (lookup-cases b g p (TypeEntry s) found) as (λ _. IsWellFormedShape (b ∷ g) s) [
      | inl here ↦ more-well_formed ShapeSort (b ∷ []) g s (subst (λ e. is_well_formed_entry (kinds_of g) e ≡ true) here.1 both.0)
      | inr older ↦ more-well_formed ShapeSort (b ∷ []) g s (bound-well_formed g p s both.1 older)
    ]

pub entry-positions_below : (g : Context) (p : ℕ) (s : Shape) (c : Set) → IsWellFormedContext g
    → lookup g p ≡ Some (TermEntry s c) → MeetsInType (positions_below p) zero (capturing s c)
entry-positions_below [] p s c formed found = cc
entry-positions_below (b ∷ g) p s c formed found =
    let both = and_parts (is_well_formed_entry (kinds_of g) b) (is_well_formed_context g) formed in
    elim (lookup-cases b g p (TermEntry s c) found) as (λ _. MeetsInType (positions_below p) zero (capturing s c)) [
      | inl here ↦
          subst (λ n. MeetsInType (positions_below n) zero (capturing s c)) (sym here.0)
          (well_formed-positions_below TypeSort g (capturing s c) (subst (λ e. is_well_formed_entry (kinds_of g) e ≡ true) here.1 both.0))
      | inr older ↦ entry-positions_below g p s c both.1 older
    ]

pub bound-positions_below : (g : Context) (p : ℕ) (s : Shape) → IsWellFormedContext g
    → lookup g p ≡ Some (TypeEntry s) → Meets (positions_below p) zero s
bound-positions_below [] p s formed found = cc
bound-positions_below (b ∷ g) p s formed found =
    let both = and_parts (is_well_formed_entry (kinds_of g) b) (is_well_formed_context g) formed in
    elim (lookup-cases b g p (TypeEntry s) found) as (λ _. Meets (positions_below p) zero s) [
      | inl here ↦
          subst (λ n. Meets (positions_below n) zero s) (sym here.0)
          (well_formed-positions_below ShapeSort g s (subst (λ e. is_well_formed_entry (kinds_of g) e ≡ true) here.1 both.0))
      | inr older ↦ bound-positions_below g p s both.1 older
    ]
