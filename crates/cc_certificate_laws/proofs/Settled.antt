-- Derivations with claims that are well formed where the kinds of the entries are known.
use Rattle.std.proofs.Common.{◌≡◌, ℕ, suc, Bool, true, false, List, [], Option, Some, None, refl, nat_eq}
use Rattle.std.specs.Prelude.{if◌then◌else◌}
use Rattle.cc_core.specs.WellFormed.{Kind}
use Rattle.cc_core.specs.Derivations.{Rule, BySet, Claim, SetBelow, ShapeBelow, TypeBelow, OfType, Derivation, Premises, Node, NoPremise, Premise}
use Rattle.cc_core.proofs.KindFacts.{IsKinded, IsKindedSet, IsKindedType}
use Rattle.cc_certificate_writing.specs.Certificates.{binds_first, binds_others, with_binder}
use Rattle.cc_certificate_judging.specs.Judging.{binder_at, under_binder}
use Rattle.cc_certificate_laws.specs.CertificateLaws.{HasNoHoleInClaim}

-- both sides of the claim, or its type, are well formed
abbrev pub HasKindsInClaim : List Kind → Claim → Type 0
HasKindsInClaim kinds (SetBelow left right) = IsKindedSet kinds [] left × IsKindedSet kinds [] right
HasKindsInClaim kinds (ShapeBelow left right) = IsKinded kinds [] left × IsKinded kinds [] right
HasKindsInClaim kinds (TypeBelow left right) = IsKindedType kinds [] left × IsKindedType kinds [] right
HasKindsInClaim kinds (OfType type) = IsKindedType kinds [] type

-- so many local binders, and one more where there is one
abbrev pub plus_binder : Option Kind → ℕ → ℕ
plus_binder (Some kind) locals = suc locals
plus_binder None locals = locals

abbrev mutual
  -- each claim is well formed at its place, where local binders are counted as certificates do
  pub IsSettled : ℕ → List Kind → Derivation → Type 0
  IsSettled locals kinds (Node rule premises claim) =
      HasKindsInClaim kinds claim × HasNoHoleInClaim claim
      × AreSettled locals kinds rule 0 (with_binder (binds_first rule) locals) (with_binder (binds_others rule) locals) premises

  pub AreSettled : ℕ → List Kind → Rule → ℕ → ℕ → ℕ → Premises → Type 0
  AreSettled locals kinds rule index first_locals other_locals NoPremise = Unit {0}
  AreSettled locals kinds rule index first_locals other_locals (Premise first rest) =
      (first_locals ≡ plus_binder (binder_at rule index) locals)
      × IsSettled first_locals (under_binder (binder_at rule index) kinds) first
      × AreSettled locals kinds rule (suc index) other_locals other_locals rest

neither : (a b : Bool) → ◌≡◌ {A = Option Kind} (if a then None else (if b then None else None)) None
neither true b = refl
neither false true = refl
neither false false = refl

-- no premise of a comparison of sets stands under a binder more
pub no_binder : (index : ℕ) → binder_at BySet index ≡ None
no_binder index = neither (nat_eq index 0) (nat_eq index 1)
