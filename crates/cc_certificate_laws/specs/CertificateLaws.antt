-- What is written as the certificate of a derivation is a certificate, of the lines that the derivation has.
use Rattle.std.specs.Prelude.{◌≡◌, ℕ, ◌+◌, ◌<◌, ◌≤◌, List, length}
use Rattle.std.specs.List.{AllByRecursion, IsDistinct}
use Rattle.std.specs.Str.{bytes_eq}
use Rattle.cc_base.specs.Names.{IsName}
use Rattle.cc_capture.specs.declared.var.Var.{Var}
use Rattle.cc_capture.specs.declared.var.Var.TheVariants.{Bound, Free}
use Rattle.cc_capture.specs.declared.var.Elem.{Elem}
use Rattle.cc_capture.specs.declared.var.Elem.TheVariants.{Var as Variable, Cap, Hole}
use Rattle.cc_core.specs.Shapes.{capturing}
use Rattle.cc_core.specs.Terms.{Term}
use Rattle.cc_core.specs.Contexts.{Bind, TermEntry, TypeEntry, Context}
use Rattle.cc_core.specs.Occurrences.{Condition, Meets, MeetsInSet, MeetsInType, HasNoHole, HasNoHoleInSet}
use Rattle.cc_core.specs.Occurrences.{HasNoHoleInType}
use Rattle.cc_core.specs.WellFormed.{IsWellFormedContext, IsWellFormedTerm}
use Rattle.cc_core.specs.Derivations.{Rule, ByTransitivity, ByTypeVariable, Claim, SetBelow, ShapeBelow, TypeBelow}
use Rattle.cc_core.specs.Derivations.{OfType, Derivation, Premises, Node, NoPremise, Premise, IsValidTyping}
use Rattle.cc_checking.specs.DerivationSizes.{nodes}
use Rattle.cc_certificate_writing.specs.Certificates.{binds_first, binds_others, with_binder, certificate_text}
use Rattle.cc_certificate_text.specs.Certificates.{Line, IsWritten, rule_kind, claim_kind, claim_height, IsCertificate}
use Rattle.cc_certificate_text.specs.Heights.{shape_height, term_height}
use Rattle.cc_certificate_laws.specs.CertificateLines.{lines_of}

-- The variable of terms is one of so many names or of so many local ones, or has its binder among those that are
-- written inside.
abbrev pub IsClosed : ℕ → ℕ → ℕ → Var → Type 0
IsClosed names locals depth (Bound index) = index < depth
IsClosed names locals depth (Free position) = position < names + locals

-- the same of an element, which is no hole
abbrev pub IsClosedElement : ℕ → ℕ → ℕ → Elem → Type 0
IsClosedElement names locals depth (Variable variable) = IsClosed names locals depth variable
IsClosedElement names locals depth Cap = Unit {0}
IsClosedElement names locals depth (Hole hole) = ⊥

-- A type variable is a local one or has its binder inside; the names are all those of variables of terms.
abbrev pub IsClosedType : ℕ → ℕ → ℕ → Var → Type 0
IsClosedType names locals depth (Bound index) = index < depth
IsClosedType names locals depth (Free position) = (names ≤ position) × (position < names + locals)

-- what is asked of all that is written at a place with so many names and so many local binders
abbrev pub closed_at : ℕ → ℕ → Condition
closed_at names locals = record {
  element = IsClosedElement names locals;
  shape = IsClosedType names locals;
  variable = IsClosed names locals;
}

-- both sides of the claim, or its type, are closed at the place
abbrev pub IsClosedClaim : ℕ → ℕ → Claim → Type 0
IsClosedClaim names locals (SetBelow left right) =
    MeetsInSet (closed_at names locals) 0 left × MeetsInSet (closed_at names locals) 0 right
IsClosedClaim names locals (ShapeBelow left right) =
    Meets (closed_at names locals) 0 left × Meets (closed_at names locals) 0 right
IsClosedClaim names locals (TypeBelow left right) =
    MeetsInType (closed_at names locals) 0 left × MeetsInType (closed_at names locals) 0 right
IsClosedClaim names locals (OfType type) = MeetsInType (closed_at names locals) 0 type

abbrev mutual
  -- Each claim in the derivation is of its rule's kind, closed at its place, and of a height that may be written, where
  -- so many local binders stand at the root.
  pub IsPresentable : ℕ → ℕ → Derivation → Type 0
  IsPresentable names locals (Node rule premises claim) =
      (rule_kind rule ≡ claim_kind claim) × IsClosedClaim names locals claim × (claim_height claim ≤ 5000)
      × ArePresentable names (with_binder (binds_first rule) locals) (with_binder (binds_others rule) locals) premises

  -- the same of premises, where so many stand at the first one, and so many at those behind it
  pub ArePresentable : ℕ → ℕ → ℕ → Premises → Type 0
  ArePresentable names first_locals other_locals NoPremise = Unit {0}
  ArePresentable names first_locals other_locals (Premise first rest) =
      IsPresentable names first_locals first × ArePresentable names other_locals other_locals rest

-- the entry is a variable of terms, and its type has no hole and a height that may be written
abbrev pub IsPresentableEntry : Bind → Type 0
IsPresentableEntry (TermEntry shape set) = HasNoHoleInType (capturing shape set) × (shape_height shape ≤ 5000)
IsPresentableEntry (TypeEntry bound) = ⊥

-- The context can stand in a certificate: it is well formed, its positions have different names, and each entry can be
-- written.
pub record IsPresentableContext (names : List (List ℕ)) (context : Context) : Type 0 where
  pub named : AllByRecursion IsName names
  pub apart : IsDistinct bytes_eq names
  pub each : length names ≡ length context
  pub formed : IsWellFormedContext context
  pub entries : AllByRecursion IsPresentableEntry context

-- so can the term: it is well formed and whole, and of a height that may be written
pub record IsPresentableTerm (context : Context) (term : Term) : Type 0 where
  pub formed : IsWellFormedTerm context term
  pub whole : IsWritten term
  pub low : term_height term ≤ 5000

-- The text that is written for a derivation is a certificate, and its lines say what the derivation does.
abbrev pub WrittenTextsAreCertificates : Type 0
WrittenTextsAreCertificates =
    (names : List (List ℕ)) (context : Context) (term : Term) (derivation : Derivation)
    → IsPresentableContext names context → IsPresentableTerm context term
    → IsPresentable (length names) 0 derivation → nodes derivation ≤ 100000
    → IsCertificate (certificate_text names context term derivation) (lines_of names context term derivation)

-- And it is no other certificate: what is read back from the text are these lines.
abbrev pub WrittenTextsAreReadBack : Type 0
WrittenTextsAreReadBack =
    (names : List (List ℕ)) (context : Context) (term : Term) (derivation : Derivation) (lines : List Line)
    → IsPresentableContext names context → IsPresentableTerm context term
    → IsPresentable (length names) 0 derivation → nodes derivation ≤ 100000
    → IsCertificate (certificate_text names context term derivation) lines
    → lines ≡ lines_of names context term derivation

-- no set in the claim has a hole
abbrev pub HasNoHoleInClaim : Claim → Type 0
HasNoHoleInClaim (SetBelow left right) = HasNoHoleInSet left × HasNoHoleInSet right
HasNoHoleInClaim (ShapeBelow left right) = HasNoHole left × HasNoHole right
HasNoHoleInClaim (TypeBelow left right) = HasNoHoleInType left × HasNoHoleInType right
HasNoHoleInClaim (OfType type) = HasNoHoleInType type

-- the root says that a type variable is below its bound
abbrev pub IsOfBound : Derivation → Type 0
IsOfBound (Node ByTypeVariable premises claim) = Unit {0}
IsOfBound _ = ⊥

-- Two comparisons are put one after the other at the bound of a type variable alone. What stands between others may be
-- any shape, also one that names what is not there.
abbrev pub GoesByBound : Rule → Premises → Type 0
GoesByBound ByTransitivity (Premise first rest) = IsOfBound first
GoesByBound _ premises = Unit {0}

abbrev mutual
  -- each claim in the derivation has no hole and a height that may be written, and shapes are compared by bounds
  pub IsFinished : Derivation → Type 0
  IsFinished (Node rule premises claim) =
      HasNoHoleInClaim claim × (claim_height claim ≤ 5000) × GoesByBound rule premises × AreFinished premises

  -- the same of premises
  pub AreFinished : Premises → Type 0
  AreFinished NoPremise = Unit {0}
  AreFinished (Premise first rest) = IsFinished first × AreFinished rest

-- the entry is a variable of terms
abbrev pub IsTermEntry : Bind → Type 0
IsTermEntry (TermEntry shape set) = Unit {0}
IsTermEntry (TypeEntry bound) = ⊥

-- The claims of a valid derivation are of their rules' kinds and closed at their places.
abbrev pub ValidDerivationsArePresentable : Type 0
ValidDerivationsArePresentable =
    (context : Context) (term : Term) (derivation : Derivation) → AllByRecursion IsTermEntry context
    → IsWellFormedContext context → IsWellFormedTerm context term → IsValidTyping context term derivation
    → IsFinished derivation → IsPresentable (length context) 0 derivation

-- So what is written for a valid derivation is a certificate.
abbrev pub ValidDerivationsHaveCertificates : Type 0
ValidDerivationsHaveCertificates =
    (names : List (List ℕ)) (context : Context) (term : Term) (derivation : Derivation)
    → IsPresentableContext names context → IsPresentableTerm context term
    → IsValidTyping context term derivation → IsFinished derivation → nodes derivation ≤ 100000
    → IsCertificate (certificate_text names context term derivation) (lines_of names context term derivation)
