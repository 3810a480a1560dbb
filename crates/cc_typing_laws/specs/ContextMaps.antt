-- Maps of one context into another, which keep subcapturing and subtyping.
use Rattle.std.specs.Prelude.{◌≡◌, ℕ, ◌∷◌, Some}
use Rattle.cc_capture.specs.declared.var.Var.TheVariants.{Free}
use Rattle.cc_capture.specs.declared.var.Elem.TheVariants.{Var as Variable}
use Rattle.cc_capture.specs.Sets.{Set}
use Rattle.cc_core.specs.Shapes.{Shape, TypeVariable}
use Rattle.cc_core.specs.Contexts.{Bind, TermEntry, TypeEntry, Context, lookup}
use Rattle.cc_core.specs.Traversal.{act, act_set}
use Rattle.cc_core.specs.Substitution.{freely}
use Rattle.cc_core.specs.Occurrences.{Meets, bound_within}
use Rattle.cc_core.specs.WellFormed.{IsWellFormedShape}
use Rattle.cc_core.specs.Subcapturing.{Subcaptures}
use Rattle.cc_core.specs.Subtyping.{Subtypes}

-- the longer context is the first one with entries added
pub data Extends (context : Context) : Context → Type 0 where
  unchanged : Extends context context
  added : {longer : Context} (entry : Bind) → Extends context longer → Extends context (entry ∷ longer)

-- what a shape of one context becomes in the other
abbrev pub mapped : (ℕ → ℕ) → (ℕ → Shape) → Shape → Shape
mapped to shapes = act (freely to shapes) 0

-- the same of a set
abbrev pub mapped_set : (ℕ → ℕ) → (ℕ → Shape) → Set → Set
mapped_set to shapes = act_set (freely to shapes) 0

-- what an entry becomes
abbrev pub mapped_entry : (ℕ → ℕ) → (ℕ → Shape) → Bind → Bind
mapped_entry to shapes (TermEntry shape set) = TermEntry (mapped to shapes shape) (mapped_set to shapes set)
mapped_entry to shapes (TypeEntry bound) = TypeEntry (mapped to shapes bound)

-- each entry is found, renamed, at its new position
abbrev pub RenamesEntries : Context → Context → (ℕ → ℕ) → Type 0
RenamesEntries source target to =
    (position : ℕ) (entry : Bind) → lookup source position ≡ Some entry
    → lookup target (to position) ≡ Some (mapped_entry to (λ p. TypeVariable (Free (to p))) entry)

-- A variable of terms becomes another one, whose set and shape are below what its own become. A type variable becomes a
-- shape, which is below what its bound becomes. Each of these holds in every context that extends the target.
pub record IsContextMap (source target : Context) (to : ℕ → ℕ) (shapes : ℕ → Shape) : Type 0 where
  pub closed : (position : ℕ) → Meets (bound_within 0) 0 (shapes position)
  pub formed : (position : ℕ) (bound : Shape) → lookup source position ≡ Some (TypeEntry bound)
      → IsWellFormedShape target (shapes position)
  pub bounds : (position : ℕ) (bound : Shape) → lookup source position ≡ Some (TypeEntry bound)
      → (longer : Context) → Extends target longer → Subtypes longer (shapes position) (mapped to shapes bound)
  pub sets : (position : ℕ) (shape : Shape) (set : Set) → lookup source position ≡ Some (TermEntry shape set)
      → (longer : Context) → Extends target longer
      → Subcaptures longer (Variable (Free (to position))) (mapped_set to shapes set)
  pub types : (position : ℕ) (shape : Shape) (set : Set) → lookup source position ≡ Some (TermEntry shape set)
      → (shape' : Shape) × (set' : Set) × (lookup target (to position) ≡ Some (TermEntry shape' set'))
      × ((longer : Context) → Extends target longer → Subtypes longer shape' (mapped to shapes shape))

-- the same where it is asked of the target alone
pub record MapsEntries (source target : Context) (to : ℕ → ℕ) (shapes : ℕ → Shape) : Type 0 where
  pub closed : (position : ℕ) → Meets (bound_within 0) 0 (shapes position)
  pub formed : (position : ℕ) (bound : Shape) → lookup source position ≡ Some (TypeEntry bound)
      → IsWellFormedShape target (shapes position)
  pub bounds : (position : ℕ) (bound : Shape) → lookup source position ≡ Some (TypeEntry bound)
      → Subtypes target (shapes position) (mapped to shapes bound)
  pub sets : (position : ℕ) (shape : Shape) (set : Set) → lookup source position ≡ Some (TermEntry shape set)
      → Subcaptures target (Variable (Free (to position))) (mapped_set to shapes set)
  pub types : (position : ℕ) (shape : Shape) (set : Set) → lookup source position ≡ Some (TermEntry shape set)
      → (shape' : Shape) × (set' : Set) × (lookup target (to position) ≡ Some (TermEntry shape' set'))
      × Subtypes target shape' (mapped to shapes shape)
