-- Where chains of declared sets end, and what putting elements on the way there does.
use Rattle.std.specs.Prelude.{◌≡◌, ◌⊎◌, ℕ, ◌<◌, ◌≤◌, Bool, true, List, length, Option, Some, None}
use Rattle.cc_capture.specs.declared.var.Var.TheVariants.{Bound, Free}
use Rattle.cc_capture.specs.declared.var.Elem.{Elem}
use Rattle.cc_capture.specs.declared.var.Elem.TheVariants.{Var as Variable, Cap, Hole}
use Rattle.cc_capture.specs.Sets.{Set, Member}
use Rattle.cc_core.specs.Shapes.{Shape}
use Rattle.cc_core.specs.Contexts.{Bind, TermEntry, TypeEntry, Context, lookup}
use Rattle.cc_sets.specs.Marked.{is_marked}

-- where a chain of declared sets ends: at a global position, below the root, at the universal capability or at a hole
abbrev pub IsEnd : ℕ → Elem → Type 0
IsEnd root (Variable (Free position)) = position < root
IsEnd root (Variable (Bound index)) = ⊥
IsEnd root Cap = Unit {0}
IsEnd root (Hole number) = Unit {0}

-- An element leads to another through the declared sets of local variables: each but the last is a local variable, and
-- the next is in its declared set. The last is an end.
pub data Leads (root : ℕ) (context : Context) : Elem → Elem → Type 0 where
  ends : {e : Elem} → IsEnd root e → Leads root context e e
  through : {position : ℕ} {shape : Shape} {declared : Set} {from e : Elem} → root ≤ position
      → lookup context position ≡ Some (TermEntry shape declared) → Member from declared → Leads root context from e
      → Leads root context (Variable (Free position)) e

-- a member of the set leads there
abbrev pub LeadsFrom : ℕ → Context → Set → Elem → Type 0
LeadsFrom root context set e = (from : Elem) × Member from set × Leads root context from e

-- Of the elements of which the fact holds, the local variables were marked and the ends were put into a set.
pub record Puts (root : ℕ) (Fact : Elem → Type 0) (old new : List Bool) (before after : Set) : Type 0 where
  pub room : length new ≡ length old
  pub marks_kept : (position : ℕ) → is_marked position old ≡ true → is_marked position new ≡ true
  pub marks_only : (position : ℕ) → is_marked position new ≡ true
      → (is_marked position old ≡ true) ⊎ (Fact (Variable (Free position)) × root ≤ position)
  pub marks_all : (position : ℕ) → Fact (Variable (Free position)) → root ≤ position → is_marked position new ≡ true
  pub kept : (e : Elem) → Member e before → Member e after
  pub only : (e : Elem) → Member e after → Member e before ⊎ (Fact e × IsEnd root e)
  pub all : (e : Elem) → Fact e → IsEnd root e → Member e after

-- the declared set of an entry was put so, where there is one; else nothing was
abbrev pub PutsEntry : ℕ → Option Bind → List Bool → List Bool → Set → Set → Type 0
PutsEntry root (Some (TermEntry shape declared)) old new before after =
    Puts root (λ e. Member e declared) old new before after
PutsEntry root (Some (TypeEntry bound)) old new before after = (new ≡ old) × (after ≡ before)
PutsEntry root None old new before after = (new ≡ old) × (after ≡ before)
