-- How the variables of a context are below one set, found one by one from the oldest on. What stands here goes the way of
-- the code and serves proofs.
use Rattle.std.specs.Prelude.{ℕ, ◌<◌, nat_lt, List, length, Option, Some, None, if◌then◌else◌, slice_index_or}
use Rattle.cc_capture.specs.declared.var.Var.TheVariants.{Free}
use Rattle.cc_capture.specs.declared.var.Elem.{Elem}
use Rattle.cc_capture.specs.declared.var.Elem.TheVariants.{Var as Variable}
use Rattle.cc_capture.specs.Sets.{Set}
use Rattle.cc_core.specs.Captured.{variable_set}
use Rattle.cc_core.specs.Contexts.{Bind, TermEntry, TypeEntry, Context}
use Rattle.cc_core.specs.Derivations.{ByVariable, SetBelow, Derivation, Node, one}
use Rattle.cc_checking.specs.CanonicalDerivations.{member_derived, elements_derived, element_derived}
use Rattle.cc_derive.specs.declared.trees.Making.{Making}
use Rattle.cc_derive.specs.declared.trees.Tree.{Tree}
use Rattle.cc_derive.specs.Trees.{IsMade}

-- An element is below the set as the variables of the first positions are, so many, and another as a member.
abbrev pub reached_derived : ℕ → Context → Set → Elem → Derivation
reached_derived known context right (Variable (Free position)) =
    if nat_lt position known
    then element_derived context right (Variable (Free position))
    else member_derived right (Variable (Free position))
reached_derived known context right e = member_derived right e

-- the declared set of an entry, if it is that of a variable of terms
abbrev pub declared_in : Bind → Option Set
declared_in (TermEntry shape declared) = Some declared
declared_in (TypeEntry bound) = None

-- The variable of a position is below the set as its declared set is, by the variables before it; without a declared set
-- as a member.
abbrev pub declared_derived : Context → Set → ℕ → Option Set → Derivation
declared_derived context right position (Some declared) =
    Node ByVariable (one (elements_derived (reached_derived position context right) declared right))
    (SetBelow (variable_set (Free position)) right)
declared_derived context right position None = member_derived right (Variable (Free position))

-- the trees are made of how the variables of the first positions are below the set
pub record IsTable (build : Making) (context : Context) (right : Set) (table : List Tree) : Type 0 where
  pub at : (position : ℕ) (other : Tree) → position < length table
      → IsMade build (slice_index_or table position other) (element_derived context right (Variable (Free position)))
