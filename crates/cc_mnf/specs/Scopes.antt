-- Which names are visible where, and which variables they are. Names of terms and names of types are apart; both are
-- looked up among the binders around, the innermost first.
use Rattle.std.specs.Prelude.{ℕ, Bool, false, List, [], ◌∷◌, Option, Some, None}
use Rattle.std.specs.List.{position}
use Rattle.std.specs.Option.{option_map}
use Rattle.std.specs.Str.{bytes_eq}
use Rattle.cc_capture.specs.declared.var.Var.{Var}
use Rattle.cc_capture.specs.declared.var.Var.TheVariants.{Bound, Free}

-- a name, as its code points
abbrev pub Name : Type 0
Name = List ℕ

-- A binder of a term: of a variable of terms, of a variable of types, or of an operand that has no name in the text.
pub data Binder : Type 0 where
  TermBinder : (name : Name) → Binder
  TypeBinder : (name : Name) → Binder
  Unnamed : Binder

-- What is visible: the names of devices, imports and definitions, which stand at the free positions in this order, and
-- the binders around, the innermost first.
pub record Scope : Type 0 where
  pub names : List Name
  pub binders : List Binder

-- no binder is around
abbrev pub outermost : List Name → Scope
outermost names = record { names = names; binders = [] }

-- under one binder more
abbrev pub under : Binder → Scope → Scope
under binder scope = record { names = scope.names; binders = binder ∷ scope.binders }

-- whether the binder binds the name of terms
abbrev pub binds_term : Name → Binder → Bool
binds_term name (TermBinder bound) = bytes_eq name bound
binds_term name (TypeBinder bound) = false
binds_term name Unnamed = false

-- whether the binder binds the name of types
abbrev pub binds_type : Name → Binder → Bool
binds_type name (TermBinder bound) = false
binds_type name (TypeBinder bound) = bytes_eq name bound
binds_type name Unnamed = false

-- The variable of an index, which counts all binders passed, or else of a free position, where there is one.
abbrev pub bound_or_free : Option ℕ → Option ℕ → Option Var
bound_or_free (Some index) place = Some (Bound index)
bound_or_free None place = option_map Free place

-- the variable of terms that has the name, if there is one
abbrev pub term_variable : Scope → Name → Option Var
term_variable scope name =
    bound_or_free (position (binds_term name) scope.binders) (position (bytes_eq name) scope.names)

-- the variable of types that has the name, if there is one; none is free
abbrev pub type_variable : Scope → Name → Option Var
type_variable scope name = option_map Bound (position (binds_type name) scope.binders)
