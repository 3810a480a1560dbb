-- The scope that a chain of the program stands for.
use Rattle.std.specs.Prelude.{List, [], ◌∷◌}
use Rattle.cc_mnf.specs.Scopes.{Name, Binder, TermBinder, TypeBinder, Unnamed, Scope}
use Rattle.cc_elaboration_reasoning.specs.declared.scope.Binder.{Binder as DeclaredBinder}
use Rattle.cc_elaboration_reasoning.specs.declared.scope.Binder.TheVariants as binders
use Rattle.cc_elaboration_reasoning.specs.declared.scope.Scope.{Scope as DeclaredScope}
use Rattle.cc_elaboration_reasoning.specs.declared.scope.Scope.TheVariants as scopes

-- the binder
abbrev pub binder_of : DeclaredBinder → Binder
binder_of (binders.Term name) = TermBinder name.now
binder_of (binders.Type name) = TypeBinder name.now
binder_of binders.Unnamed = Unnamed

-- the names at the free positions
abbrev pub names_in : DeclaredScope → List Name
names_in (scopes.Top names) = names.now
names_in (scopes.Under' binder p outer) = names_in outer

-- the binders around, the innermost first
abbrev pub binders_in : DeclaredScope → List Binder
binders_in (scopes.Top names) = []
binders_in (scopes.Under' binder p outer) = binder_of binder ∷ binders_in outer

-- the scope
abbrev pub scope_of : DeclaredScope → Scope
scope_of scope = record { names = names_in scope; binders = binders_in scope }
