-- Which positions a term names, and which devices a module does: in an expression, or in the set under which a box is
-- opened.
use Rattle.std.specs.Prelude.{ℕ, Bool, false, ◌||◌, Option, Some, None}
use Rattle.std.specs.List.{list_any}
use Rattle.cc_capture.specs.declared.var.Var.{Var}
use Rattle.cc_capture.specs.declared.var.Var.TheVariants.{Free}
use Rattle.cc_capture.specs.declared.var.Elem.TheVariants.{Var as Variable}
use Rattle.cc_capture.specs.Sets.{Set, contains}
use Rattle.cc_capture.specs.Variables.{same_variable}
use Rattle.cc_core.specs.Terms.{Term, VariableTerm, LiteralTerm, FunctionTerm, TypeFunctionTerm, BoxTerm, Application}
use Rattle.cc_core.specs.Terms.{TypeApplication, Unboxing, Let, Primitive, Conditional, Repetition, Operation, Boundary}
use Rattle.cc_core.specs.Terms.{Leave}
use Rattle.cc_entry_laws.specs.PresentEntries.{CheckedModule}
use Rattle.cc_verdicts.specs.ModuleVerdicts.{in_program}

-- whether the variable is the free position
abbrev pub is_position : ℕ → Var → Bool
is_position position variable = same_variable (Free position) variable

-- the same of an argument, where there is one
abbrev pub is_argument : ℕ → Option Var → Bool
is_argument position (Some variable) = is_position position variable
is_argument position None = false

-- whether the free position is in the set, where there is one
abbrev pub is_in_optional_set : ℕ → Option Set → Bool
is_in_optional_set position (Some set) = contains (Variable (Free position)) set
is_in_optional_set position None = false

-- Whether the term names the free position: as a variable of an expression, be it the content of a box, or in the set
-- under which a box is opened. What types, notes and shapes say does not count, since no value is reached through them.
abbrev pub names_position : ℕ → Term → Bool
names_position position (VariableTerm variable) = is_position position variable
names_position position (LiteralTerm literal) = false
names_position position (FunctionTerm takes c body) = names_position position body
names_position position (TypeFunctionTerm bound body) = names_position position body
names_position position (BoxTerm content) = is_position position content
names_position position (Application function argument) =
    is_position position function || is_position position argument
names_position position (TypeApplication function argument) = is_position position function
names_position position (Unboxing set box) = is_in_optional_set position set || is_position position box
names_position position (Let note right body) = names_position position right || names_position position body
names_position position (Primitive operator left right) = is_position position left || is_position position right
names_position position (Conditional note test positive negative) =
    is_position position test || (names_position position positive || names_position position negative)
names_position position (Repetition count function) = is_position position count || is_position position function
names_position position (Operation operation receiver argument) =
    is_position position receiver || is_argument position argument
names_position position (Boundary gives body) = names_position position body
names_position position (Leave gives c exit value) = is_position position exit || is_position position value

-- Whether the module names the position: the value of one of its definitions does. Devices have the first positions of
-- the context in which a module is checked, by their numbers, and keep them when it is linked.
abbrev pub module_names : ℕ → CheckedModule → Bool
module_names position current =
    list_any (λ definition. names_position position (in_program definition).value) current.definitions
