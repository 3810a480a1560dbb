-- What the modules of a workload are accepted as: each has one definition, a function to the unit value.
use Rattle.std.proofs.Common.{◌≡◌, ℕ, ◌+◌, ◌-◌, ◌≤◌, false, List, [], ◌∷◌, length, Some, None, codes, pos}
use Rattle.cc_base.specs.Literals.{NumberLiteral}
use Rattle.cc_base.specs.declared.literal.Base.TheVariants as bases
use Rattle.cc_base.specs.declared.literal.Op.TheVariants as operations
use Rattle.cc_base.specs.declared.literal.Operator.TheVariants as operators
use Rattle.cc_capture.specs.declared.var.Var.TheVariants.{Bound, Free}
use Rattle.cc_capture.specs.declared.var.Elem.TheVariants.{Var as Variable}
use Rattle.cc_capture.specs.Sets.{Set, empty, insert}
use Rattle.cc_core.specs.Shapes.{Shape, BaseShape, FunctionShape, CapturingType, capturing}
use Rattle.cc_core.specs.Substitution.{single}
use Rattle.cc_core.specs.Terms.{Absent, Term, LiteralTerm, FunctionTerm, Application, Let, Primitive, Operation}
use Rattle.cc_grammar.specs.Syntax.{ImportSyntax}
use Rattle.cc_verdicts.specs.ModuleVerdicts.{CheckedDefinition, ModuleVerdict, IsAccepted}
use Rattle.cc_workload.specs.Workloads.{module_name, definition_name}

-- the sets of the console alone, and of the console and the counter
abbrev pub console_alone : Set
console_alone = single (Variable (Free 0))

abbrev pub console_and_counter : Set
console_and_counter = insert (Variable (Free 0)) (single (Variable (Free 1)))

abbrev pub integer : Shape
integer = BaseShape bases.Int

abbrev pub unit_shape : Shape
unit_shape = BaseShape bases.Unit

-- the type of functions from values of the shape to the unit value, which capture this
abbrev pub to_unit : Shape → Set → CapturingType
to_unit takes set = capturing (FunctionShape takes empty unit_shape empty) set

-- a definition that is not recursive, and for which no type is written
abbrev pub accepted_as : List ℕ → Term → CapturingType → CapturingType → CheckedDefinition
accepted_as name value type signature = record {
  name = name;
  recursive = false;
  accepted = record { note = Absent; filled = value; type = type; signature = signature };
}

-- the first module, as it is at first: it prints
abbrev pub printing_definition : CheckedDefinition
printing_definition =
    accepted_as (definition_name 1)
    (FunctionTerm integer empty (Operation operations.Print (Free 0) (Some (Bound 0))))
    (to_unit integer console_alone) (to_unit integer console_alone)

-- and when it has changed: it counts too
abbrev pub counting_definition : CheckedDefinition
counting_definition =
    accepted_as (definition_name 1)
    (FunctionTerm integer empty
    (Let Absent (Operation operations.Tick (Free 1) None) (Operation operations.Print (Free 0) (Some (Bound 1)))))
    (to_unit integer console_and_counter) (to_unit integer console_and_counter)

-- The module of this number, where the ones before it capture this: the call of its import, which stands behind the two
-- devices, with the number added.
abbrev pub calling_value : ℕ → Term
calling_value k =
    FunctionTerm integer empty
    (Let Absent (Let Absent (LiteralTerm (NumberLiteral (pos k))) (Primitive operators.Add (Bound 1) (Bound 0)))
    (Application (Free 2) (Bound 0)))

abbrev pub calling_definition : Set → ℕ → CheckedDefinition
calling_definition set k =
    accepted_as (definition_name k) (calling_value k) (to_unit integer (single (Variable (Free 2)))) (to_unit integer set)

-- the module that is run
abbrev pub main_value : Term
main_value = FunctionTerm unit_shape empty (Let Absent (LiteralTerm (NumberLiteral (pos 0))) (Application (Free 2) (Bound 0)))

abbrev pub main_definition : Set → CheckedDefinition
main_definition set =
    accepted_as (codes "main") main_value (to_unit unit_shape (single (Variable (Free 2)))) (to_unit unit_shape set)

-- the import of the module of this number
abbrev pub import_of_module : ℕ → ImportSyntax
import_of_module k = record {
  source = module_name k;
  at = record { line = 1; col = 8 };
  name = definition_name k;
  name_at = record { line = 1; col = 9 + length (module_name k) };
}

-- The modules of a chain of so many, whose first one is accepted as this and captures that, and the one that is run,
-- have these verdicts.
pub record HaveVerdicts (first : CheckedDefinition) (set : Set) (n : ℕ) (verdicts : List ℕ → ModuleVerdict) : Type 0 where
  pub of_first : verdicts (module_name 1) ≡ IsAccepted (first ∷ [])
  pub of_calling : (k : ℕ) → 2 ≤ k → k ≤ n → verdicts (module_name k) ≡ IsAccepted (calling_definition set k ∷ [])
  pub of_entry : verdicts (codes "app") ≡ IsAccepted (main_definition set ∷ [])
