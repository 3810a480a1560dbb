-- Which definitions can be run, by example, and why others cannot.
use Rattle.std.specs.Prelude.{◌≡◌, ℕ, Bool, true, false, pos, codes, List, [], ◌∷◌, Ok, Err}
use Rattle.std.specs.Prelude.{if◌then◌else◌}
use Rattle.std.specs.Str.{bytes_eq}
use Rattle.cc_base.specs.Literals.{NumberLiteral}
use Rattle.cc_base.specs.declared.code.Code.TheVariants.{E13, E32, E33, E34, E35}
use Rattle.cc_base.specs.declared.literal.Base.TheVariants as bases
use Rattle.cc_capture.specs.declared.var.Var.TheVariants.{Bound, Free}
use Rattle.cc_capture.specs.declared.var.Elem.TheVariants.{Cap}
use Rattle.cc_capture.specs.Sets.{empty}
use Rattle.cc_core.specs.Shapes.{Shape, BaseShape, AnyShape, TypeVariable, FunctionShape, TypeFunctionShape, BoxShape}
use Rattle.cc_core.specs.Shapes.{ExitShape, capturing}
use Rattle.cc_core.specs.Substitution.{single}
use Rattle.cc_core.specs.Terms.{Absent, LiteralTerm}
use Rattle.cc_verdicts.specs.ModuleVerdicts.{CheckedDefinition, ModuleVerdict, IsAccepted, IsRefused}
use Rattle.cc_verdicts.specs.PresentTexts.{Texts}
use Rattle.cc_entry_laws.specs.PresentEntries.{takes_unit, definitions_of, started_in}

-- the shapes of numbers and of the unit value
abbrev pub integer : Shape
integer = BaseShape bases.Int

abbrev pub unit : Shape
unit = BaseShape bases.Unit

-- whether a definition of the shape can be run
abbrev pub Runs : Shape → Bool → Type 0
Runs shape does = takes_unit shape ≡ does

-- Functions that take a unit can, with whatever set, and no value of another shape.
pub record RunnableShapes : Type 0 where
  pub of_unit : Runs (FunctionShape unit empty integer empty) true
  pub of_unit_with_a_set : Runs (FunctionShape unit (single Cap) integer (single Cap)) true
  pub of_a_truth : Runs (FunctionShape (BaseShape bases.Bool) empty unit empty) false
  pub of_a_number : Runs (FunctionShape integer empty unit empty) false
  pub of_a_text : Runs (FunctionShape (BaseShape bases.Str) empty unit empty) false
  pub of_a_console : Runs (FunctionShape (BaseShape bases.Console) empty unit empty) false
  pub of_a_file : Runs (FunctionShape (BaseShape bases.File) empty unit empty) false
  pub of_a_counter : Runs (FunctionShape (BaseShape bases.Counter) empty unit empty) false
  pub of_any : Runs (FunctionShape AnyShape empty unit empty) false
  pub of_a_type_variable : Runs (FunctionShape (TypeVariable (Free 0)) empty unit empty) false
  pub of_a_function : Runs (FunctionShape (FunctionShape unit empty unit empty) empty unit empty) false
  pub of_a_type_function : Runs (FunctionShape (TypeFunctionShape unit unit empty) empty unit empty) false
  pub of_a_box : Runs (FunctionShape (BoxShape unit empty) empty unit empty) false
  pub of_an_exit : Runs (FunctionShape (ExitShape unit) empty unit empty) false
  pub unit_value : Runs unit false
  pub any : Runs AnyShape false
  pub type_variable : Runs (TypeVariable (Bound 0)) false
  pub type_function : Runs (TypeFunctionShape unit unit empty) false
  pub box : Runs (BoxShape unit empty) false
  pub exit : Runs (ExitShape unit) false

-- a checked definition of the name and the shape
abbrev pub checked : List ℕ → Shape → CheckedDefinition
checked name shape = record {
  name = name;
  recursive = false;
  accepted = record {
    note = Absent;
    filled = LiteralTerm (NumberLiteral (pos 1));
    type = capturing shape empty;
    signature = capturing shape empty;
  };
}

-- a function of a unit, and a number
abbrev pub definitions : List CheckedDefinition
definitions = checked (codes "f") (FunctionShape unit empty integer empty) ∷ checked (codes "n") integer ∷ []

-- two modules, of which the first has these definitions, and the other one is refused
abbrev pub texts : Texts
texts = (codes "a", []) ∷ (codes "b", []) ∷ []

abbrev pub verdict_of : List ℕ → ModuleVerdict
verdict_of name =
    if bytes_eq name (codes "a") then IsAccepted definitions else IsRefused E13 (record { line = 1; col = 1 })

-- The first of these decides: the module is present, it is accepted, it has the definition, and that takes a unit.
pub record StartedByName : Type 0 where
  pub function : started_in texts verdict_of (codes "a") (codes "f")
      ≡ Ok (checked (codes "f") (FunctionShape unit empty integer empty))
  pub number : started_in texts verdict_of (codes "a") (codes "n") ≡ Err E35
  pub no_definition : started_in texts verdict_of (codes "a") (codes "g") ≡ Err E33
  pub refused : started_in texts verdict_of (codes "b") (codes "f") ≡ Err E34
  pub no_module : started_in texts verdict_of (codes "c") (codes "f") ≡ Err E32
  pub definitions_of_an_accepted_one : definitions_of (verdict_of (codes "a")) ≡ definitions
  pub definitions_of_a_refused_one : definitions_of (verdict_of (codes "b")) ≡ []
