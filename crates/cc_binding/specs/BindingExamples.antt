-- Worked devices that texts name, modules that are beyond rules, and unused rules, by computation.
use Rattle.std.specs.Prelude.{◌≡◌, ℕ, pos, Bool, true, false, codes, List, [], ◌∷◌, filter, length, map, Option, Some, None}
use Rattle.std.specs.List.{range_with_len}
use Rattle.cc_base.specs.Literals.{NumberLiteral}
use Rattle.cc_base.specs.declared.literal.Base.TheVariants as bases
use Rattle.cc_base.specs.declared.literal.Op.TheVariants as operations
use Rattle.cc_base.specs.declared.literal.Operator.TheVariants as operators
use Rattle.cc_binding.specs.Binding.{first_beyond, unused_rules}
use Rattle.cc_binding.specs.NamedDevices.{names_position, module_names}
use Rattle.cc_capture.specs.declared.var.Var.{Var}
use Rattle.cc_capture.specs.declared.var.Var.TheVariants.{Bound, Free}
use Rattle.cc_capture.specs.declared.var.Elem.TheVariants.{Cap}
use Rattle.cc_capture.specs.Sets.{empty}
use Rattle.cc_core.specs.Captured.{variable_set}
use Rattle.cc_core.specs.Shapes.{Shape, BaseShape, TypeVariable, BoxShape, capturing}
use Rattle.cc_core.specs.Substitution.{single}
use Rattle.cc_core.specs.Terms.{Absent, Written, Own, Term, VariableTerm, LiteralTerm, FunctionTerm, TypeFunctionTerm}
use Rattle.cc_core.specs.Terms.{BoxTerm, Application, TypeApplication, Unboxing, Let, Primitive, Conditional}
use Rattle.cc_core.specs.Terms.{Repetition, Operation, Boundary, Leave}
use Rattle.cc_entry_laws.specs.ExampleEntries.{main_entry}
use Rattle.cc_entry_laws.specs.PresentEntries.{CheckedModule}
use Rattle.cc_policy.specs.declared.policy.Rule.{Rule}
use Rattle.cc_verdicts.specs.ModuleVerdicts.{CheckedDefinition, Finding, HasModuleVerdict, IsAccepted}
use Rattle.cc_worked_texts.specs.TextVerdicts.{devices, lines, printer_found}

-- a module of these definitions
abbrev pub module_with : List CheckedDefinition → CheckedModule
module_with definitions = record { name = codes "m"; imports = []; definitions = definitions }

-- Beside a console `out` and a counter `hits` the text, for whose imports this is found, is accepted, and these are the
-- numbers of the devices that it names.
abbrev pub NamesWith : List Finding → List ℕ → List ℕ → Type 0
NamesWith findings text named =
    (definitions : List CheckedDefinition) × HasModuleVerdict devices text findings (IsAccepted definitions)
    × (filter (λ device. module_names device (module_with definitions)) (range_with_len 0 (length devices)) ≡ named)

-- the same of a text that imports nothing
abbrev pub Names : List ℕ → List ℕ → Type 0
Names = NamesWith []

-- A device is named in an expression, in the set under which a box is opened, and in a box; not in a type that is
-- written, be it of a parameter, of the definition or of a `val`.
pub record NamedInTexts : Type 0 where
  pub nothing : Names (codes "def a = 1") []
  pub as_a_receiver : Names (codes "def f = fun (u: Unit) => out.print(1)") (0 ∷ [])
  pub as_a_receiver_without_argument : Names (codes "def f = fun (u: Unit) => hits.tick()") (1 ∷ [])
  pub as_a_result : Names (codes "def f = fun (u: Unit) => hits") (1 ∷ [])
  pub as_an_argument : Names (codes "def f = fun (g: ((c: Console^{out}) -> Unit)) => g(out)") (0 ∷ [])
  pub in_a_box : Names (codes "def b = box out") (0 ∷ [])
  pub in_the_set_of_an_opened_box : Names
      (codes "def f = fun (b: Box[((x: Int) -> Unit)^{out}]) => (unbox {out} b)(7)") (0 ∷ [])
  pub in_a_set_that_is_left_out : Names
      (codes "def f = fun (b: Box[((x: Int) -> Unit)^{out}]) => (unbox b)(7)") (0 ∷ [])
  pub in_the_type_of_a_parameter : Names (codes "def f = fun (g: ((x: Int) -> Unit)^{out}) => 1") []
  pub in_the_type_of_a_definition : Names
      (codes "def f: (b: Box[Console^{out}]) -> Int = fun (b: Box[Console^{out}]) => 1") []
  pub in_a_note : Names (codes "def f = fun (u: Unit) => val y: Int^{out} = 1; y") []
  pub under_a_binder : Names (codes "def f = fun (x: Int) => x") []
  pub in_several_definitions : Names
      (lines (codes "def f = fun (u: Unit) => out.print(1)" ∷ codes "def g = fun (u: Unit) => hits.tick()" ∷ [])) (0 ∷ 1 ∷ [])
  pub by_an_own_definition : Names
      (lines (codes "def f = fun (u: Unit) => hits.tick()" ∷ codes "def g = fun (u: Unit) => f(u)" ∷ [])) (1 ∷ [])

-- What a module reaches by an import alone it does not name: the module that it imports from does.
pub record NamedByTheImportedModule : Type 0 where
  pub importing : NamesWith (printer_found ∷ [])
      (lines (codes "import lib.line" ∷ codes "def main = fun (u: Unit) => line(5)" ∷ [])) []
  pub imported : Names (codes "def line: ((x: Int) -> Unit)^{out} = fun (x: Int) => out.print(x)") (0 ∷ [])
  pub importing_and_naming : NamesWith (printer_found ∷ [])
      (lines (codes "import lib.line" ∷ codes "def main = fun (u: Unit) => val n = hits.tick(); line(n)" ∷ [])) (1 ∷ [])

-- whether the term names the first device
abbrev pub names : Term → Bool
names = names_position 0

-- the first device, another one, and a variable of a binder
abbrev pub device : Var
device = Free 0

abbrev pub other : Var
other = Free 1

abbrev pub bound : Var
bound = Bound 0

-- terms that name the first device, and none
abbrev pub naming : Term
naming = VariableTerm device

abbrev pub idle : Term
idle = VariableTerm other

-- a shape, and one in which the first device occurs
abbrev pub number : Shape
number = BaseShape bases.Int

abbrev pub boxed : Shape
boxed = BoxShape number (variable_set device)

-- Each form names what its operands and its parts name.
pub record NamedInEachPart : Type 0 where
  pub variable : names (VariableTerm device) ≡ true
  pub body_of_a_function : names (FunctionTerm number empty naming) ≡ true
  pub body_of_a_type_function : names (TypeFunctionTerm number naming) ≡ true
  pub content : names (BoxTerm device) ≡ true
  pub function : names (Application device other) ≡ true
  pub argument : names (Application other device) ≡ true
  pub type_function : names (TypeApplication device number) ≡ true
  pub box : names (Unboxing None device) ≡ true
  pub set_of_a_box : names (Unboxing (Some (variable_set device)) other) ≡ true
  pub right_side : names (Let Absent naming idle) ≡ true
  pub body_of_a_let : names (Let Absent idle naming) ≡ true
  pub left_operand : names (Primitive operators.Add device other) ≡ true
  pub right_operand : names (Primitive operators.Add other device) ≡ true
  pub test : names (Conditional Absent device idle idle) ≡ true
  pub positive : names (Conditional Absent other naming idle) ≡ true
  pub negative : names (Conditional Absent other idle naming) ≡ true
  pub count : names (Repetition device other) ≡ true
  pub repeated : names (Repetition other device) ≡ true
  pub receiver : names (Operation operations.Print device (Some other)) ≡ true
  pub printed : names (Operation operations.Print other (Some device)) ≡ true
  pub body_of_a_boundary : names (Boundary number naming) ≡ true
  pub exit : names (Leave number empty device other) ≡ true
  pub value : names (Leave number empty other device) ≡ true

-- No form names what a type, a shape or a note in it says; nor is another position or an index the device.
pub record NotNamed : Type 0 where
  pub another : names idle ≡ false
  pub index : names (VariableTerm bound) ≡ false
  pub literal : names (LiteralTerm (NumberLiteral (pos 0))) ≡ false
  pub parameter : names (FunctionTerm boxed (variable_set device) idle) ≡ false
  pub bound_of_a_type : names (TypeFunctionTerm boxed idle) ≡ false
  pub type_variable : names (TypeApplication other (TypeVariable device)) ≡ false
  pub type_argument : names (TypeApplication other boxed) ≡ false
  pub other_elements : names (Unboxing (Some (single Cap)) other) ≡ false
  pub index_in_a_set : names (Unboxing (Some (variable_set bound)) other) ≡ false
  pub note_of_a_let : names (Let (Written boxed (variable_set device)) idle idle) ≡ false
  pub shape_of_a_let : names (Let (Own boxed) idle idle) ≡ false
  pub note_of_a_choice : names (Conditional (Written boxed (variable_set device)) other idle idle) ≡ false
  pub no_argument : names (Operation operations.Tick other None) ≡ false
  pub given_shape : names (Boundary boxed idle) ≡ false
  pub given_type : names (Leave boxed (variable_set device) other other) ≡ false

-- a rule about a module and a device, where None is any
abbrev pub rule : Bool → Option (List ℕ) → Option (List ℕ) → Rule
rule allow owner device = record { allow = allow; «module» = owner; device = device }

-- names of modules and of devices
abbrev pub lib : Option (List ℕ)
lib = Some (codes "lib")

abbrev pub app : Option (List ℕ)
app = Some (codes "app")

abbrev pub m : List ℕ
m = codes "m"

abbrev pub n : List ℕ
n = codes "n"

abbrev pub out : List ℕ
out = codes "out"

abbrev pub hits : List ℕ
hits = codes "hits"

-- what is found of the modules of the worked entry: lib, which prints on the console, and app, which imports from it
abbrev pub found : List Rule → Option (List ℕ × ℕ)
found rules = first_beyond (out ∷ []) rules (length main_entry.devices) main_entry.modules

-- The rules ask for the module that names the device, and not for the one that is run. The first rule that matches
-- decides, and where none does it is a denial.
pub record RulesBind : Type 0 where
  pub no_rule : found [] ≡ Some (codes "lib", 0)
  pub allowed : found (rule true lib (Some out) ∷ []) ≡ None
  pub any_device : found (rule true lib None ∷ rule false None None ∷ []) ≡ None
  pub denied : found (rule false lib (Some out) ∷ rule true None None ∷ []) ≡ Some (codes "lib", 0)
  pub allowed_to_the_other : found (rule true app None ∷ []) ≡ Some (codes "lib", 0)
  pub denied_to_the_other : found (rule false app None ∷ rule true None None ∷ []) ≡ None

-- a module of the name that names these positions, in this order
abbrev pub module_naming : List ℕ → List ℕ → CheckedModule
module_naming name positions = record {
  name = name;
  imports = [];
  definitions =
      map
      (λ position. record {
        name = codes "b";
        recursive = false;
        accepted = record {
          note = Absent;
          filled = BoxTerm (Free position);
          type = capturing number empty;
          signature = capturing number empty;
        };
      }) positions;
}

-- what is found of modules beside two devices
abbrev pub found_of : List Rule → List CheckedModule → Option (List ℕ × ℕ)
found_of rules modules = first_beyond (out ∷ hits ∷ []) rules 2 modules

-- The first device is that of the least number, of the first module that names one which it is not allowed. A position
-- behind the devices is none.
pub record TheFirstIsFound : Type 0 where
  pub device : found_of [] (module_naming m (1 ∷ 0 ∷ []) ∷ []) ≡ Some (m, 0)
  pub next_device : found_of (rule true None (Some out) ∷ []) (module_naming m (1 ∷ 0 ∷ []) ∷ []) ≡ Some (m, 1)
  pub no_device : found_of [] (module_naming m (2 ∷ []) ∷ []) ≡ None
  pub first_of_two : found_of [] (module_naming n (1 ∷ []) ∷ module_naming m (0 ∷ []) ∷ []) ≡ Some (n, 1)
  pub second_of_two : found_of (rule true (Some n) None ∷ []) (module_naming n (1 ∷ []) ∷ module_naming m (0 ∷ []) ∷ [])
      ≡ Some (m, 0)
  pub behind_an_idle_one : found_of [] (module_naming n [] ∷ module_naming m (1 ∷ []) ∷ []) ≡ Some (m, 1)
  pub neither : found_of (rule true (Some n) (Some hits) ∷ rule true (Some m) (Some out) ∷ [])
      (module_naming n (1 ∷ []) ∷ module_naming m (0 ∷ []) ∷ [])
      ≡ None

-- the unused rules where two modules are present beside two devices
abbrev pub unused : List Rule → List ℕ
unused rules = unused_rules ((m, []) ∷ (n, []) ∷ []) (out ∷ hits ∷ []) rules

-- A rule is unused where its module is not present, or its device is not declared. What it allows does not matter, nor
-- does a rule before it that matches all that it does.
pub record UnusedRulesAreNumbered : Type 0 where
  pub no_rule : unused [] ≡ []
  pub any : unused (rule false None None ∷ []) ≡ []
  pub both_there : unused (rule true (Some m) (Some hits) ∷ rule false (Some n) (Some out) ∷ []) ≡ []
  pub no_module : unused (rule true (Some (codes "x")) (Some out) ∷ []) ≡ 1 ∷ []
  pub no_device : unused (rule true (Some m) (Some (codes "tape")) ∷ []) ≡ 1 ∷ []
  pub neither : unused (rule false (Some (codes "x")) (Some (codes "tape")) ∷ []) ≡ 1 ∷ []
  pub any_device : unused (rule true (Some (codes "x")) None ∷ rule true (Some m) None ∷ []) ≡ 1 ∷ []
  pub any_module : unused (rule true None (Some (codes "tape")) ∷ rule true None (Some out) ∷ []) ≡ 1 ∷ []
  pub exchanged : unused (rule true (Some out) (Some m) ∷ []) ≡ 1 ∷ []
  pub hidden : unused (rule false None None ∷ rule true (Some m) (Some out) ∷ []) ≡ []
  pub numbers : unused
      (rule true (Some m) None ∷ rule true (Some out) None ∷ rule true None (Some m) ∷ rule true None None
      ∷ rule false (Some (codes "M")) (Some (codes "outs")) ∷ [])
      ≡ 2 ∷ 3 ∷ 5 ∷ []
