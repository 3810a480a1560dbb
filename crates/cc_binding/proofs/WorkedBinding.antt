-- Devices that texts name, modules beyond rules and unused rules, by computation.
use Rattle.std.proofs.Common.{◌≡◌, ℕ, codes, List, [], ◌∷◌, length, Option, Some, None, refl}
use Rattle.std.specs.Prelude.{filter}
use Rattle.std.specs.List.{range_with_len}
use Rattle.cc_binding.specs.BindingExamples.{module_with, NamesWith}
use Rattle.cc_binding.specs.BindingExamples as example
use Rattle.cc_binding.specs.NamedDevices.{module_names}
use Rattle.cc_capture.specs.Elements.{element_order, same_element}
use Rattle.cc_capture.specs.Rising.{placed}
use Rattle.cc_capture.specs.Sets.{contains, empty, insert}
use Rattle.cc_capture.specs.Variables.{same_variable}
use Rattle.cc_verdicts.specs.ModuleVerdicts.{Finding, ModuleVerdict, IsAccepted, IsRefused, HasModuleVerdict}
use Rattle.cc_worked_texts.specs.TextVerdicts.{devices, lines, printer_found}
use Rattle.cc_worked_texts.proofs.ComputedModules.{text_computing, text_verdict_in, text_verdict_in_steps}

-- the devices that are named, where the text is accepted
abbrev named_in : Option ModuleVerdict → Option (List ℕ)
named_in None = None
named_in (Some (IsRefused code at)) = None
named_in (Some (IsAccepted definitions)) =
    Some (filter (λ device. module_names device (module_with definitions)) (range_with_len 0 (length devices)))

same_numbers : {a b : List ℕ} → Some a ≡ Some b → a ≡ b
same_numbers e = cc

by_verdict : (findings : List Finding) (text named : List ℕ) (found : Option ModuleVerdict)
    → ((v : ModuleVerdict) → found ≡ Some v → HasModuleVerdict devices text findings v) → named_in found ≡ Some named → NamesWith findings text named
by_verdict findings text named None has e = cc
by_verdict findings text named (Some (IsRefused code at)) has e = cc
by_verdict findings text named (Some (IsAccepted definitions)) has e = (definitions, has (IsAccepted definitions) refl, same_numbers e)

-- a text names these where that is found
names : (findings : List Finding) (text named : List ℕ) → named_in (text_verdict_in devices 9 findings text) ≡ Some named → NamesWith findings text named
names findings text named e = by_verdict findings text named (text_verdict_in devices 9 findings text) (λ v is. text_verdict_in_steps devices 9 findings text v is) e

pub named_in_texts : example.NamedInTexts
unfolding text_computing same_variable contains
named_in_texts = record {
  nothing = names [] (codes "def a = 1") [] refl;
  as_a_receiver = names [] (codes "def f = fun (u: Unit) => out.print(1)") (0 ∷ []) refl;
  as_a_receiver_without_argument = names [] (codes "def f = fun (u: Unit) => hits.tick()") (1 ∷ []) refl;
  as_a_result = names [] (codes "def f = fun (u: Unit) => hits") (1 ∷ []) refl;
  as_an_argument = names [] (codes "def f = fun (g: ((c: Console^{out}) -> Unit)) => g(out)") (0 ∷ []) refl;
  in_a_box = names [] (codes "def b = box out") (0 ∷ []) refl;
  in_the_set_of_an_opened_box = names [] (codes "def f = fun (b: Box[((x: Int) -> Unit)^{out}]) => (unbox {out} b)(7)") (0 ∷ []) refl;
  in_a_set_that_is_left_out = names [] (codes "def f = fun (b: Box[((x: Int) -> Unit)^{out}]) => (unbox b)(7)") (0 ∷ []) refl;
  in_the_type_of_a_parameter = names [] (codes "def f = fun (g: ((x: Int) -> Unit)^{out}) => 1") [] refl;
  in_the_type_of_a_definition = names [] (codes "def f: (b: Box[Console^{out}]) -> Int = fun (b: Box[Console^{out}]) => 1") [] refl;
  in_a_note = names [] (codes "def f = fun (u: Unit) => val y: Int^{out} = 1; y") [] refl;
  under_a_binder = names [] (codes "def f = fun (x: Int) => x") [] refl;
  in_several_definitions = names [] (lines (codes "def f = fun (u: Unit) => out.print(1)" ∷ codes "def g = fun (u: Unit) => hits.tick()" ∷ [])) (0 ∷ 1 ∷ []) refl;
  by_an_own_definition = names [] (lines (codes "def f = fun (u: Unit) => hits.tick()" ∷ codes "def g = fun (u: Unit) => f(u)" ∷ [])) (1 ∷ []) refl;
}

pub named_by_the_imported_module : example.NamedByTheImportedModule
unfolding text_computing same_variable contains
named_by_the_imported_module = record {
  importing = names (printer_found ∷ []) (lines (codes "import lib.line" ∷ codes "def main = fun (u: Unit) => line(5)" ∷ [])) [] refl;
  imported = names [] (codes "def line: ((x: Int) -> Unit)^{out} = fun (x: Int) => out.print(x)") (0 ∷ []) refl;
  importing_and_naming = names (printer_found ∷ []) (lines (codes "import lib.line" ∷ codes "def main = fun (u: Unit) => val n = hits.tick(); line(n)" ∷ [])) (1 ∷ []) refl;
}

pub named_in_each_part : example.NamedInEachPart
unfolding same_variable contains same_element element_order placed empty insert
named_in_each_part = record {
  variable = refl;
  body_of_a_function = refl;
  body_of_a_type_function = refl;
  content = refl;
  function = refl;
  argument = refl;
  type_function = refl;
  box = refl;
  set_of_a_box = refl;
  right_side = refl;
  body_of_a_let = refl;
  left_operand = refl;
  right_operand = refl;
  test = refl;
  positive = refl;
  negative = refl;
  count = refl;
  repeated = refl;
  receiver = refl;
  printed = refl;
  body_of_a_boundary = refl;
  exit = refl;
  value = refl;
}

pub not_named : example.NotNamed
unfolding same_variable contains same_element element_order placed empty insert
not_named = record {
  another = refl;
  index = refl;
  literal = refl;
  parameter = refl;
  bound_of_a_type = refl;
  type_variable = refl;
  type_argument = refl;
  other_elements = refl;
  index_in_a_set = refl;
  note_of_a_let = refl;
  shape_of_a_let = refl;
  note_of_a_choice = refl;
  no_argument = refl;
  given_shape = refl;
  given_type = refl;
}

pub rules_bind : example.RulesBind
unfolding same_variable
rules_bind = record {
  no_rule = refl;
  allowed = refl;
  any_device = refl;
  denied = refl;
  allowed_to_the_other = refl;
  denied_to_the_other = refl;
}

pub the_first_is_found : example.TheFirstIsFound
unfolding same_variable
the_first_is_found = record {
  device = refl;
  next_device = refl;
  no_device = refl;
  first_of_two = refl;
  second_of_two = refl;
  behind_an_idle_one = refl;
  neither = refl;
}

pub unused_rules_are_numbered : example.UnusedRulesAreNumbered
unused_rules_are_numbered = record {
  no_rule = refl;
  any = refl;
  both_there = refl;
  no_module = refl;
  no_device = refl;
  neither = refl;
  any_device = refl;
  any_module = refl;
  exchanged = refl;
  hidden = refl;
  numbers = refl;
}
