-- The worked verdicts of modules, by computation.
use Rattle.std.proofs.Common.{◌≡◌, ℕ, pos, false, codes, List, [], ◌∷◌, None, refl, sym, subst}
use Rattle.std.specs.Str.{chars, is_utf8}
use Rattle.std.specs.Str.Lossy.{utf8_valid_len}
use Rattle.unicode_ident.proofs.Computing.{unicode_ident}
use lib.Utf8.{encode}
use Rattle.cc_base.specs.declared.code.Code.TheVariants.{E13}
use Rattle.cc_base.specs.Literals.{NumberLiteral}
use Rattle.cc_base.specs.declared.literal.Base.TheVariants as bases
use Rattle.cc_capture.specs.declared.var.Var.TheVariants.{Bound, Free}
use Rattle.cc_capture.specs.Elements.{element_order, same_element}
use Rattle.cc_capture.specs.Rising.{placed}
use Rattle.cc_capture.specs.Sets.{contains, empty, insert, from_list, retain, remove, union, flat_image, same_set, is_subset}
use Rattle.cc_core.specs.Contexts.{Context, entry_of}
use Rattle.cc_core.specs.Places.{Places}
use Rattle.cc_core.specs.Shapes.{BoxShape, capturing}
use Rattle.cc_core.specs.Shapes as core
use Rattle.cc_core.specs.Terms.{Absent, Term, LiteralTerm, FunctionTerm, BoxTerm, Application}
use Rattle.cc_grammar.specs.Syntax.{AbsentSet, CapturingType, BaseShape, NameExpr, LiteralExpr, FunExpr, CallExpr, ModuleSyntax}
use Rattle.cc_grammar.specs.Tests.{operation_named}
use Rattle.cc_grammar.specs.Reading.{reading_of, module_at, imports_at, import_at, defs_at, def_at, def_rule_at, part_at, expr_over, links_at, next_link, link_at, dot_at, operation_at, link_rule_at, expr_start_at, fun_at, expr_rule_at, type_over, shape_over, shape_start_at, paren_at, named_at, shape_rule_at, one_part_at, written_at, captures_at, set_at, caret_at, elements_at, name_at, placed_name_at, symbol_at, word_at}
use Rattle.cc_lex.specs.Cutting.{word_of, short_symbol, pair_symbol, front_of, blank_of, token_of, number_of}
use Rattle.cc_checking_laws.specs.ExampleDefinitions.{leaf, around, operands}
use Rattle.cc_checking_laws.proofs.ComputedVerdicts.{verdict_in_steps, accepted_in_steps}
use Rattle.cc_mnf.specs.Steps.{followed, gives, refuses, new_hole, with_own_holes}
use Rattle.cc_mnf.specs.ElaboratedTypes.{elaborated_shape, elaborated_type, with_elements}
use Rattle.cc_mnf.specs.Elaboration.{elaborated}
use Rattle.cc_mnf.specs.ElaboratedModules.{CoreDefinition, IsElaborated, elaboration, device_names}
use Rattle.cc_checking.specs.Comparison.{comparison, by_form}
use Rattle.cc_checking.specs.ComparisonExamples.{number, nothing}
use Rattle.cc_checking.specs.ExampleChecks.{place}
use Rattle.cc_checking.specs.Outcomes.{◌>>=◌}
use Rattle.cc_checking.specs.Verdicts as definitions
use Rattle.cc_verdicts.specs.ModuleVerdicts.{declared_context, to_be_checked, import_is_missing, is_judged, no_more, refused_first, accepted_first}
use Rattle.cc_verdicts.specs.Readings.{IsTree, HasReading, reading_of_text}
use Rattle.cc_verdicts.specs.ExampleModules as example
use Rattle.cc_verdicts.proofs.ReadingLaws.{text_has_one_reading}

tree_of : (text : List ℕ) (tree : ModuleSyntax) → IsTree tree ≡ reading_of_text text → HasReading text (IsTree tree)
tree_of text tree is = (text_has_one_reading text (IsTree tree)).1 is

pub first_import_decides : example.FirstImportDecides
unfolding reading_of_text word_of short_symbol pair_symbol front_of blank_of token_of number_of unicode_ident encode is_utf8 utf8_valid_len chars reading_of module_at imports_at import_at defs_at def_at def_rule_at part_at expr_over links_at next_link link_at dot_at operation_at link_rule_at expr_start_at fun_at expr_rule_at type_over shape_over shape_start_at paren_at named_at shape_rule_at one_part_at written_at captures_at set_at caret_at elements_at name_at placed_name_at symbol_at word_at operation_named
first_import_decides = import_is_missing (tree_of _ _ refl) refl

pub imports_come_before_names : example.ImportsComeBeforeNames
unfolding reading_of_text word_of short_symbol pair_symbol front_of blank_of token_of number_of unicode_ident encode is_utf8 utf8_valid_len chars reading_of module_at imports_at import_at defs_at def_at def_rule_at part_at expr_over links_at next_link link_at dot_at operation_at link_rule_at expr_start_at fun_at expr_rule_at type_over shape_over shape_start_at paren_at named_at shape_rule_at one_part_at written_at captures_at set_at caret_at elements_at name_at placed_name_at symbol_at word_at operation_named
imports_come_before_names = import_is_missing (tree_of _ _ refl) refl

-- the context of the console
abbrev globals : Context
globals = declared_context example.console

-- a definition with the name at the place
abbrev definition : List ℕ → ℕ → Term → Places → CoreDefinition
definition name line right places =
    record { name = name; name_at = place line 5; note = Absent; recursive = false; right = right; places = places }

-- def a = 1
abbrev one : CoreDefinition
one = definition (codes "a") 1 (LiteralTerm (NumberLiteral (pos 1))) (leaf (place 1 9))

-- def b = fun (u: Unit) => u(u)
abbrev applied : CoreDefinition
applied =
    definition (codes "b") 2 (FunctionTerm nothing empty (Application (Bound 0) (Bound 0)))
    (around (place 2 9) (operands (place 2 26) (place 2 26) (place 2 28)))

-- def b = box a
abbrev boxed : CoreDefinition
boxed = definition (codes "b") 2 (BoxTerm (Free 1)) (leaf (place 2 9))

-- their types
abbrev of_one : core.CapturingType
of_one = capturing number empty

abbrev of_box : core.CapturingType
of_box = capturing (BoxShape number empty) empty

abbrev IsAcceptedWith : Context → CoreDefinition → core.CapturingType → Type 0
IsAcceptedWith context it signature =
    (accepted : definitions.Accepted)
    × definitions.HasVerdict 1 context (to_be_checked it) (definitions.IsAccepted accepted)
    × (accepted.signature ≡ signature)

one_accepted : IsAcceptedWith globals one of_one
unfolding ◌>>=◌ comparison by_form same_set contains flat_image from_list union retain remove insert placed element_order same_element empty is_subset
one_accepted = accepted_in_steps 9 1 globals (to_be_checked one) of_one refl

boxed_accepted : IsAcceptedWith (entry_of of_one ∷ globals) boxed of_box
unfolding ◌>>=◌ comparison by_form same_set contains flat_image from_list union retain remove insert placed element_order same_element empty is_subset
boxed_accepted = accepted_in_steps 9 1 (entry_of of_one ∷ globals) (to_be_checked boxed) of_box refl

applied_refused : definitions.HasVerdict 1 (entry_of of_one ∷ globals) (to_be_checked applied) (definitions.IsRefused E13 (place 2 26))
unfolding ◌>>=◌ comparison by_form same_set contains flat_image from_list union retain remove insert placed element_order same_element empty is_subset
applied_refused =
    verdict_in_steps 9 1 (entry_of of_one ∷ globals) (to_be_checked applied) (definitions.IsRefused E13 (place 2 26)) refl

-- def a = 1, and def b = fun (u: Unit) => u(u), as a tree
abbrev tree_applied : ModuleSyntax
tree_applied = record {
  imports = [];
  defs = record {
    own = false;
    name = codes "a";
    name_at = place 1 5;
    written = None;
    right = LiteralExpr (place 1 9) (NumberLiteral (pos 1));
  } ∷ record {
    own = false;
    name = codes "b";
    name_at = place 2 5;
    written = None;
    right = FunExpr (place 2 9) (codes "u") (CapturingType (place 2 17) (BaseShape (place 2 17) bases.Unit) AbsentSet)
        (CallExpr (place 2 26) (NameExpr (place 2 26) (codes "u")) (NameExpr (place 2 28) (codes "u")));
  } ∷ [];
}

read_applied : IsTree tree_applied ≡ reading_of_text (example.two_lines (codes "def a = 1") (codes "def b = fun (u: Unit) => u(u)"))
unfolding reading_of_text word_of short_symbol pair_symbol front_of blank_of token_of number_of unicode_ident encode is_utf8 utf8_valid_len chars reading_of module_at imports_at import_at defs_at def_at def_rule_at part_at expr_over links_at next_link link_at dot_at operation_at link_rule_at expr_start_at fun_at expr_rule_at type_over shape_over shape_start_at paren_at named_at shape_rule_at one_part_at written_at captures_at set_at caret_at elements_at name_at placed_name_at symbol_at word_at operation_named
read_applied = refl

elaborated_applied :
    elaboration (device_names example.console) tree_applied
    ≡ IsElaborated (record { imports = []; definitions = one ∷ applied ∷ [] })
unfolding followed gives refuses new_hole with_own_holes elaborated_shape elaborated_type with_elements elaborated elaboration
elaborated_applied = refl

pub second_definition_is_refused : example.SecondDefinitionIsRefused
second_definition_is_refused =
    is_judged (tree_of _ tree_applied read_applied) refl elaborated_applied
    (accepted_first {first = one} {rest = applied ∷ []} one_accepted.1
    (refused_first {first = applied}
    (subst (λ t. definitions.HasVerdict 1 (entry_of t ∷ globals) (to_be_checked applied) (definitions.IsRefused E13 (place 2 26)))
    (sym one_accepted.2) applied_refused)))

pub second_names_the_first : example.SecondNamesTheFirst
unfolding reading_of_text word_of short_symbol pair_symbol front_of blank_of token_of number_of unicode_ident encode is_utf8 utf8_valid_len chars reading_of module_at imports_at import_at defs_at def_at def_rule_at part_at expr_over links_at next_link link_at dot_at operation_at link_rule_at expr_start_at fun_at expr_rule_at type_over shape_over shape_start_at paren_at named_at shape_rule_at one_part_at written_at captures_at set_at caret_at elements_at name_at placed_name_at symbol_at word_at operation_named followed gives refuses new_hole with_own_holes elaborated_shape elaborated_type with_elements elaborated elaboration
second_names_the_first = (
  one_accepted.0,
  boxed_accepted.0,
  is_judged (tree_of _ _ refl) refl refl
      (accepted_first {first = one} {rest = boxed ∷ []} one_accepted.1
      (accepted_first {first = boxed} {rest = []}
      (subst (λ t. definitions.HasVerdict 1 (entry_of t ∷ globals) (to_be_checked boxed) (definitions.IsAccepted boxed_accepted.0))
      (sym one_accepted.2) boxed_accepted.1) no_more)),
  one_accepted.2,
  boxed_accepted.2,
)
