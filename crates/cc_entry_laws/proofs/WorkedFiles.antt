-- The worked files, by computation.
use Rattle.std.proofs.Common.{◌≡◌, ℕ, pos, false, codes, List, [], ◌∷◌, map, Some, None, if◌then◌else◌}
use Rattle.std.proofs.Common.{refl, sym, ap, ◌∙◌, subst, inl, inr}
use Rattle.std.proofs.lemmas.Bool.{cases_Bool}
use Rattle.std.proofs.lemmas.Option.{same_Some}
use Rattle.std.specs.List.{AllByRecursion}
use Rattle.std.specs.Option.{unwrap_or}
use Rattle.std.specs.Str.{bytes_eq, chars, is_utf8}
use Rattle.std.specs.Str.Lossy.{utf8_valid_len}
use Rattle.unicode_ident.proofs.Computing.{unicode_ident}
use lib.Utf8.{encode}
use Rattle.cc_base.specs.declared.literal.Base.TheVariants as bases
use Rattle.cc_base.specs.declared.literal.Op.TheVariants as operations
use Rattle.cc_base.specs.Literals.{NumberLiteral}
use Rattle.cc_capture.specs.Elements.{element_order, same_element}
use Rattle.cc_capture.specs.Rising.{placed}
use Rattle.cc_capture.specs.Sets.{contains, empty, insert, from_list, retain, remove, union, flat_image, same_set, is_subset}
use Rattle.cc_core.specs.Contexts.{Context, entry_of}
use Rattle.cc_core.specs.Terms.{Absent}
use Rattle.cc_graph.specs.Graph.{ImportMap, reaches, does_import}
use Rattle.cc_graph.proofs.NameLemmas.{same_name}
use Rattle.cc_grammar.specs.Syntax.{AbsentSet, WrittenSet, CapturingType, BaseShape, ParenthesizedShape, FunctionShape}
use Rattle.cc_grammar.specs.Syntax.{NameExpr, LiteralExpr, FunExpr, CallExpr, TellExpr, ModuleSyntax}
use Rattle.cc_grammar.specs.Tests.{operation_named}
use Rattle.cc_grammar.specs.Reading.{reading_of, module_at, imports_at, import_at, defs_at, def_at, def_rule_at, part_at, expr_over, links_at, next_link, link_at, dot_at, operation_at, link_rule_at, expr_start_at, fun_at, expr_rule_at, type_over, shape_over, shape_start_at, paren_at, named_at, shape_rule_at, one_part_at, written_at, captures_at, set_at, caret_at, elements_at, name_at, placed_name_at, symbol_at, word_at}
use Rattle.cc_lex.specs.Cutting.{word_of, short_symbol, pair_symbol, front_of, blank_of, token_of, number_of}
use Rattle.cc_checking_laws.specs.ExampleDefinitions.{leaf, around, operands, let_at}
use Rattle.cc_checking_laws.proofs.ComputedVerdicts.{verdict_in_steps}
use Rattle.cc_mnf.specs.Steps.{followed, gives, refuses, new_hole, with_own_holes}
use Rattle.cc_mnf.specs.ElaboratedTypes.{elaborated_shape, elaborated_type, with_elements}
use Rattle.cc_mnf.specs.Elaboration.{elaborated}
use Rattle.cc_mnf.specs.ElaboratedModules.{CoreDefinition, IsElaborated, elaboration, device_names}
use Rattle.cc_checking.specs.Comparison.{comparison, by_form}
use Rattle.cc_checking.specs.ExampleChecks.{place}
use Rattle.cc_checking.specs.Outcomes.{◌>>=◌}
use Rattle.cc_checking.specs.Verdicts as definitions
use Rattle.cc_verdicts.specs.ExampleModules.{console}
use Rattle.cc_verdicts.specs.ModuleVerdicts.{Finding, FoundDefinition, InCycle, IsAccepted, declared_context, to_be_checked}
use Rattle.cc_verdicts.specs.ModuleVerdicts.{HasModuleVerdict, is_judged, no_more, accepted_first}
use Rattle.cc_verdicts.specs.PresentTexts.{Texts, text_of, finding_for, findings_for, AreVerdicts}
use Rattle.cc_verdicts.specs.Readings.{IsTree, HasReading, reading_of_text, imports_in}
use Rattle.cc_verdicts.proofs.ReadingLaws.{text_has_one_reading}
use Rattle.cc_entry_laws.specs.ExampleEntries as entries
use Rattle.cc_entry_laws.proofs.WorkedEntries.{graph_is, main_has_its_entry}
use Rattle.cc_entry_laws.specs.ExampleFiles as example

tree_of : (text : List ℕ) (tree : ModuleSyntax) → IsTree tree ≡ reading_of_text text → HasReading text (IsTree tree)
tree_of text tree is = (text_has_one_reading text (IsTree tree)).1 is

-- ---- the library
abbrev library_tree : ModuleSyntax
library_tree = record {
  imports = [];
  defs = record {
    own = false;
    name = codes "line";
    name_at = place 1 5;
    written = Some (CapturingType (place 1 11)
        (ParenthesizedShape (place 1 11)
        (FunctionShape (place 1 12) (codes "x") (CapturingType (place 1 16) (BaseShape (place 1 16) bases.Int) AbsentSet)
        (CapturingType (place 1 24) (BaseShape (place 1 24) bases.Unit) AbsentSet)))
        (WrittenSet (record { at = place 1 31; name = Some (codes "out") } ∷ [])));
    right = FunExpr (place 1 38) (codes "x") (CapturingType (place 1 46) (BaseShape (place 1 46) bases.Int) AbsentSet)
        (TellExpr (place 1 54) operations.Print (NameExpr (place 1 54) (codes "out")) (NameExpr (place 1 64) (codes "x")));
  } ∷ [];
}

library_read : IsTree library_tree ≡ reading_of_text entries.library_text
unfolding reading_of_text word_of short_symbol pair_symbol front_of blank_of token_of number_of unicode_ident encode is_utf8 utf8_valid_len chars reading_of module_at imports_at import_at defs_at def_at def_rule_at part_at expr_over links_at next_link link_at dot_at operation_at link_rule_at expr_start_at fun_at expr_rule_at type_over shape_over shape_start_at paren_at named_at shape_rule_at one_part_at written_at captures_at set_at caret_at elements_at name_at placed_name_at symbol_at word_at operation_named
library_read = refl

abbrev line : CoreDefinition
line = record {
  name = codes "line";
  name_at = place 1 5;
  note = entries.line.accepted.note;
  recursive = false;
  right = entries.line.accepted.filled;
  places = around (place 1 38) (operands (place 1 54) (place 1 54) (place 1 64));
}

library_elaborated :
    elaboration (device_names console) library_tree ≡ IsElaborated (record { imports = []; definitions = line ∷ [] })
unfolding followed gives refuses new_hole with_own_holes elaborated_shape elaborated_type with_elements elaborated elaboration contains element_order same_element empty insert from_list placed
library_elaborated = refl

-- the contexts in which the definitions stand
abbrev globals : Context
globals = declared_context console

line_accepted : definitions.HasVerdict 1 globals (to_be_checked line) (definitions.IsAccepted entries.line.accepted)
unfolding ◌>>=◌ comparison by_form same_set contains flat_image from_list union retain remove insert placed element_order same_element empty is_subset
line_accepted = verdict_in_steps 9 1 globals (to_be_checked line) (definitions.IsAccepted entries.line.accepted) refl

library_findings : findings_for entries.two_texts entries.two_verdicts (codes "lib") entries.library_text ≡ []
library_findings =
    ap (λ r. map (finding_for entries.two_texts entries.two_verdicts (codes "lib")) (unwrap_or (imports_in r) []))
    (sym library_read)

library_verdict :
    HasModuleVerdict console entries.library_text
    (findings_for entries.two_texts entries.two_verdicts (codes "lib") entries.library_text)
    (IsAccepted (entries.line ∷ []))
library_verdict =
    let V : List Finding → Type 0 = λ fs. HasModuleVerdict console entries.library_text fs (IsAccepted (entries.line ∷ [])) in
    subst V (sym library_findings)
    (is_judged (tree_of entries.library_text library_tree library_read) refl library_elaborated
    (accepted_first {first = line} {rest = []} line_accepted no_more))

-- ---- the application
abbrev application_tree : ModuleSyntax
application_tree = record {
  imports = record { source = codes "lib"; at = place 1 8; name = codes "line"; name_at = place 1 12 } ∷ [];
  defs = record {
    own = false;
    name = codes "main";
    name_at = place 2 5;
    written = None;
    right = FunExpr (place 2 12) (codes "u") (CapturingType (place 2 20) (BaseShape (place 2 20) bases.Unit) AbsentSet)
        (CallExpr (place 2 29) (NameExpr (place 2 29) (codes "line")) (LiteralExpr (place 2 34) (NumberLiteral (pos 5))));
  } ∷ record {
    own = false;
    name = codes "five";
    name_at = place 3 5;
    written = None;
    right = LiteralExpr (place 3 12) (NumberLiteral (pos 5));
  } ∷ [];
}

application_read : IsTree application_tree ≡ reading_of_text entries.application_text
unfolding reading_of_text word_of short_symbol pair_symbol front_of blank_of token_of number_of unicode_ident encode is_utf8 utf8_valid_len chars reading_of module_at imports_at import_at defs_at def_at def_rule_at part_at expr_over links_at next_link link_at dot_at operation_at link_rule_at expr_start_at fun_at expr_rule_at type_over shape_over shape_start_at paren_at named_at shape_rule_at one_part_at written_at captures_at set_at caret_at elements_at name_at placed_name_at symbol_at word_at operation_named
application_read = refl

abbrev main : CoreDefinition
main = record {
  name = codes "main";
  name_at = place 2 5;
  note = Absent;
  recursive = false;
  right = entries.main.accepted.filled;
  places = around (place 2 12)
      (let_at (place 2 29) (place 2 34) (leaf (place 2 34)) (operands (place 2 29) (place 2 29) (place 2 34)));
}

abbrev five : CoreDefinition
five = record {
  name = codes "five";
  name_at = place 3 5;
  note = Absent;
  recursive = false;
  right = entries.five.accepted.filled;
  places = leaf (place 3 12);
}

application_elaborated :
    elaboration (device_names console) application_tree
    ≡ IsElaborated (record { imports = application_tree.imports; definitions = main ∷ five ∷ [] })
unfolding followed gives refuses new_hole with_own_holes elaborated_shape elaborated_type with_elements elaborated elaboration contains element_order same_element empty insert from_list placed
application_elaborated = refl

abbrev behind_line : Context
behind_line = entry_of entries.line.accepted.signature ∷ globals

abbrev behind_main : Context
behind_main = entry_of entries.main.accepted.signature ∷ behind_line

main_accepted :
    definitions.HasVerdict 1 behind_line (to_be_checked main) (definitions.IsAccepted entries.main.accepted)
unfolding ◌>>=◌ comparison by_form same_set contains flat_image from_list union retain remove insert placed element_order same_element empty is_subset
main_accepted = verdict_in_steps 9 1 behind_line (to_be_checked main) (definitions.IsAccepted entries.main.accepted) refl

five_accepted :
    definitions.HasVerdict 1 behind_main (to_be_checked five) (definitions.IsAccepted entries.five.accepted)
unfolding ◌>>=◌ comparison by_form same_set contains flat_image from_list union retain remove insert placed element_order same_element empty is_subset
five_accepted = verdict_in_steps 9 1 behind_main (to_be_checked five) (definitions.IsAccepted entries.five.accepted) refl

-- what is found for its import
abbrev found_by_graph : ImportMap → List Finding
found_by_graph graph =
    (if reaches graph (codes "lib") (codes "app") then InCycle
    else FoundDefinition entries.line.accepted.signature) ∷ []

application_findings :
    findings_for entries.two_texts entries.two_verdicts (codes "app") entries.application_text
    ≡ FoundDefinition entries.line.accepted.signature ∷ []
unfolding finding_for reaches does_import
application_findings =
    ap (λ r. map (finding_for entries.two_texts entries.two_verdicts (codes "app")) (unwrap_or (imports_in r) []))
    (sym application_read)
    ∙ ap found_by_graph graph_is

application_verdict :
    HasModuleVerdict console entries.application_text
    (findings_for entries.two_texts entries.two_verdicts (codes "app") entries.application_text)
    (IsAccepted (entries.main ∷ entries.five ∷ []))
application_verdict =
    let V : List Finding → Type 0 = λ fs. HasModuleVerdict console entries.application_text fs
    (IsAccepted (entries.main ∷ entries.five ∷ [])) in
    subst V (sym application_findings)
    (is_judged (tree_of entries.application_text application_tree application_read) refl application_elaborated
    (accepted_first {first = main} {rest = five ∷ []} main_accepted
    (accepted_first {first = five} {rest = []} five_accepted no_more)))

-- ---- both
each_text : (P : List ℕ → List ℕ → Type 0) (texts : Texts) → AllByRecursion (λ one. P one.0 one.1) texts
    → (name text : List ℕ) → text_of texts name ≡ Some text → P name text
each_text P [] all name text is = cc
each_text P (first ∷ rest) all name text is =
    elim (cases_Bool (bytes_eq name first.0)) [
      | inl same ↦
          (let found = rw same at is in
          subst (λ n. P n text) (sym (same_name name first.0 same))
          (subst (λ t. P first.0 t) (same_Some first.1 text found) all.0))
      | inr other ↦ each_text P rest all.1 name text (rw other at is)
    ]

two_verdicts_are : AreVerdicts console entries.two_texts entries.two_verdicts
two_verdicts_are =
    let P : List ℕ → List ℕ → Type 0 = λ name text. HasModuleVerdict console text
    (findings_for entries.two_texts entries.two_verdicts name text) (entries.two_verdicts name) in
    each_text P entries.two_texts (application_verdict, (library_verdict, tt))

pub main_is_present : example.MainIsPresent
main_is_present = (
  two_verdicts_are,
  record {
    verdicts = entries.two_verdicts;
    are = two_verdicts_are;
    module_name = codes "app";
    name = codes "main";
    started = entries.main;
    starts = main_has_its_entry.0;
    entered = main_has_its_entry.1;
  },
)
