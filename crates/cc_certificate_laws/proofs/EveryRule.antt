-- The certificates of two texts, in which each rule has a node, by computation.
use Rattle.std.proofs.Common.{◌≡◌, ℕ, ◌≤◌, codes, List, [], ◌∷◌, Option, Some, None, refl, sym, ap, subst, lit≤, pos, false}
use Rattle.std.specs.Fmt.{digits}
use Rattle.std.specs.Str.{chars, is_utf8}
use Rattle.std.specs.Str.Lossy.{utf8_valid_len}
use Rattle.unicode_ident.proofs.Computing.{unicode_ident}
use lib.Utf8.{encode}
use Rattle.cc_base.specs.Literals.{NumberLiteral}
use Rattle.cc_capture.specs.Elements.{element_order, same_element}
use Rattle.cc_capture.specs.Rising.{placed}
use Rattle.cc_capture.specs.Variables.{same_variable}
use Rattle.cc_capture.specs.Sets.{contains, empty, insert, from_list, retain, remove, union, flat_image, image, same_set, is_subset}
use Rattle.cc_core.specs.Terms.{Absent, LiteralTerm}
use Rattle.cc_grammar.specs.Syntax.{ModuleSyntax}
use Rattle.cc_grammar.specs.Tests.{operation_named}
use Rattle.cc_grammar.specs.Reading.{reading_of, module_at, imports_at, import_at, defs_at, def_at, def_rule_at, part_at, expr_over, links_at, next_link, link_at, dot_at, operation_at, link_rule_at, expr_start_at, fun_at, expr_rule_at, type_over, shape_over, shape_start_at, paren_at, named_at, shape_rule_at, one_part_at, written_at, captures_at, set_at, caret_at, elements_at, name_at, placed_name_at, symbol_at, word_at}
use Rattle.cc_lex.specs.Cutting.{word_of, short_symbol, pair_symbol, front_of, blank_of, token_of, number_of}
use Rattle.cc_checking_laws.specs.AcceptedDefinitions.{accepted_derived}
use Rattle.cc_checking_laws.specs.ExampleDefinitions.{leaf}
use Rattle.cc_checking_laws.proofs.ComputedVerdicts.{verdict_in, verdict_in_steps}
use Rattle.cc_mnf.specs.Steps.{followed, gives, refuses, new_hole, with_own_holes}
use Rattle.cc_mnf.specs.ElaboratedTypes.{elaborated_shape, elaborated_type, with_elements}
use Rattle.cc_mnf.specs.Elaboration.{elaborated}
use Rattle.cc_mnf.specs.ElaboratedModules.{CoreDefinition, Elaboration, IsElaborated, elaboration, device_names}
use Rattle.cc_checking.specs.Comparison.{comparison, by_form}
use Rattle.cc_checking.specs.CanonicalDerivations.{shape_derived, form_derived}
use Rattle.cc_checking.specs.DerivationSizes.{nodes}
use Rattle.cc_checking.specs.ExampleChecks.{place}
use Rattle.cc_checking.specs.Outcomes.{◌>>=◌}
use Rattle.cc_checking.specs.Verdicts.{Accepted}
use Rattle.cc_checking.specs.Verdicts as definitions
use Rattle.cc_verdicts.specs.ExampleModules.{console, named}
use Rattle.cc_verdicts.specs.ModuleVerdicts.{CheckedDefinition, IsAccepted, HasModuleVerdict, to_be_checked, checked_as, first_missing, is_judged, no_more, accepted_first}
use Rattle.cc_verdicts.specs.Readings.{TextReading, IsTree, imports_in, imports_of, reading_of_text}
use Rattle.cc_verdicts.proofs.ReadingLaws.{text_has_one_reading}
use Rattle.cc_certificate_writing.specs.Certificates.{certificate_text, lines_text}
use Rattle.cc_verdicts.specs.StandingDefinitions.{context_behind, names_behind}
use Rattle.cc_certificate_writing.specs.DefinitionCertificates.{definition_certificate}
use Rattle.cc_certificate_laws.specs.ModuleCertificates.{IsCertified}
use Rattle.cc_certificate_laws.specs.RuleExamples.{generic_text, generic_lines, control_text, control_lines, GenericIsWritten, ControlIsWritten}
use Rattle.cc_certificate_laws.proofs.CertifiedModules.{modules_certified}
use Rattle.cc_certificate_laws.proofs.WorkedModule.{globals, accepted_of, console_named, no_imports}

-- the tree that is read, and the definition that it is elaborated to
abbrev tree_in : TextReading → ModuleSyntax
tree_in (IsTree tree) = tree
tree_in _ = record { imports = []; defs = [] }

abbrev first_of : List CoreDefinition → CoreDefinition
first_of (first ∷ rest) = first
first_of [] =
    record {
      name = [];
      name_at = place 1 1;
      note = Absent;
      recursive = false;
      right = LiteralTerm (NumberLiteral (pos 1));
      places = leaf (place 1 1);
    }

abbrev definition_in : Elaboration → CoreDefinition
definition_in (IsElaborated elaboration) = first_of elaboration.definitions
definition_in _ = first_of []

-- the definition of the first text
generic_tree : ModuleSyntax
generic_tree = tree_in (reading_of_text generic_text)

generic : CoreDefinition
generic = definition_in (elaboration (device_names console) generic_tree)

-- what it is accepted as
generic_own : Accepted
generic_own = accepted_of (verdict_in 40 1 globals (to_be_checked generic))

generic_read : IsTree generic_tree ≡ reading_of_text generic_text
unfolding generic_tree reading_of_text word_of short_symbol pair_symbol front_of blank_of token_of number_of unicode_ident encode is_utf8 utf8_valid_len chars reading_of module_at imports_at import_at defs_at def_at def_rule_at part_at expr_over links_at next_link link_at dot_at operation_at link_rule_at expr_start_at fun_at expr_rule_at type_over shape_over shape_start_at paren_at named_at shape_rule_at one_part_at written_at captures_at set_at caret_at elements_at name_at placed_name_at symbol_at word_at operation_named
generic_read = refl

generic_none : imports_of generic_text ≡ Some []
unfolding reading_of_text word_of short_symbol pair_symbol front_of blank_of token_of number_of unicode_ident encode is_utf8 utf8_valid_len chars reading_of module_at imports_at import_at defs_at def_at def_rule_at part_at expr_over links_at next_link link_at dot_at operation_at link_rule_at expr_start_at fun_at expr_rule_at type_over shape_over shape_start_at paren_at named_at shape_rule_at one_part_at written_at captures_at set_at caret_at elements_at name_at placed_name_at symbol_at word_at operation_named
generic_none = refl

generic_missing : first_missing generic_tree.imports [] ≡ None
unfolding generic_tree reading_of_text word_of short_symbol pair_symbol front_of blank_of token_of number_of unicode_ident encode is_utf8 utf8_valid_len chars reading_of module_at imports_at import_at defs_at def_at def_rule_at part_at expr_over links_at next_link link_at dot_at operation_at link_rule_at expr_start_at fun_at expr_rule_at type_over shape_over shape_start_at paren_at named_at shape_rule_at one_part_at written_at captures_at set_at caret_at elements_at name_at placed_name_at symbol_at word_at operation_named
generic_missing = refl

generic_elaborated : elaboration (device_names console) generic_tree ≡ IsElaborated (record { imports = []; definitions = generic ∷ [] })
unfolding generic generic_tree reading_of_text word_of short_symbol pair_symbol front_of blank_of token_of number_of unicode_ident encode is_utf8 utf8_valid_len chars reading_of module_at imports_at import_at defs_at def_at def_rule_at part_at expr_over links_at next_link link_at dot_at operation_at link_rule_at expr_start_at fun_at expr_rule_at type_over shape_over shape_start_at paren_at named_at shape_rule_at one_part_at written_at captures_at set_at caret_at elements_at name_at placed_name_at symbol_at word_at operation_named followed gives refuses new_hole with_own_holes elaborated_shape elaborated_type with_elements elaborated elaboration
generic_elaborated = refl

generic_accepted : definitions.HasVerdict 1 globals (to_be_checked generic) (definitions.IsAccepted generic_own)
unfolding generic generic_own generic_tree reading_of_text word_of short_symbol pair_symbol front_of blank_of token_of number_of unicode_ident encode is_utf8 utf8_valid_len chars reading_of module_at imports_at import_at defs_at def_at def_rule_at part_at expr_over links_at next_link link_at dot_at operation_at link_rule_at expr_start_at fun_at expr_rule_at type_over shape_over shape_start_at paren_at named_at shape_rule_at one_part_at written_at captures_at set_at caret_at elements_at name_at placed_name_at symbol_at word_at operation_named followed gives refuses new_hole with_own_holes elaborated_shape elaborated_type with_elements elaborated elaboration ◌>>=◌ comparison by_form same_set contains flat_image from_list union retain remove insert placed element_order same_element same_variable empty is_subset
generic_accepted = verdict_in_steps 40 1 globals (to_be_checked generic) (definitions.IsAccepted generic_own) refl

generic_checked : checked_as generic generic_own ≡ named (codes "generic") generic_own
unfolding generic generic_tree reading_of_text word_of short_symbol pair_symbol front_of blank_of token_of number_of unicode_ident encode is_utf8 utf8_valid_len chars reading_of module_at imports_at import_at defs_at def_at def_rule_at part_at expr_over links_at next_link link_at dot_at operation_at link_rule_at expr_start_at fun_at expr_rule_at type_over shape_over shape_start_at paren_at named_at shape_rule_at one_part_at written_at captures_at set_at caret_at elements_at name_at placed_name_at symbol_at word_at operation_named followed gives refuses new_hole with_own_holes elaborated_shape elaborated_type with_elements elaborated elaboration
generic_checked = refl

generic_verdict : HasModuleVerdict console generic_text [] (IsAccepted (named (codes "generic") generic_own ∷ []))
generic_verdict =
    let found : HasModuleVerdict console generic_text [] (IsAccepted (checked_as generic generic_own ∷ [])) =
    is_judged ((text_has_one_reading generic_text (IsTree generic_tree)).1 generic_read) generic_missing generic_elaborated
    (accepted_first {context = globals} {first = generic} {rest = []} {accepted = generic_own} {verdict = IsAccepted []} generic_accepted no_more) in
    subst (λ (one : CheckedDefinition). HasModuleVerdict console generic_text [] (IsAccepted (one ∷ []))) generic_checked found

generic_count : nodes (accepted_derived globals generic_own) ≡ 62
unfolding generic generic_own generic_tree reading_of_text word_of short_symbol pair_symbol front_of blank_of token_of number_of unicode_ident encode is_utf8 utf8_valid_len chars reading_of module_at imports_at import_at defs_at def_at def_rule_at part_at expr_over links_at next_link link_at dot_at operation_at link_rule_at expr_start_at fun_at expr_rule_at type_over shape_over shape_start_at paren_at named_at shape_rule_at one_part_at written_at captures_at set_at caret_at elements_at name_at placed_name_at symbol_at word_at operation_named followed gives refuses new_hole with_own_holes elaborated_shape elaborated_type with_elements elaborated elaboration ◌>>=◌ comparison by_form same_set contains flat_image from_list union retain remove insert placed element_order same_element same_variable empty is_subset shape_derived form_derived
generic_count = refl

generic_few : nodes (accepted_derived globals generic_own) ≤ 100000
generic_few = let P : ℕ → Type 0 = λ n. n ≤ 100000 in subst P (sym generic_count) (lit≤ tt)

generic_text_is : certificate_text (codes "out" ∷ []) globals generic_own.filled (accepted_derived globals generic_own) ≡ lines_text generic_lines
unfolding generic generic_own generic_tree reading_of_text word_of short_symbol pair_symbol front_of blank_of token_of number_of unicode_ident encode is_utf8 utf8_valid_len chars reading_of module_at imports_at import_at defs_at def_at def_rule_at part_at expr_over links_at next_link link_at dot_at operation_at link_rule_at expr_start_at fun_at expr_rule_at type_over shape_over shape_start_at paren_at named_at shape_rule_at one_part_at written_at captures_at set_at caret_at elements_at name_at placed_name_at symbol_at word_at operation_named followed gives refuses new_hole with_own_holes elaborated_shape elaborated_type with_elements elaborated elaboration ◌>>=◌ comparison by_form same_set contains flat_image from_list union retain remove insert placed element_order same_element same_variable empty is_subset shape_derived form_derived image digits
generic_text_is = refl

pub generic_is_written : GenericIsWritten
generic_is_written = (
  generic_own,
  generic_verdict,
  generic_text_is,
  modules_certified console [] [] [] (named (codes "generic") generic_own) console_named
      (record {
        text = generic_text;
        imports_are = generic_none;
        after = [];
        accepted = generic_verdict;
        fit = record { one_each = no_imports generic_none; over_devices = tt };
        low = tt;
      }) generic_few,
)

-- the definition of the second text
control_tree : ModuleSyntax
control_tree = tree_in (reading_of_text control_text)

control : CoreDefinition
control = definition_in (elaboration (device_names console) control_tree)

-- what it is accepted as
control_own : Accepted
control_own = accepted_of (verdict_in 40 1 globals (to_be_checked control))

control_read : IsTree control_tree ≡ reading_of_text control_text
unfolding control_tree reading_of_text word_of short_symbol pair_symbol front_of blank_of token_of number_of unicode_ident encode is_utf8 utf8_valid_len chars reading_of module_at imports_at import_at defs_at def_at def_rule_at part_at expr_over links_at next_link link_at dot_at operation_at link_rule_at expr_start_at fun_at expr_rule_at type_over shape_over shape_start_at paren_at named_at shape_rule_at one_part_at written_at captures_at set_at caret_at elements_at name_at placed_name_at symbol_at word_at operation_named
control_read = refl

control_none : imports_of control_text ≡ Some []
unfolding reading_of_text word_of short_symbol pair_symbol front_of blank_of token_of number_of unicode_ident encode is_utf8 utf8_valid_len chars reading_of module_at imports_at import_at defs_at def_at def_rule_at part_at expr_over links_at next_link link_at dot_at operation_at link_rule_at expr_start_at fun_at expr_rule_at type_over shape_over shape_start_at paren_at named_at shape_rule_at one_part_at written_at captures_at set_at caret_at elements_at name_at placed_name_at symbol_at word_at operation_named
control_none = refl

control_missing : first_missing control_tree.imports [] ≡ None
unfolding control_tree reading_of_text word_of short_symbol pair_symbol front_of blank_of token_of number_of unicode_ident encode is_utf8 utf8_valid_len chars reading_of module_at imports_at import_at defs_at def_at def_rule_at part_at expr_over links_at next_link link_at dot_at operation_at link_rule_at expr_start_at fun_at expr_rule_at type_over shape_over shape_start_at paren_at named_at shape_rule_at one_part_at written_at captures_at set_at caret_at elements_at name_at placed_name_at symbol_at word_at operation_named
control_missing = refl

control_elaborated : elaboration (device_names console) control_tree ≡ IsElaborated (record { imports = []; definitions = control ∷ [] })
unfolding control control_tree reading_of_text word_of short_symbol pair_symbol front_of blank_of token_of number_of unicode_ident encode is_utf8 utf8_valid_len chars reading_of module_at imports_at import_at defs_at def_at def_rule_at part_at expr_over links_at next_link link_at dot_at operation_at link_rule_at expr_start_at fun_at expr_rule_at type_over shape_over shape_start_at paren_at named_at shape_rule_at one_part_at written_at captures_at set_at caret_at elements_at name_at placed_name_at symbol_at word_at operation_named followed gives refuses new_hole with_own_holes elaborated_shape elaborated_type with_elements elaborated elaboration
control_elaborated = refl

control_accepted : definitions.HasVerdict 1 globals (to_be_checked control) (definitions.IsAccepted control_own)
unfolding control control_own control_tree reading_of_text word_of short_symbol pair_symbol front_of blank_of token_of number_of unicode_ident encode is_utf8 utf8_valid_len chars reading_of module_at imports_at import_at defs_at def_at def_rule_at part_at expr_over links_at next_link link_at dot_at operation_at link_rule_at expr_start_at fun_at expr_rule_at type_over shape_over shape_start_at paren_at named_at shape_rule_at one_part_at written_at captures_at set_at caret_at elements_at name_at placed_name_at symbol_at word_at operation_named followed gives refuses new_hole with_own_holes elaborated_shape elaborated_type with_elements elaborated elaboration ◌>>=◌ comparison by_form same_set contains flat_image from_list union retain remove insert placed element_order same_element same_variable empty is_subset
control_accepted = verdict_in_steps 40 1 globals (to_be_checked control) (definitions.IsAccepted control_own) refl

control_checked : checked_as control control_own ≡ named (codes "control") control_own
unfolding control control_tree reading_of_text word_of short_symbol pair_symbol front_of blank_of token_of number_of unicode_ident encode is_utf8 utf8_valid_len chars reading_of module_at imports_at import_at defs_at def_at def_rule_at part_at expr_over links_at next_link link_at dot_at operation_at link_rule_at expr_start_at fun_at expr_rule_at type_over shape_over shape_start_at paren_at named_at shape_rule_at one_part_at written_at captures_at set_at caret_at elements_at name_at placed_name_at symbol_at word_at operation_named followed gives refuses new_hole with_own_holes elaborated_shape elaborated_type with_elements elaborated elaboration
control_checked = refl

control_verdict : HasModuleVerdict console control_text [] (IsAccepted (named (codes "control") control_own ∷ []))
control_verdict =
    let found : HasModuleVerdict console control_text [] (IsAccepted (checked_as control control_own ∷ [])) =
    is_judged ((text_has_one_reading control_text (IsTree control_tree)).1 control_read) control_missing control_elaborated
    (accepted_first {context = globals} {first = control} {rest = []} {accepted = control_own} {verdict = IsAccepted []} control_accepted no_more) in
    subst (λ (one : CheckedDefinition). HasModuleVerdict console control_text [] (IsAccepted (one ∷ []))) control_checked found

control_count : nodes (accepted_derived globals control_own) ≡ 71
unfolding control control_own control_tree reading_of_text word_of short_symbol pair_symbol front_of blank_of token_of number_of unicode_ident encode is_utf8 utf8_valid_len chars reading_of module_at imports_at import_at defs_at def_at def_rule_at part_at expr_over links_at next_link link_at dot_at operation_at link_rule_at expr_start_at fun_at expr_rule_at type_over shape_over shape_start_at paren_at named_at shape_rule_at one_part_at written_at captures_at set_at caret_at elements_at name_at placed_name_at symbol_at word_at operation_named followed gives refuses new_hole with_own_holes elaborated_shape elaborated_type with_elements elaborated elaboration ◌>>=◌ comparison by_form same_set contains flat_image from_list union retain remove insert placed element_order same_element same_variable empty is_subset shape_derived form_derived
control_count = refl

control_few : nodes (accepted_derived globals control_own) ≤ 100000
control_few = let P : ℕ → Type 0 = λ n. n ≤ 100000 in subst P (sym control_count) (lit≤ tt)

control_text_is : certificate_text (codes "out" ∷ []) globals control_own.filled (accepted_derived globals control_own) ≡ lines_text control_lines
unfolding control control_own control_tree reading_of_text word_of short_symbol pair_symbol front_of blank_of token_of number_of unicode_ident encode is_utf8 utf8_valid_len chars reading_of module_at imports_at import_at defs_at def_at def_rule_at part_at expr_over links_at next_link link_at dot_at operation_at link_rule_at expr_start_at fun_at expr_rule_at type_over shape_over shape_start_at paren_at named_at shape_rule_at one_part_at written_at captures_at set_at caret_at elements_at name_at placed_name_at symbol_at word_at operation_named followed gives refuses new_hole with_own_holes elaborated_shape elaborated_type with_elements elaborated elaboration ◌>>=◌ comparison by_form same_set contains flat_image from_list union retain remove insert placed element_order same_element same_variable empty is_subset shape_derived form_derived image digits
control_text_is = refl

pub control_is_written : ControlIsWritten
control_is_written = (
  control_own,
  control_verdict,
  control_text_is,
  modules_certified console [] [] [] (named (codes "control") control_own) console_named
      (record {
        text = control_text;
        imports_are = control_none;
        after = [];
        accepted = control_verdict;
        fit = record { one_each = no_imports control_none; over_devices = tt };
        low = tt;
      }) control_few,
)
