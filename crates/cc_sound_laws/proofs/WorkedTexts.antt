-- The worked texts, from their verdicts.
use Rattle.std.proofs.Common.{◌≡◌, ℕ, true, codes, List, [], ◌∷◌, map, Some, None, refl, sym, ap, ◌∙◌, subst, inl, inr}
use Rattle.std.specs.Option.{is_some, unwrap_or}
use Rattle.std.specs.Str.{bytes_eq, chars, is_utf8}
use Rattle.std.specs.Str.Lossy.{utf8_valid_len}
use Rattle.std.specs.Prelude.{IsTrue}
use Rattle.std.specs.List.{AllByRecursion, IsDistinct}
use Rattle.std.specs.List.Sorted.{IsStrictlySortedBy}
use Rattle.std.proofs.lemmas.Bool.{cases_Bool, or_left}
use Rattle.unicode_ident.proofs.Computing.{unicode_ident}
use lib.Utf8.{encode}
use Rattle.cc_base.specs.declared.code.Code.TheVariants.{E13}
use Rattle.cc_core.specs.Programs.{Import, Module, imported, is_listed}
use Rattle.cc_checking.specs.ExampleChecks.{place}
use Rattle.cc_graph.proofs.NameLemmas.{is_same_name}
use Rattle.cc_grammar.specs.Syntax.{ImportSyntax}
use Rattle.cc_grammar.specs.Tests.{operation_named}
use Rattle.cc_grammar.specs.Reading.{reading_of, module_at, imports_at, import_at, defs_at, def_at, def_rule_at, part_at, expr_over, links_at, next_link, link_at, dot_at, operation_at, link_rule_at, expr_start_at, fun_at, expr_rule_at, type_over, shape_over, shape_start_at, paren_at, named_at, shape_rule_at, one_part_at, written_at, captures_at, set_at, caret_at, elements_at, name_at, placed_name_at, symbol_at, word_at}
use Rattle.cc_lex.specs.Cutting.{word_of, short_symbol, pair_symbol, front_of, blank_of, token_of, number_of}
use Rattle.cc_verdicts.specs.ExampleModules.{console, two_lines}
use Rattle.cc_verdicts.specs.ModuleLaws.{NamesOfDevicesDiffer}
use Rattle.cc_verdicts.specs.ModuleVerdicts.{Finding, ModuleVerdict, IsRefused, HasModuleVerdict}
use Rattle.cc_verdicts.specs.PresentTexts.{ArePresent, text_of, finding_for, findings_for, AreVerdicts}
use Rattle.cc_verdicts.specs.Readings.{IsTree, HasReading, reading_of_text, imports_of}
use Rattle.cc_verdicts.proofs.WorkedModules.{second_definition_is_refused}
use Rattle.cc_entry_laws.specs.ExampleEntries as entries
use Rattle.cc_entry_laws.specs.LinkOrders.{is_accepted_module}
use Rattle.cc_entry_laws.specs.PresentEntries.{import_of}
use Rattle.cc_entry_laws.proofs.WorkedFiles.{main_is_present}
use Rattle.cc_sound_laws.specs.ExampleTexts as example
use Rattle.cc_sound_laws.specs.VerdictsByTypes.{IsRefusedForItsTypes}
use Rattle.cc_sound_laws.proofs.JudgedModules.{tree_imports}
use Rattle.cc_sound_laws.proofs.ReadTexts.{module_is_read}
use Rattle.cc_sound_laws.proofs.SoundTexts.{verdicts_are_by_types, present_entries_are_accepted}

console_differs : NamesOfDevicesDiffer console
unfolding IsDistinct
console_differs = (tt, tt)

two_present : ArePresent entries.two_texts
unfolding IsStrictlySortedBy encode
two_present = ((refl, tt), (tt, tt))

pub main_is_accepted : example.MainIsAccepted
main_is_accepted =
    let is = main_is_present.1 in
    present_entries_are_accepted console entries.two_texts is.verdicts console_differs two_present is.are is.module_name is.name
    is.started is.starts entries.main_entry is.entered

-- ---- the text that is refused
one_present : ArePresent example.untyped_texts
unfolding IsStrictlySortedBy
one_present = (tt, tt)

abbrev verdicts : List ℕ → ModuleVerdict
verdicts name = IsRefused E13 (place 2 26)

no_imports : imports_of example.untyped_text ≡ Some []
unfolding reading_of_text word_of short_symbol pair_symbol front_of blank_of token_of number_of unicode_ident encode is_utf8 utf8_valid_len chars reading_of module_at imports_at import_at defs_at def_at def_rule_at part_at expr_over links_at next_link link_at dot_at operation_at link_rule_at expr_start_at fun_at expr_rule_at type_over shape_over shape_start_at paren_at named_at shape_rule_at one_part_at written_at captures_at set_at caret_at elements_at name_at placed_name_at symbol_at word_at operation_named
no_imports = refl

some_is : (a b : List ℕ) → Some a ≡ Some b → a ≡ b
some_is a b e = cc

none_is : (text : List ℕ) → None ≡ Some text → example.untyped_text ≡ text
none_is text e = cc

the_text : (name text : List ℕ) → text_of example.untyped_texts name ≡ Some text → example.untyped_text ≡ text
the_text name text is =
    elim (cases_Bool (bytes_eq name (codes "m"))) [
      | inl same ↦ some_is example.untyped_text text (rw same at is)
      | inr other ↦ none_is text (rw other at is)
    ]

verdicts_are : AreVerdicts console example.untyped_texts verdicts
verdicts_are name text is =
    subst (λ t. HasModuleVerdict console t (findings_for example.untyped_texts verdicts name t) (IsRefused E13 (place 2 26)))
    (the_text name text is)
    (subst (λ (fs : List Finding). HasModuleVerdict console example.untyped_text fs (IsRefused E13 (place 2 26)))
    (sym (ap (λ o. map (finding_for example.untyped_texts verdicts name) (unwrap_or o [])) no_imports))
    second_definition_is_refused)

none_accepted : (name : List ℕ) → is_accepted_module example.untyped_texts verdicts name ≡ true → ⊥
none_accepted name is =
    elim (cases_Bool (bytes_eq name (codes "m"))) [
      | inl same ↦ (let h = rw same at is in cc)
      | inr other ↦ (let h = rw other at is in cc)
    ]

no_module : (accepted : List Module) → ((name : List ℕ) → is_listed accepted name ≡ true → ⊥) → accepted ≡ []
no_module [] none = refl
no_module (first ∷ rest) none =
    absurd (none first.name (or_left _ _ (is_same_name first.name first.name refl)))

here : text_of example.untyped_texts (codes "m") ≡ Some example.untyped_text
here = refl

pub units_are_no_functions : example.UnitsAreNoFunctions
units_are_no_functions =
    let (accepted, by) = verdicts_are_by_types console example.untyped_texts verdicts console_differs one_present verdicts_are in
    let empty = no_module accepted (λ name listed. none_accepted name ((by.exactly name).0 listed)) in
    subst (λ (ms : List Module). IsRefusedForItsTypes console ms example.untyped_text) empty
    (by.for_types (codes "m") example.untyped_text E13 (place 2 26) here refl tt)

-- ---- the text that imports
abbrev importing_text : List ℕ
importing_text = two_lines (codes "import x.f") (codes "def a = 1")

abbrev its_import : ImportSyntax
its_import = record { source = codes "x"; at = place 1 8; name = codes "f"; name_at = place 1 10 }

its_imports : imports_of importing_text ≡ Some (its_import ∷ [])
unfolding reading_of_text word_of short_symbol pair_symbol front_of blank_of token_of number_of unicode_ident encode is_utf8 utf8_valid_len chars reading_of module_at imports_at import_at defs_at def_at def_rule_at part_at expr_over links_at next_link link_at dot_at operation_at link_rule_at expr_start_at fun_at expr_rule_at type_over shape_over shape_start_at paren_at named_at shape_rule_at one_part_at written_at captures_at set_at caret_at elements_at name_at placed_name_at symbol_at word_at operation_named
its_imports = refl

nothing_is : (text : List ℕ) → None ≡ Some text → importing_text ≡ text
nothing_is text e = cc

that_text : (name text : List ℕ) → text_of example.importing_texts name ≡ Some text → importing_text ≡ text
that_text name text is =
    elim (cases_Bool (bytes_eq name (codes "m"))) [
      | inl same ↦ some_is importing_text text (rw same at is)
      | inr other ↦ nothing_is text (rw other at is)
    ]

imports_alike : (a b : List ImportSyntax) → Some a ≡ Some b → a ≡ b
imports_alike a b e = cc

not_some : is_some (imported [] (import_of its_import)) ≡ true → ⊥
not_some e = cc

pub imports_want_earlier_modules : example.ImportsWantEarlierModules
imports_want_earlier_modules current is =
    let reading = module_is_read is.text is.tree is.reads.is_module in
    let R : List ℕ → Type 0 = λ t. HasReading t (IsTree is.tree) in
    let here : HasReading importing_text (IsTree is.tree) = subst R (sym (that_text current.name is.text is.there)) reading in
    let same : is.tree.imports ≡ its_import ∷ [] =
    imports_alike is.tree.imports (its_import ∷ []) (sym (tree_imports importing_text is.tree here) ∙ its_imports) in
    let F : List ImportSyntax → Type 0 = λ l. AllByRecursion (λ (one : Import). IsTrue (is_some (imported [] one))) (map import_of l) in
    not_some (subst F same is.reads.found).0
