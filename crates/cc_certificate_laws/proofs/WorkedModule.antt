-- A text whose definition has a right certificate, by computation.
use Rattle.std.proofs.Common.{◌≡◌, ℕ, ◌≤◌, pos, false, codes, List, [], ◌∷◌, length, Option, Some, None, refl, sym, ap, arith}
use Rattle.std.specs.List.{IsDistinct}
use Rattle.std.specs.Option.{unwrap_or}
use Rattle.std.specs.Str.{bytes_eq, chars, is_utf8}
use Rattle.std.specs.Str.Lossy.{utf8_valid_len}
use Rattle.unicode_ident.proofs.Computing.{unicode_ident}
use lib.Utf8.{encode}
use Rattle.cc_base.specs.Literals.{NumberLiteral}
use Rattle.cc_base.specs.Names.{IsName, is_reserved, reserved_words}
use Rattle.cc_capture.specs.Elements.{element_order, same_element}
use Rattle.cc_capture.specs.Rising.{placed}
use Rattle.cc_capture.specs.Sets.{contains, empty, insert, from_list, retain, remove, union, flat_image, same_set, is_subset}
use Rattle.cc_core.specs.Contexts.{Context}
use Rattle.cc_core.specs.Shapes.{capturing}
use Rattle.cc_core.specs.Terms.{Absent, LiteralTerm}
use Rattle.cc_grammar.specs.Syntax.{ImportSyntax, LiteralExpr, ModuleSyntax}
use Rattle.cc_grammar.specs.Tests.{operation_named}
use Rattle.cc_grammar.specs.Reading.{reading_of, module_at, imports_at, import_at, defs_at, def_at, def_rule_at, part_at, expr_over, links_at, next_link, link_at, dot_at, operation_at, link_rule_at, expr_start_at, fun_at, expr_rule_at, type_over, shape_over, shape_start_at, paren_at, named_at, shape_rule_at, one_part_at, written_at, captures_at, set_at, caret_at, elements_at, name_at, placed_name_at, symbol_at, word_at}
use Rattle.cc_lex.specs.Cutting.{word_of, short_symbol, pair_symbol, front_of, blank_of, token_of, number_of}
use Rattle.cc_checking_laws.specs.AcceptedDefinitions.{accepted_derived}
use Rattle.cc_checking_laws.specs.ExampleDefinitions.{leaf}
use Rattle.cc_checking_laws.proofs.ComputedVerdicts.{verdict_in, verdict_in_steps}
use Rattle.cc_mnf.specs.Steps.{followed, gives, refuses, new_hole, with_own_holes}
use Rattle.cc_mnf.specs.ElaboratedTypes.{elaborated_shape, elaborated_type, with_elements}
use Rattle.cc_mnf.specs.Elaboration.{elaborated}
use Rattle.cc_mnf.specs.ElaboratedModules.{CoreDefinition, IsElaborated, elaboration, device_names}
use Rattle.cc_checking.specs.Comparison.{comparison, by_form}
use Rattle.cc_checking.specs.CanonicalDerivations.{shape_derived, form_derived}
use Rattle.cc_checking.specs.DerivationSizes.{nodes}
use Rattle.cc_checking.specs.ComparisonExamples.{number}
use Rattle.cc_checking.specs.ExampleChecks.{place}
use Rattle.cc_checking.specs.Outcomes.{◌>>=◌}
use Rattle.cc_checking.specs.Verdicts.{Accepted}
use Rattle.cc_checking.specs.Verdicts as definitions
use Rattle.cc_verdicts.specs.ExampleModules.{console, named}
use Rattle.cc_verdicts.specs.ModuleVerdicts.{IsAccepted, HasModuleVerdict, declared_context, to_be_checked, is_judged, no_more, accepted_first}
use Rattle.cc_verdicts.specs.Readings.{IsTree, imports_in, imports_of, reading_of_text}
use Rattle.cc_verdicts.proofs.ReadingLaws.{text_has_one_reading}
use Rattle.cc_certificate_laws.specs.ModuleCertificates.{AreNamed}
use Rattle.cc_certificate_laws.specs.ModuleExamples.{ANumberIsCertified}
use Rattle.cc_certificate_laws.proofs.CertifiedModules.{modules_certified}

abbrev pub globals : Context
globals = declared_context console

-- def a = 1
abbrev text : List ℕ
text = codes "def a = 1"

abbrev tree : ModuleSyntax
tree = record {
  imports = [];
  defs = record {
    own = false;
    name = codes "a";
    name_at = place 1 5;
    written = None;
    right = LiteralExpr (place 1 9) (NumberLiteral (pos 1));
  } ∷ [];
}

abbrev one : CoreDefinition
one = record {
  name = codes "a";
  name_at = place 1 5;
  note = Absent;
  recursive = false;
  right = LiteralTerm (NumberLiteral (pos 1));
  places = leaf (place 1 9);
}

-- what it is accepted as
abbrev pub accepted_of : Option definitions.Verdict → Accepted
accepted_of (Some (definitions.IsAccepted accepted)) = accepted
accepted_of _ =
    record {
      note = Absent;
      filled = LiteralTerm (NumberLiteral (pos 1));
      type = capturing number empty;
      signature = capturing number empty;
    }

abbrev own : Accepted
own = accepted_of (verdict_in 9 1 globals (to_be_checked one))

one_accepted : definitions.HasVerdict 1 globals (to_be_checked one) (definitions.IsAccepted own)
unfolding ◌>>=◌ comparison by_form same_set contains flat_image from_list union retain remove insert placed element_order same_element empty is_subset
one_accepted = verdict_in_steps 9 1 globals (to_be_checked one) (definitions.IsAccepted own) refl

few : nodes (accepted_derived globals own) ≤ 100000
unfolding ◌>>=◌ comparison by_form same_set contains flat_image from_list union retain remove insert placed element_order same_element empty is_subset shape_derived form_derived
few = omega arith

read : IsTree tree ≡ reading_of_text text
unfolding reading_of_text word_of short_symbol pair_symbol front_of blank_of token_of number_of unicode_ident encode is_utf8 utf8_valid_len chars reading_of module_at imports_at import_at defs_at def_at def_rule_at part_at expr_over links_at next_link link_at dot_at operation_at link_rule_at expr_start_at fun_at expr_rule_at type_over shape_over shape_start_at paren_at named_at shape_rule_at one_part_at written_at captures_at set_at caret_at elements_at name_at placed_name_at symbol_at word_at operation_named
read = refl

elaborates : elaboration (device_names console) tree ≡ IsElaborated (record { imports = []; definitions = one ∷ [] })
unfolding followed gives refuses new_hole with_own_holes elaborated_shape elaborated_type with_elements elaborated elaboration
elaborates = refl

verdict : HasModuleVerdict console text [] (IsAccepted (named (codes "a") own ∷ []))
verdict =
    is_judged ((text_has_one_reading text (IsTree tree)).1 read) refl elaborates
    (accepted_first {first = one} {rest = []} one_accepted no_more)

out_is_a_name : IsName (codes "out")
unfolding unicode_ident is_reserved reserved_words
out_is_a_name = refl

out_alone : IsDistinct bytes_eq (codes "out" ∷ [])
unfolding IsDistinct
out_alone = (tt, tt)

pub console_named : AreNamed console
console_named = record { named = (out_is_a_name, tt); apart = out_alone }

pub no_imports : {o : Option (List ImportSyntax)} → o ≡ Some [] → 0 ≡ length (unwrap_or o [])
no_imports e = ap (λ x. length (unwrap_or x [])) (sym e)

pub a_number_is_certified : ANumberIsCertified
a_number_is_certified =
    let none : imports_of text ≡ Some [] = ap imports_in (sym read) in (
      own,
      verdict,
      modules_certified console [] [] [] (named (codes "a") own) console_named
          (record {
            text = text;
            imports_are = none;
            after = [];
            accepted = verdict;
            fit = record { one_each = no_imports none; over_devices = tt };
            low = tt;
          }) few,
    )
