-- The worked entry, by computation.
use Rattle.std.proofs.Common.{◌≡◌, ℕ, true, codes, List, [], ◌∷◌, refl, sym, subst, inl, inr, ap}
use Rattle.std.proofs.lemmas.Bool.{cases_Bool}
use Rattle.std.specs.Str.{bytes_eq, chars, is_utf8}
use Rattle.std.specs.Str.Lossy.{utf8_valid_len}
use Rattle.unicode_ident.proofs.Computing.{unicode_ident}
use lib.Utf8.{encode}
use Rattle.cc_capture.specs.Elements.{element_order, same_element}
use Rattle.cc_capture.specs.Rising.{placed}
use Rattle.cc_capture.specs.Sets.{contains, empty, insert, from_list}
use Rattle.cc_core.specs.Programs.{is_listed}
use Rattle.cc_graph.specs.Graph.{ImportMap, does_import, Reaches, one_step, more_steps}
use Rattle.cc_graph.proofs.NameLemmas.{same_name}
use Rattle.cc_graph.proofs.OrderLemmas.{among_listed}
use Rattle.cc_graph.proofs.Paths.{first_step}
use Rattle.cc_grammar.specs.Tests.{operation_named}
use Rattle.cc_grammar.specs.Reading.{reading_of, module_at, imports_at, import_at, defs_at, def_at, def_rule_at, part_at, expr_over, links_at, next_link, link_at, dot_at, operation_at, link_rule_at, expr_start_at, fun_at, expr_rule_at, type_over, shape_over, shape_start_at, paren_at, named_at, shape_rule_at, one_part_at, written_at, captures_at, set_at, caret_at, elements_at, name_at, placed_name_at, symbol_at, word_at}
use Rattle.cc_lex.specs.Cutting.{word_of, short_symbol, pair_symbol, front_of, blank_of, token_of, number_of}
use Rattle.cc_verdicts.specs.PresentTexts.{graph_of}
use Rattle.cc_verdicts.specs.Readings.{reading_of_text}
use Rattle.cc_entry_laws.specs.PresentEntries.{program_entry, IsReached}
use Rattle.cc_entry_laws.specs.ExampleEntries as example

-- the import graph of the two texts
abbrev pub two_modules : ImportMap
two_modules = (codes "app", codes "lib" ∷ []) ∷ (codes "lib", []) ∷ []

pub graph_is : graph_of example.two_texts ≡ two_modules
unfolding graph_of reading_of_text word_of short_symbol pair_symbol front_of blank_of token_of number_of unicode_ident encode is_utf8 utf8_valid_len chars reading_of module_at imports_at import_at defs_at def_at def_rule_at part_at expr_over links_at next_link link_at dot_at operation_at link_rule_at expr_start_at fun_at expr_rule_at type_over shape_over shape_start_at paren_at named_at shape_rule_at one_part_at written_at captures_at set_at caret_at elements_at name_at placed_name_at symbol_at word_at operation_named
graph_is = refl

-- where imports lead
from_application : (from to : List ℕ) → from ≡ codes "app" → does_import two_modules from to ≡ true → to ≡ codes "lib"
unfolding does_import
from_application from to same is =
    let P : List ℕ → Type 0 = λ x. does_import two_modules x to ≡ true in
    elim (among_listed (codes "lib" ∷ []) to (subst P same is)) [ inl it ↦ sym it | inr none ↦ absurd none ]

from_library : (from to : List ℕ) → from ≡ codes "lib" → does_import two_modules from to ≡ true → ⊥
unfolding does_import
from_library from to same is =
    let P : List ℕ → Type 0 = λ x. does_import two_modules x to ≡ true in
    let none = subst P same is in cc

path_from_application : (from to : List ℕ) → Reaches two_modules from to → from ≡ codes "app" → to ≡ codes "lib"
path_from_application from to (one_step is) same = from_application from to same is
path_from_application from to (more_steps {between = between} is rest) same =
    absurd
    (let (next, by) = first_step (does_import two_modules) rest in
    from_library between next (from_application from between same is) by)

library_imported : does_import two_modules (codes "app") (codes "lib") ≡ true
unfolding does_import
library_imported = refl

listed_two : (other : List ℕ) → is_listed (program_entry example.main_entry).modules other ≡ true → IsReached two_modules (codes "app") other
listed_two other listed =
    elim (cases_Bool (bytes_eq (codes "lib") other)) [
      | inl same ↦
          (let P : List ℕ → Type 0 = λ x. IsReached two_modules (codes "app") x in
          subst P (same_name (codes "lib") other same) (inr (one_step library_imported)))
      | inr apart ↦
          elim (cases_Bool (bytes_eq (codes "app") other)) [
            | inl same ↦ inl (sym (same_name (codes "app") other same))
            | inr none ↦ absurd (let no = rw (apart, none) at listed in cc)
          ]
    ]

two_listed : (other : List ℕ) → IsReached two_modules (codes "app") other → is_listed (program_entry example.main_entry).modules other ≡ true
two_listed other (inl same) = ap (λ x. is_listed (program_entry example.main_entry).modules x) same
two_listed other (inr path) =
    ap (λ x. is_listed (program_entry example.main_entry).modules x) (path_from_application (codes "app") other path refl)

pub main_has_its_entry : example.MainHasItsEntry
unfolding reading_of_text word_of short_symbol pair_symbol front_of blank_of token_of number_of unicode_ident encode is_utf8 utf8_valid_len chars reading_of module_at imports_at import_at defs_at def_at def_rule_at part_at expr_over links_at next_link link_at dot_at operation_at link_rule_at expr_start_at fun_at expr_rule_at type_over shape_over shape_start_at paren_at named_at shape_rule_at one_part_at written_at captures_at set_at caret_at elements_at name_at placed_name_at symbol_at word_at operation_named contains same_element from_list insert placed element_order empty
main_has_its_entry = (
  refl,
  record {
    shapes = refl;
    present = (refl, (refl, tt));
    reached = λ other.
        let P : ImportMap → Type 0 = λ g. IsReached g (codes "app") other in (
          λ listed. subst P (sym graph_is) (listed_two other listed),
          λ reached. two_listed other (subst P graph_is reached),
        );
    order = refl;
    of_module = refl;
    of_definition = refl;
    permits = refl;
  },
)

pub numbers_have_none : example.NumbersHaveNone
numbers_have_none = refl
