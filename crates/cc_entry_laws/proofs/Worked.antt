-- Worked links, by computation.
use Rattle.std.proofs.Common.{◌≡◌, ℕ, codes, List, [], ◌∷◌, refl, sym, subst, ◌∙◌, inl, inr, arith}
use Rattle.std.specs.List.{Contains}
use Rattle.std.specs.Str.{chars, is_utf8}
use Rattle.std.specs.Str.Lossy.{utf8_valid_len}
use Rattle.unicode_ident.proofs.Computing.{unicode_ident}
use lib.Utf8.{encode}
use Rattle.cc_capture.specs.Elements.{element_order, same_element}
use Rattle.cc_capture.specs.Rising.{placed}
use Rattle.cc_capture.specs.Sets.{contains, empty, insert, from_list}
use Rattle.cc_grammar.specs.Tests.{operation_named}
use Rattle.cc_grammar.specs.Reading.{reading_of, module_at, imports_at, import_at, defs_at, def_at, def_rule_at, part_at, expr_over, links_at, next_link, link_at, dot_at, operation_at, link_rule_at, expr_start_at, fun_at, expr_rule_at, type_over, shape_over, shape_start_at, paren_at, named_at, shape_rule_at, one_part_at, written_at, captures_at, set_at, caret_at, elements_at, name_at, placed_name_at, symbol_at, word_at}
use Rattle.cc_lex.specs.Cutting.{word_of, short_symbol, pair_symbol, front_of, blank_of, token_of, number_of}
use Rattle.cc_entry_laws.specs.ExampleEntries.{two_texts, two_verdicts}
use Rattle.cc_verdicts.specs.ExampleModules.{console}
use Rattle.cc_verdicts.specs.Readings.{reading_of_text}
use Rattle.cc_explain.specs.Chains.{LeadsAlong, IsChain}
use Rattle.cc_entry_laws.proofs.Positions.{first_or_rest, in_nothing}
use Rattle.cc_entry_laws.specs.PresentLinkExamples as example
use Rattle.cc_entry_laws.specs.PresentLinks.{Target, DefinitionOf, DeviceAt, entry_in}

pub positions_in_order : example.PositionsInOrder
unfolding contains same_element from_list insert placed element_order empty
positions_in_order = refl

pub own_position_is_last : example.OwnPositionIsLast
unfolding contains same_element from_list insert placed element_order empty
own_position_is_last = (refl, refl)

pub entries_of_two_modules : example.EntriesOfTwoModules
unfolding reading_of_text word_of short_symbol pair_symbol front_of blank_of token_of number_of unicode_ident encode is_utf8 utf8_valid_len chars reading_of module_at imports_at import_at defs_at def_at def_rule_at part_at expr_over links_at next_link link_at dot_at operation_at link_rule_at expr_start_at fun_at expr_rule_at type_over shape_over shape_start_at paren_at named_at shape_rule_at one_part_at written_at captures_at set_at caret_at elements_at name_at placed_name_at symbol_at word_at operation_named contains same_element from_list insert placed element_order empty
entries_of_two_modules = (refl, refl, refl, refl)

only_one : {A : Type 0} (x y : A) → Contains (x ∷ []) y → x ≡ y
only_one x y among = elim (first_or_rest x [] y among) [ inl same ↦ same | inr none ↦ in_nothing y none ]

-- what stands in an entry of one
module _ (entry : Target → List Target) (main line : Target) (main_is : entry main ≡ line ∷ [])
    (line_is : entry line ≡ DeviceAt 0 ∷ []) (device_is : entry (DeviceAt 0) ≡ [])
    (main_other : main ≡ DeviceAt 0 → ⊥) (line_other : line ≡ DeviceAt 0 → ⊥) where
  from_device : (from : Target) (path : List Target) → DeviceAt 0 ≡ from → LeadsAlong entry from path (DeviceAt 0)
      → path ≡ []
  from_device from [] same leads = refl
  from_device from (next ∷ path) same leads =
      in_nothing next (subst (λ s. Contains s next) device_is (subst (λ t. Contains (entry t) next) (sym same) leads.0))

  from_line : (from : Target) (path : List Target) → line ≡ from → LeadsAlong entry from path (DeviceAt 0)
      → path ≡ DeviceAt 0 ∷ []
  from_line from [] same leads = absurd (line_other (same ∙ leads))
  from_line from (next ∷ path) same leads =
      let is : DeviceAt 0 ≡ next =
      only_one (DeviceAt 0) next
      (subst (λ s. Contains s next) line_is (subst (λ t. Contains (entry t) next) (sym same) leads.0)) in
      (λ i. sym is i ∷ from_device next path is leads.1 i)

  from_main : (path : List Target) → LeadsAlong entry main path (DeviceAt 0) → path ≡ line ∷ DeviceAt 0 ∷ []
  from_main [] leads = absurd (main_other leads)
  from_main (next ∷ path) leads =
      let is : line ≡ next = only_one line next (subst (λ s. Contains s next) main_is leads.0) in
      (λ i. sym is i ∷ from_line next path is leads.1 i)

  there : IsChain entry main (DeviceAt 0) (main ∷ line ∷ DeviceAt 0 ∷ [])
  there = (
    refl,
    (
      subst (λ s. Contains s line) (sym main_is) (0, omega arith, refl),
      (subst (λ s. Contains s (DeviceAt 0)) (sym line_is) (0, omega arith, refl), refl),
    ),
  )

  only_there : (chain : List Target) → IsChain entry main (DeviceAt 0) chain → chain ≡ main ∷ line ∷ DeviceAt 0 ∷ []
  only_there [] is = absurd is
  only_there (first ∷ path) is =
      (λ i. is.0 i ∷ from_main path (subst (λ t. LeadsAlong entry t path (DeviceAt 0)) is.0 is.1) i)

apart : (module_name name : List ℕ) → DefinitionOf module_name name ≡ DeviceAt 0 → ⊥
apart module_name name is = cc

pub chain_through_the_library : example.ChainThroughTheLibrary
chain_through_the_library chain =
    let entry : Target → List Target = entry_in console two_texts two_verdicts in
    let is = entries_of_two_modules in (
      only_there entry example.app_main example.lib_line is.0 is.1 refl (apart (codes "app") (codes "main"))
          (apart (codes "lib") (codes "line")) chain,
      λ same.
          subst (IsChain entry example.app_main (DeviceAt 0)) (sym same)
          (there entry example.app_main example.lib_line is.0 is.1 refl (apart (codes "app") (codes "main"))
          (apart (codes "lib") (codes "line"))),
    )
