-- Worked terms: what may be filled in, and what may not, by the test.
use Rattle.std.proofs.Common.{◌≡◌, true, false, refl, sym, ◌∙◌}
use Rattle.std.proofs.lemmas.Bool.{true≢false}
use Rattle.cc_capture.specs.Elements.{element_order, same_element}
use Rattle.cc_capture.specs.Rising.{placed}
use Rattle.cc_capture.specs.Sets.{contains, empty, from_list, insert, same_set}
use Rattle.cc_capture.specs.Variables.{same_variable}
use Rattle.cc_core.specs.Terms.{Term}
use Rattle.cc_filled.specs.FilledExamples as example
use Rattle.cc_filled.specs.FilledTerms.{IsFilledAs}
use Rattle.cc_filled.specs.FilledTests.{is_filled_as}
use Rattle.cc_filled.proofs.DecidedFillings.{filled_decides}

may : (t u : Term) → is_filled_as t u ≡ true → IsFilledAs t u
may t u e = (filled_decides t u).0 e

may_not : (t u : Term) → is_filled_as t u ≡ false → IsFilledAs t u → ⊥
may_not t u e h = true≢false (sym ((filled_decides t u).1 h) ∙ e)

pub filled_in : example.FilledIn
unfolding contains same_set same_element same_variable empty from_list insert placed element_order
filled_in = record {
  parameter = may _ _ refl;
  another_set = may _ _ refl;
  no_set = may _ _ refl;
  written_set = may _ _ refl;
  note = may _ _ refl;
  written_note = may _ _ refl;
  no_note = may _ _ refl;
  choice = may _ _ refl;
  opened = may _ _ refl;
  written_opened = may _ _ refl;
  inside = may _ _ refl;
}

pub not_filled_in : example.NotFilledIn
unfolding contains same_set same_element same_variable empty from_list insert placed element_order
not_filled_in = record {
  another_set = may_not _ _ refl;
  no_set = may_not _ _ refl;
  still_omitted = may_not _ _ refl;
  another_shape = may_not _ _ refl;
  another_note = may_not _ _ refl;
  new_note = may_not _ _ refl;
  lost_note = may_not _ _ refl;
  another_opened = may_not _ _ refl;
  not_opened = may_not _ _ refl;
  another_variable = may_not _ _ refl;
  another_form = may_not _ _ refl;
  another_body = may_not _ _ refl;
}
