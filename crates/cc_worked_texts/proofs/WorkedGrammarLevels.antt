-- How tight each form of an expression is, and how tight an operator wants its operands, by numbers, by computation.
use Rattle.std.proofs.Common.{refl}
use Rattle.cc_worked_texts.specs.GrammarLevels as example

pub levels_of_forms : example.LevelsOfForms
levels_of_forms = record {
  binding = refl;
  function = refl;
  type_function = refl;
  choice = refl;
  boundary = refl;
  less = refl;
  equal = refl;
  sum = refl;
  difference = refl;
  product = refl;
  boxing = refl;
  unboxing = refl;
  named = refl;
  literal = refl;
  parenthesized = refl;
  call = refl;
  type_call = refl;
  asked = refl;
  told = refl;
  exit = refl;
  repetition = refl;
}

pub levels_of_operands : example.LevelsOfOperands
levels_of_operands = record {
  left_of_less = refl;
  left_of_equal = refl;
  left_of_a_sum = refl;
  left_of_a_difference = refl;
  left_of_a_product = refl;
}
