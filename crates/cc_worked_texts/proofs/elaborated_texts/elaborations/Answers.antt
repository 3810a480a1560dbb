use Rattle.cc_worked_texts.proofs.WorkedElaboratedTexts as worked
use Rattle.cc_worked_texts.proofs.elaborated_texts.elaborations.Goals as goal

pub returns : goal.returns
returns c = record {
  argument_is_named = worked.argument_is_named;
  operands_in_operands = worked.operands_in_operands;
  parentheses_start_expressions = worked.parentheses_start_expressions;
  sets_stand_under_lets = worked.sets_stand_under_lets;
  choices_stand_under_lets = worked.choices_stand_under_lets;
  exits_stand_under_lets = worked.exits_stand_under_lets;
  repetitions_have_operands = worked.repetitions_have_operands;
  boundaries_bind_their_exits = worked.boundaries_bind_their_exits;
  names_of_types_are_apart = worked.names_of_types_are_apart;
  local_names_hide = worked.local_names_hide;
  innermost_binder_counts = worked.innermost_binder_counts;
  omitted_sets_are_their_own = worked.omitted_sets_are_their_own;
  holes_are_counted = worked.holes_are_counted;
  positions_are_in_order = worked.positions_are_in_order;
  own_name_is_visible = worked.own_name_is_visible;
  type_functions_may_be_recursive = worked.type_functions_may_be_recursive;
  box_of_a_name_is_a_value = worked.box_of_a_name_is_a_value;
  choices_start_at_their_parentheses = worked.choices_start_at_their_parentheses;
  operations_start_at_their_parentheses = worked.operations_start_at_their_parentheses;
  repetitions_start_at_their_parentheses = worked.repetitions_start_at_their_parentheses;
  short_right_sides = worked.short_right_sides;
}
