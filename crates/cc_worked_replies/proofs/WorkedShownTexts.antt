-- What is written of runs, by computation.
use Rattle.std.proofs.Common.{refl}
use Rattle.std.specs.Fmt.{digits}
use lib.Utf8.{encode}
use Rattle.cc_worked_replies.specs.ShownTexts as example

pub authority_texts : example.AuthorityTexts
unfolding encode digits
authority_texts = record {
  none = refl;
  one = refl;
  three = refl;
}

pub event_texts : example.EventTexts
unfolding encode digits
event_texts = record {
  prints = refl;
  prints_below_zero = refl;
  says = refl;
  says_two_bytes = refl;
  says_nothing = refl;
  reads = refl;
  writes = refl;
  ticks = refl;
  unit = refl;
  truth = refl;
  enters = refl;
  leaves = refl;
  exits = refl;
}

pub value_texts : example.ValueTexts
unfolding encode digits
value_texts = record {
  unit = refl;
  yes = refl;
  no_truth = refl;
  number = refl;
  below_zero = refl;
  text = refl;
  bytes = refl;
  function = refl;
  type_function = refl;
  box_text = refl;
  device = refl;
  exit = refl;
}

pub end_texts : example.EndTexts
unfolding encode digits
end_texts = record {
  done = refl;
  one_step = refl;
  out_of_fuel = refl;
  stuck = refl;
  done_is_finished = refl;
  out_of_fuel_is_not = refl;
  stuck_is_not = refl;
}

pub task_texts : example.TaskTexts
unfolding encode digits
task_texts = record {
  ending = refl;
  event = refl;
}
