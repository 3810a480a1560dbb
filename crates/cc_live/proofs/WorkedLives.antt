-- Worked live runs, by computation.
use Rattle.std.proofs.Common.{refl}
use Rattle.std.specs.Fmt.{digits}
use Rattle.std.specs.Int.{int_wrap}
use lib.Utf8.{encode}
use Rattle.cc_live.specs.LiveExamples as example
use Rattle.cc_words.specs.Words.{number_of, signed_of}

pub the_host_answers : example.TheHostAnswers
unfolding encode digits int_wrap signed_of number_of
the_host_answers = record {
  printed = refl;
  said = refl;
  seven = refl;
  least = refl;
  greatest = refl;
  ticks = refl;
  two = refl;
  written = refl;
}

pub events_are_told : example.EventsAreTold
unfolding encode digits int_wrap signed_of number_of
events_are_told = record {
  ended = refl;
  exited = refl;
  left_behind = refl;
  stuck = refl;
}

pub other_lines_break : example.OtherLinesBreak
unfolding encode digits int_wrap signed_of number_of
other_lines_break = record {
  number_for_print = refl;
  nothing_for_print = refl;
  space_behind = refl;
  other_letters = refl;
  too_great = refl;
  too_small = refl;
  unit_for_read = refl;
  plus_sign = refl;
  leading_zero = refl;
  nothing_for_read = refl;
  event_for_tick = refl;
  later = refl;
}

pub the_host_stops : example.TheHostStops
unfolding encode digits int_wrap signed_of number_of
the_host_stops = record {
  first = refl;
  second = refl;
  printed = refl;
  waits_first = refl;
  waits_second = refl;
}

pub live_fuel_is_counted : example.LiveFuelIsCounted
unfolding encode digits int_wrap signed_of number_of
live_fuel_is_counted = record {
  none = refl;
  before_an_operation = refl;
  behind_an_operation = refl;
  enough = refl;
}
