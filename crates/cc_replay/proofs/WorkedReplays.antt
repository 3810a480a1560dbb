-- Worked replays, by computation.
use Rattle.std.proofs.Common.{refl}
use Rattle.std.specs.Fmt.{digits}
use Rattle.std.specs.Int.{int_wrap}
use lib.Utf8.{encode}
use Rattle.cc_words.specs.Words.{number_of, signed_of}
use Rattle.cc_replay.specs.TraceExamples as example

pub answers_come_from_lines : example.AnswersComeFromLines
unfolding encode digits int_wrap signed_of number_of
answers_come_from_lines = record {
  ticks = refl;
  below_zero = refl;
  greatest = refl;
  least = refl;
  two = refl;
  taken = refl;
  said = refl;
  scopes = refl;
}

pub numbers_are_decimal : example.NumbersAreDecimal
unfolding encode digits int_wrap signed_of number_of
numbers_are_decimal = record {
  minus_zero = refl;
  leading_zero = refl;
  plus_sign = refl;
  no_number = refl;
  space_behind = refl;
  too_great = refl;
  too_small = refl;
}

pub events_are_compared : example.EventsAreCompared
unfolding encode digits int_wrap signed_of number_of
events_are_compared = record {
  device = refl;
  operation = refl;
  argument = refl;
  later = refl;
  label = refl;
  missing = refl;
  twice = refl;
}

pub ends_are_compared : example.EndsAreCompared
unfolding encode digits int_wrap signed_of number_of
ends_are_compared = record {
  value = refl;
  steps = refl;
  behind = refl;
  no_end = refl;
  no_lines = refl;
  stuck = refl;
}

pub fuel_is_counted : example.FuelIsCounted
unfolding encode digits int_wrap signed_of number_of
fuel_is_counted = record {
  none = refl;
  enough = refl;
  before_an_operation = refl;
  too_little = refl;
  too_much = refl;
}
