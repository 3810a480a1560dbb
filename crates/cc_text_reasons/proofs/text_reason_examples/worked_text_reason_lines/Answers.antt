use Rattle.std.proofs.Common.{refl}
use Rattle.std.specs.Fmt.{digits}
use lib.Utf8.{encode}
use Rattle.cc_text_reasons.proofs.text_reason_examples.worked_text_reason_lines.Goals as goal

pub returns : goal.returns
unfolding digits encode
returns c = record {
  first_byte = refl;
  later_byte = refl;
  null = refl;
  line_feed = refl;
  at_sign = refl;
  letter = refl;
  currency = refl;
  emoji = refl;
  greatest = refl;
  end_of_text = refl;
  too_great = refl;
  found_word = refl;
  found_symbol = refl;
  found_name = refl;
  found_letter = refl;
  found_number = refl;
  found_text = refl;
  found_end = refl;
  height = refl;
}
