use Rattle.cc_certificate_reading.proofs.Limits.{string_of_200, greatest_local, many_nodes, high_syntax}
use Rattle.cc_certificate_reading.proofs.reading_examples.certificates_at_limits.Goals as goal

pub returns : goal.returns
returns c = record { string = string_of_200; local = greatest_local; nodes = many_nodes; heights = high_syntax }
