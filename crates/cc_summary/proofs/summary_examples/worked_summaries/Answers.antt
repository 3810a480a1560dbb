use Rattle.std.proofs.Common.{refl}
use Rattle.std.specs.Fmt.{digits}
use Rattle.cc_summary.proofs.summary_examples.worked_summaries.Goals as goal

pub returns-clause-three_lines : goal.returns-clause-three_lines
unfolding digits
returns-clause-three_lines c = refl

pub returns-clause-no_indent : goal.returns-clause-no_indent
unfolding digits
returns-clause-no_indent c = refl

pub returns-clause-no_line : goal.returns-clause-no_line
unfolding digits
returns-clause-no_line c = refl

pub returns-clause-empty_last_line : goal.returns-clause-empty_last_line
unfolding digits
returns-clause-empty_last_line c = refl
