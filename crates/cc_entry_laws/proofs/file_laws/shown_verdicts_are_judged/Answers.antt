use Rattle.cc_entry_laws.proofs.ShownVerdicts.{shown_refusals_are_judged, shown_definitions_are_judged}
use Rattle.cc_entry_laws.proofs.file_laws.shown_verdicts_are_judged.Goals as goal

pub returns : goal.returns
returns c = record { refusals = shown_refusals_are_judged; definitions = shown_definitions_are_judged }
