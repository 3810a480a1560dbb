use Rattle.cc_mnf.proofs.RefusalCodes.{refusals_have_codes}
use Rattle.cc_mnf.proofs.RefusedNames.{refusals_stay, beginnings_are_elaborated}
use Rattle.cc_mnf.proofs.elaboration_laws.refusals.Goals as goal

pub returns : goal.returns
returns c = record { codes = refusals_have_codes; stay = refusals_stay; beginnings = beginnings_are_elaborated }
