use Rattle.cc_certificate_judging.proofs.OneJudgement.{certificates_are_judged, trees_are_judged, judgements_are_one}
use Rattle.cc_certificate_judging.proofs.judging_laws.judgements.Goals as goal

pub returns : goal.returns
returns c = record { some = certificates_are_judged; trees = trees_are_judged; one = judgements_are_one }
