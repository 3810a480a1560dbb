use Rattle.cc_vouching.proofs.OneAnswer.{answers_exist, answers_unique, all_answers_exist, all_answers_unique}
use Rattle.cc_vouching.proofs.vouching_laws.modules_have_one_answer.Goals as goal

pub returns : goal.returns
returns c = record {
  exist = answers_exist;
  unique = answers_unique;
  all_exist = all_answers_exist;
  all_unique = all_answers_unique;
}
