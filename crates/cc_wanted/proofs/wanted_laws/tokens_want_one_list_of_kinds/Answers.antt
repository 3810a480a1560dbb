use Rattle.cc_wanted.proofs.WantedKinds as kinds
use Rattle.cc_wanted.proofs.wanted_laws.tokens_want_one_list_of_kinds.Goals as goal

pub returns : goal.returns
returns c = kinds.tokens_want_one_list_of_kinds
