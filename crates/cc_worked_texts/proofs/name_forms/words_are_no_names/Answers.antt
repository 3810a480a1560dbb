use Rattle.cc_worked_texts.proofs.WorkedNameForms as worked
use Rattle.cc_worked_texts.proofs.name_forms.words_are_no_names.Goals as goal

pub returns : goal.returns
returns c = worked.words_are_no_names
