use Rattle.cc_worked_texts.proofs.WorkedNameForms as worked
use Rattle.cc_worked_texts.proofs.name_forms.name_characters.Goals as goal

pub returns : goal.returns
returns c = worked.name_characters
