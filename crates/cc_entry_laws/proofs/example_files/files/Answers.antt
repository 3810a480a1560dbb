use Rattle.cc_entry_laws.proofs.WorkedFiles.{main_is_present}
use Rattle.cc_entry_laws.proofs.example_files.files.Goals as goal

pub returns : goal.returns
returns c = main_is_present
