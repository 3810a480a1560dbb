-- Two present files by example.
use Rattle.cc_verdicts.specs.ExampleModules.{console}
use Rattle.cc_verdicts.specs.PresentTexts.{AreVerdicts}
use Rattle.cc_entry_laws.specs.ExampleEntries.{two_texts, two_verdicts, main_entry}
use Rattle.cc_entry_laws.specs.PresentFiles.{IsPresentEntry}

-- The verdicts of the worked texts are theirs, so the worked entry, of app.main, is one of these files.
abbrev pub MainIsPresent : Type 0
MainIsPresent = AreVerdicts console two_texts two_verdicts × IsPresentEntry console two_texts main_entry
