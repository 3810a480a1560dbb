use Rattle.cc_sound_laws.proofs.WorkedTexts.{main_is_accepted, units_are_no_functions, imports_want_earlier_modules}
use Rattle.cc_sound_laws.proofs.example_texts.texts.Goals as goal

pub returns : goal.returns
returns c =
    record { accepted = main_is_accepted; untyped = units_are_no_functions; imports = imports_want_earlier_modules }
