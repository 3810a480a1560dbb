use Rattle.cc_tests_program.proofs.calls.what_is_refused_is_silent.Given as goal

abbrev pub ghosts-run : goal.ghosts-run
ghosts-run g a = record { name = a.blank.name; parts = a.blank.parts }
