use Rattle.cc_tests_program.proofs.faults.each_call_fails_in_turn.Given as goal

abbrev pub ghosts-run : goal.ghosts-run
ghosts-run g a = record { name = a.blank.name; parts = a.blank.parts }
