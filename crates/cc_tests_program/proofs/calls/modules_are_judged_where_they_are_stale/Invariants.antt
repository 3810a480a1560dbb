use Rattle.cc_tests_program.proofs.calls.modules_are_judged_where_they_are_stale.Given as goal

abbrev pub ghosts-run : goal.ghosts-run
ghosts-run g a = record { name = a.blank.name; parts = a.blank.parts }
