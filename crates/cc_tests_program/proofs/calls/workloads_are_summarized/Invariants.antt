use Rattle.cc_tests_program.proofs.calls.workloads_are_summarized.Given as goal

abbrev pub ghosts-run : goal.ghosts-run
ghosts-run g a = record { name = a.blank.name; parts = a.blank.parts }
