use Rattle.cc_tests_calls.proofs.refused.what_finds_no_memory_changes_nothing.Given as goal

abbrev pub ghosts-in_the_end : goal.ghosts-in_the_end
ghosts-in_the_end g a = record { name = a.blank.name; parts = a.blank.parts }
