use Rattle.cc_tests_calculus.proofs.subcapturing.counted.Given as goal

abbrev pub ghosts-repeated : goal.ghosts-repeated
ghosts-repeated a = record { name = a.blank.name; parts = a.blank.parts }
