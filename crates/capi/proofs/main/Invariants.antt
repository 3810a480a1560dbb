use Rattle.capi.proofs.main.Given as goal

abbrev pub ghosts-program : goal.ghosts-program
ghosts-program a = record { name = a.blank.name; parts = a.blank.parts }
