use Rattle.cc_type.proofs.log.is_below.Given as goal

abbrev pub ghosts-decides : goal.ghosts-decides
ghosts-decides a = record { name = a.blank.name; parts = a.blank.parts }
