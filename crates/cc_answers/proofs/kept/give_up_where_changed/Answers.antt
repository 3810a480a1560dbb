use Rattle.cc_answers.proofs.kept.give_up_where_changed.Goals as goal

pub returns-then-not-stays : goal.returns-then-not-stays
returns-then-not-stays c = λ devices old new was stays. c.nothing.ensures devices new
