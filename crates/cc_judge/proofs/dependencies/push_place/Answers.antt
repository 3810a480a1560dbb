use Rattle.cc_judge.proofs.dependencies.push_place.Goals as goal

pub returns-in-None : goal.returns-in-None
returns-in-None c = λ listed. absurd (let absent = c.in-None.ensures in cc)
