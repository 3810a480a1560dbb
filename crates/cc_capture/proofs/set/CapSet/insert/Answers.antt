use Rattle.cc_capture.proofs.WordSets.{IsSparse-inserted, inserted-set_of}
use Rattle.cc_capture.proofs.set.CapSet.insert.Goals as goal

pub invariant_of-self : goal.invariant_of-self
invariant_of-self c =
    IsSparse-inserted c.insert_number.result c.element_number.result c.self.inside.words.items _
    c.element_number.ensures.within c.self.invariant c.insert_number.ensures.ok c.insert_number.ensures.err

pub returns-clause-ok : goal.returns-clause-ok
returns-clause-ok c =
    inserted-set_of c.insert_number.result c.element_number.result c.self.inside.words.items _
    c.element_number.ensures.within c.self.invariant c.args.elem c.args.self.now c.element_number.ensures.back
    c.self.view_is c.insert_number.ensures.ok
