use Rattle.cc_answers.proofs.ExplainingFacts.{finds_more}
use Rattle.cc_answers.proofs.explaining.find_chains.Goals as goal

pub loop-elem-preserved : goal.loop-elem-preserved
loop-elem-preserved c =
    finds_more c.args.links.now c.args.from c.loop-elem.yielded c.in-Some.elem c.loop-elem.all.items c.push_found.new.all.items
    c.in_ok-found.found c.loop-elem.invariant c.in_ok-found.ensures c.in_ok-push_found.ensures
