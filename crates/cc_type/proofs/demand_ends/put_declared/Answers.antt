use Rattle.std.proofs.Common.{Some, ap, ◌∙◌}
use Rattle.std.specs.Option.{option_map}
use Rattle.cc_core.specs.TermViews.{bind_of}
use Rattle.cc_known.proofs.DemandEnds.{puts_no_entry, puts_no_set}
use Rattle.cc_type.proofs.demand_ends.put_declared.Goals as goal

pub returns-in-TVar : goal.returns-in-TVar
returns-in-TVar c =
    puts_no_set c.args.right.now c.args.waiting.now c.args.ends.now _ _
    (ap (option_map (λ b. bind_of b.now)) c.in-Some.is ∙ ap (λ b. Some (bind_of b)) c.in-TVar.is)

pub returns-in-None : goal.returns-in-None
returns-in-None c =
    puts_no_entry c.args.right.now c.args.waiting.now c.args.ends.now _
    (ap (option_map (λ b. bind_of b.now)) c.in-None.is)
