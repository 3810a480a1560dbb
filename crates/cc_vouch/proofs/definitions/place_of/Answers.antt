use Rattle.std.proofs.Common.{sym, ap, ◌∙◌}
use Rattle.cc_core.specs.declared.terms.Node.{Node}
use Rattle.cc_core.specs.Places.{Spots, spots_at}
use Rattle.cc_vouch.proofs.OwnSpots.{spots_around}
use Rattle.cc_vouch.proofs.definitions.place_of.Goals as goal

pub returns : goal.returns
returns c =
    let node = c.args.def.now.right.value in
    ap (λ (n : Node). n.at) c.deref.ensures
    ∙ sym (ap (λ (s : Spots). s.at) (spots_around (spots_at node.at node.first node.second) node.form))
