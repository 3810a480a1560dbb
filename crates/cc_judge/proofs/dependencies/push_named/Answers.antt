use Rattle.std.specs.Map.{keys_of}
use Rattle.cc_judge.proofs.PushedPlaces.{named_start, named_more, named_end}
use Rattle.cc_judge.proofs.dependencies.push_named.Goals as goal

pub loop-name-init : goal.loop-name-init
loop-name-init c = named_start (keys_of c.args.texts.now) c.args.places.now.items

pub loop-name-preserved : goal.loop-name-preserved
loop-name-preserved c =
    named_more (keys_of c.args.texts.now) c.args.names.now c.loop-name.name-index c.name-item.result
    c.args.places.now.items c.loop-name.places.items c.push_place.new.places.items c.loop-name-test.true c.name-item.is
    c.loop-name.invariant c.in_ok-push_place.ensures

pub returns : goal.returns
returns c =
    named_end (keys_of c.args.texts.now) c.args.names.now c.loop-name.name-index c.args.places.now.items
    c.loop-name.places.items c.loop-name-test.false c.loop-name.invariant
