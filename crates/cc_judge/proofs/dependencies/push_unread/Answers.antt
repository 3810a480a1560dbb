use Rattle.std.specs.Option.{option_map}
use Rattle.cc_parse.specs.Trees.{imports_syntax}
use Rattle.cc_judge.proofs.PushedPlaces.{unread_more, unread_end, unread_start}
use Rattle.cc_judge.proofs.dependencies.push_unread.Goals as goal

pub loop-place-init : goal.loop-place-init
loop-place-init c = unread_start _ c.args.places.now.items c.requires

pub loop-place-preserved : goal.loop-place-preserved
loop-place-preserved c =
    unread_more c.args.readings.now c.loop-place.place c.index-readings-place.result
    (option_map imports_syntax c.imports.result.now) c.loop-place.places.items c.push_if_unread.new.places.items
    c.loop-place-test.true c.index-readings-place.is c.imports.ensures c.loop-place.invariant
    c.in_ok-push_if_unread.ensures

pub returns : goal.returns
returns c = unread_end c.args.readings.now c.loop-place.place c.loop-place.places.items c.loop-place-test.false c.loop-place.invariant
