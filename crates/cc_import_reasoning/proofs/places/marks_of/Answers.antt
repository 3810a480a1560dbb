use Rattle.std.proofs.Common.{◌∙◌, arith}
use Rattle.cc_judge.specs.KnownGraphs.{entries_of}
use Rattle.cc_import_reasoning.proofs.FoundPlaces.{as_many}
use Rattle.cc_import_reasoning.proofs.MarkedNames.{marked_more}
use Rattle.cc_import_reasoning.proofs.places.marks_of.Goals as goal

pub loop-name-preserved : goal.loop-name-preserved
loop-name-preserved c =
    let modules = c.args.modules.now in
    let before = c.loop-name.invariant in
    record {
      count = c.mark.ensures.count ∙ before.count;
      marks = λ place low.
          marked_more (entries_of modules) c.requires c.args.names.now c.loop-name.name-index c.name-item.result c.loop-name-test.true c.name-item.is
          c.place_near-place.result c.place_near-place.ensures c.loop-name.marks c.mark.new.marks c.mark.ensures.marks
          place (let count = as_many modules in omega arith) (before.marks place low);
    }
