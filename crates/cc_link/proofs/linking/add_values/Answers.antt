use Rattle.std.proofs.Common.{◌+◌, ◌++◌, ◌∙◌, ap, map, take}
use Rattle.std.specs.Prelude.{reverse}
use Rattle.std.proofs.lemmas.List.{take_all}
use Rattle.cc_core.specs.Actions.{renamed_by}
use Rattle.cc_core.specs.Contexts.{entry_of}
use Rattle.cc_core.specs.Programs.{Definition}
use Rattle.cc_link.specs.Linking.{definition_of}
use Rattle.cc_link.proofs.Placements.{items_more}
use Rattle.cc_link.proofs.LinkedValues.{linked_more}
use Rattle.cc_runs.specs.Links.{linked_cell}
use Rattle.cc_machine.specs.Starts.{value_cell, value_entry}
use Rattle.cc_link.proofs.linking.add_values.Goals as goal

pub loop-def-preserved : goal.loop-def-preserved
loop-def-preserved c =
    let defs = c.args.defs.now in
    let index = c.loop-def.def-index in
    let more = items_more definition_of defs index c.def-item.result c.loop-def-test.true c.def-item.is in
    record {
      cells = linked_more value_cell (linked_cell (renamed_by c.args.to.now)) c.loop-def.values.items c.push.new.self.items
          c.in_ok-value.value (map definition_of (take index defs)) (map definition_of (take (index + 1) defs))
          (definition_of c.def-item.result) (map value_cell (reverse c.args.values.now.items))
          c.loop-def.invariant.cells c.in_ok-value.ensures.cell c.in_ok-push.ensures.items more;
      entries = linked_more value_entry (λ (d : Definition). entry_of d.signature) c.loop-def.values.items c.push.new.self.items
          c.in_ok-value.value (map definition_of (take index defs)) (map definition_of (take (index + 1) defs))
          (definition_of c.def-item.result) (map value_entry (reverse c.args.values.now.items))
          c.loop-def.invariant.entries c.in_ok-value.ensures.entry c.in_ok-push.ensures.items more;
    }

pub returns : goal.returns
returns c =
    let all = take_all c.loop-def.def-index c.args.defs.now c.loop-def-test.false in
    record {
      cells = c.loop-def.invariant.cells
          ∙ ap (λ ds. map (linked_cell (renamed_by c.args.to.now)) (reverse (map definition_of ds))
          ++ map value_cell (reverse c.args.values.now.items)) all;
      entries = c.loop-def.invariant.entries
          ∙ ap (λ ds. map (λ (d : Definition). entry_of d.signature) (reverse (map definition_of ds))
          ++ map value_entry (reverse c.args.values.now.items)) all;
    }
