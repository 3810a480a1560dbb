use Rattle.std.proofs.Common.{refl, sym}
use Rattle.std.proofs.Math.Logic.{∥∥₁_elim}
use Rattle.cc_machine.specs.Programs.{start_of}
use Rattle.cc_machine.proofs.LoadedCells.{loaded_configuration, loaded_linked, loaded_room}
use Rattle.cc_machine.proofs.machine.Machine.load.Goals as goal

pub invariant_of-result : goal.invariant_of-result
invariant_of-result c = record {
  linked = loaded_linked c.new.ensures.items c.new-2.ensures.items c.new-3.ensures.items refl refl;
  room = loaded_room c.new-2.ensures.items;
  sound = ∥∥₁_elim c.starts_soundly.ensures.sound (hlevel) (λ s. ∣ (
    start_of c.args.program.now,
    s,
    sym (loaded_configuration c.args.program.now c.term.result c.term.ensures c.new.ensures.items c.new-2.ensures.items c.new-3.ensures.items),
  ) ∣₁);
}

pub returns-clause-start : goal.returns-clause-start
returns-clause-start c =
    loaded_configuration c.args.program.now c.term.result c.term.ensures c.new.ensures.items c.new-2.ensures.items c.new-3.ensures.items
